use Rattle.ctl_state.specs.State.{state_of}
use Rattle.ctl_reconfigure.proofs.Putting.{all-put}
use Rattle.ctl_reconfigure.proofs.reconfiguring.put.Goals as goal

pub returns-clause-state : goal.returns-clause-state
returns-clause-state c = λ moment conf is.
    rw c.move_jobs.ensures.usage
    (all-put (state_of c.args.cluster.now) moment conf c.args.made (state_of c.follow.new.cluster) _ is
    (c.follow.ensures.state conf is.stay is.moves) (c.move_jobs.ensures.records _ _ is.same is.places))
