use Rattle.std.proofs.Common.{sym}
use Rattle.ctl_state.specs.State.{state_of}
use Rattle.ctl_reconfigure.proofs.Putting.{nothing-moves}
use Rattle.ctl_reconfigure.proofs.moves.follow.Goals as goal

pub returns-in-Some-clause-state : goal.returns-in-Some-clause-state
returns-in-Some-clause-state c = λ conf stays are. c.move_all.ensures.state conf (rw c.in-Some.is at are)

pub returns-in_default-clause-state : goal.returns-in_default-clause-state
returns-in_default-clause-state c = λ conf stays are.
    nothing-moves (state_of c.args.cluster.now) conf (sym (rw c.in_default.is at stays))
