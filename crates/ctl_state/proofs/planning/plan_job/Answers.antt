use Rattle.std.proofs.Common.{refl}
use Rattle.ctl_state.specs.Planning.{plan_job}
use Rattle.ctl_state.proofs.Choosing.{among-there}
use Rattle.ctl_state.proofs.planning.plan_job.Goals as goal

pub returns-clause-job : goal.returns-clause-job
unfolding plan_job
returns-clause-job c =
    rw (
      ← c.terms-terms.ensures,
      c.in_ok-need_of.ensures.need,
      c.most_on_one.ensures,
      c.is_alone.ensures,
      c.in_ok-nodes_among.ensures,
      c.seconds_of.ensures,
    ) refl

pub returns-clause-nodes : goal.returns-clause-nodes
returns-clause-nodes c =
    rw c.in_ok-nodes_among.ensures
    (among-there c.args.nodes.now c.terms-terms.result.now c.args.places.now c.requires)

pub returns-clause-tasks : goal.returns-clause-tasks
returns-clause-tasks c = c.in_ok-need_of.ensures.tasks
