use Rattle.ctl_state.specs.State.{state_of}
use Rattle.ctl_reconfigure.proofs.Putting.{all-moved}
use Rattle.ctl_reconfigure.proofs.moves.move_all.Goals as goal

pub returns-clause-state : goal.returns-clause-state
returns-clause-state c = λ conf are.
    rw (
      c.move_parts.ensures.records,
      c.move_parts.ensures.usage,
      c.move_nodes.ensures,
      c.deref.ensures.value,
      c.deref-2.ensures.value,
    )
    (all-moved (state_of c.args.cluster.now) conf c.args.moves _ are (c.move_plan.ensures _ _ are.stay are.shares))
