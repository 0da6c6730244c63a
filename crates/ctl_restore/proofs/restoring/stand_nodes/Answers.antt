use Rattle.ctl_restore.proofs.Fitting.{all-empty-once}
use Rattle.ctl_restore.proofs.restoring.stand_nodes.Goals as goal

pub restore_nodes-requires-clause-empty : goal.restore_nodes-requires-clause-empty
restore_nodes-requires-clause-empty c =
    rw (c.as_slice-2.ensures.value, c.in_ok-lines.ensures) (all-empty-once c.args.saved.now c.requires.standing)
