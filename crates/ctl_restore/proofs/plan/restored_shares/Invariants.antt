use Rattle.std.proofs.Common.{◌≡◌, take}
use Rattle.ctl_restore.specs.Restored as spec
use Rattle.ctl_restore.proofs.plan.restored_shares.Given as goal

abbrev pub invariant-loop-share : goal.invariant-loop-share
invariant-loop-share l =
    l.restored.items ≡ spec.restored_shares l.nodes.records l.gone.keys (take l.share-index l.shares)
