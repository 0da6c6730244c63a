use Rattle.std.proofs.Common.{◌≡◌, take}
use Rattle.ctl_saved.specs.Saving as spec
use Rattle.ctl_saved.proofs.plan.saved_shares.Given as goal

abbrev pub invariant-loop-share : goal.invariant-loop-share
invariant-loop-share l = l.saved.items ≡ spec.saved_shares l.nodes l.gone (take l.share-index l.shares)
