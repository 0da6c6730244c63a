-- The names of the shares so far.
use Rattle.std.proofs.Common.{◌≡◌, fold, take}
use Rattle.host_lists.specs.Hosts.{with_name}
use Rattle.ctl_restore.specs.Restored as spec
use Rattle.ctl_restore.proofs.plan.add_strangers.Given as goal

abbrev pub invariant-loop-share : goal.invariant-loop-share
invariant-loop-share l =
    l.gone.keys ≡ fold with_name l.initial.gone.keys (spec.strangers l.nodes.records (take l.share-index l.shares))
