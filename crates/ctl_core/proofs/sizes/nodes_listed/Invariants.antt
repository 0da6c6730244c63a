use Rattle.std.proofs.Common.{◌≡◌, ◌≤◌, ◌*◌, take}
use Rattle.std.specs.Prelude.{◌^◌}
use Rattle.ctl_core.specs.Sizes.{nodes_listed}
use Rattle.ctl_core.proofs.sizes.nodes_listed.Given as goal

abbrev pub invariant-loop-partition : goal.invariant-loop-partition
invariant-loop-partition l = record {
  value : l.nodes ≡ nodes_listed (take l.partition-index l.partitions);
  small : l.nodes ≤ l.partition-index * 2 ^ 64;
}
