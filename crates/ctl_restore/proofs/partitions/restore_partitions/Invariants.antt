-- The partitions so far are in their states.
use Rattle.std.proofs.Common.{◌≡◌, length}
use Rattle.job_table.specs.Walks.{walked}
use Rattle.ctl_restore.specs.Restored.{restored_partition}
use Rattle.ctl_restore.proofs.partitions.restore_partitions.Given as goal

abbrev pub invariant-loop-place : goal.invariant-loop-place
invariant-loop-place l = record {
  walk : l.partitions ≡ walked (restored_partition l.lines) l.place l.fn.partitions;
  long : length l.partitions ≡ length l.fn.partitions;
  end : l.place-end ≡ length l.fn.partitions;
}
