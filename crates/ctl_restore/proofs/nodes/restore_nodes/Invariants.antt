-- The nodes so far stand by their lines.
use Rattle.std.proofs.Common.{◌≡◌, length}
use Rattle.job_table.specs.Walks.{walked}
use Rattle.ctl_restore.specs.Restored.{restored_node}
use Rattle.ctl_restore.proofs.nodes.restore_nodes.Given as goal

abbrev pub invariant-loop-place : goal.invariant-loop-place
invariant-loop-place l = record {
  walk : l.nodes.records ≡ walked (restored_node l.lines) l.place l.fn.nodes.records;
  held : l.nodes.held ≡ l.fn.nodes.held;
  long : length l.nodes.records ≡ length l.fn.nodes.records;
  end : l.place-end ≡ length l.fn.nodes.records;
}
