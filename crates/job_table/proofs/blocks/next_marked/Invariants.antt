-- In the blocks so far the node isn't marked.
use Rattle.std.proofs.Common.{◌≤◌, ◌-◌}
use Rattle.job_table.proofs.Marks.{NoneWithin}
use Rattle.job_table.proofs.blocks.next_marked.Given as goal

abbrev pub invariant-loop-place : goal.invariant-loop-place
invariant-loop-place l = record {
  from : l.from ≤ l.place;
  none : NoneWithin l.blocks l.node l.from l.place;
}

abbrev pub decreases-loop-place : goal.decreases-loop-place
decreases-loop-place l = l.end - l.place
