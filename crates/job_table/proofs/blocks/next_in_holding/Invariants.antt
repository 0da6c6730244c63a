-- In the blocks so far no job may hold processors.
use Rattle.std.proofs.Common.{◌≤◌, ◌-◌}
use Rattle.job_table.proofs.Marks.{IdleWithin}
use Rattle.job_table.proofs.blocks.next_in_holding.Given as goal

abbrev pub invariant-loop-place : goal.invariant-loop-place
invariant-loop-place l = record {
  from : l.from ≤ l.place;
  none : IdleWithin l.blocks l.from l.place;
}

abbrev pub decreases-loop-place : goal.decreases-loop-place
decreases-loop-place l = l.end - l.place
