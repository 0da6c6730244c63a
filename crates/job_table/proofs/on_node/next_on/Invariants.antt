-- No job so far holds something of the node.
use Rattle.std.proofs.Common.{◌≡◌, ◌≤◌, ◌-◌, false, length}
use Rattle.std.specs.List.{AllWithin}
use Rattle.job_table.specs.declared.record.JobRecord.{JobRecord}
use Rattle.job_table.specs.Blocks.{holds_on}
use Rattle.job_table.proofs.on_node.next_on.Given as goal

abbrev pub invariant-loop-marked : goal.invariant-loop-marked
invariant-loop-marked l = record {
  from : l.from ≤ l.place;
  none : AllWithin (λ (job : JobRecord). holds_on l.node job ≡ false) l.jobs l.from l.place;
}

abbrev pub decreases-loop-marked : goal.decreases-loop-marked
decreases-loop-marked l = length l.jobs - l.place
