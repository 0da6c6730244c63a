-- No job so far holds something of the node.
use Rattle.std.proofs.Common.{◌≡◌, false}
use Rattle.std.specs.List.{AllWithin}
use Rattle.job_table.specs.declared.record.JobRecord.{JobRecord}
use Rattle.job_table.specs.Blocks.{holds_on}
use Rattle.job_table.proofs.on_node.first_on.Given as goal

abbrev pub invariant-loop-place : goal.invariant-loop-place
invariant-loop-place l = AllWithin (λ (job : JobRecord). holds_on l.node job ≡ false) l.jobs l.from l.place
