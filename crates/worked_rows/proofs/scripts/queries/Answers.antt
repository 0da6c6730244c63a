-- Each row computes.
use Rattle.std.proofs.Common.{refl}
use Rattle.worked_rows.proofs.Opened.{clusters, headers, told, plans, rows}
use Rattle.worked_rows.proofs.scripts.queries.Goals as goal

pub returns-clause-nothing : goal.returns-clause-nothing
unfolding clusters headers told plans rows
returns-clause-nothing c = refl

pub returns-clause-waiting : goal.returns-clause-waiting
unfolding clusters headers told plans rows
returns-clause-waiting c = refl

pub returns-clause-partitions : goal.returns-clause-partitions
unfolding clusters headers told plans rows
returns-clause-partitions c = refl

pub returns-clause-no_partition : goal.returns-clause-no_partition
unfolding clusters headers told plans rows
returns-clause-no_partition c = refl
