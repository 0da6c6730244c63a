-- Each row computes.
use Rattle.std.proofs.Common.{refl}
use Rattle.worked_rows.proofs.Opened.{clusters, headers, told, plans, orders}
use Rattle.worked_rows.proofs.scripts.a_job_over_its_limit.Goals as goal

pub returns : goal.returns
unfolding clusters headers told plans orders
returns c = refl
