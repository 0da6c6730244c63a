use Rattle.job_table.proofs.Passes.{standings-left}
use Rattle.job_table.proofs.dependency_laws.passes_leave_standings.Goals as goal

pub returns : goal.returns
returns c = standings-left
