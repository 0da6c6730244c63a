use Rattle.job_table.proofs.Charging.{changed-runs_on, runs_on-same, runs_on-twice}
use Rattle.job_table.proofs.laws.jobs_run_on.Goals as goal

pub returns : goal.returns
returns c = record { changes = changed-runs_on; stays = runs_on-same; twice = runs_on-twice }
