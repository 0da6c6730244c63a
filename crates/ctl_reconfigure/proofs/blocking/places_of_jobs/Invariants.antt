use Rattle.std.proofs.Common.{◌≡◌, ℕ, take}
use Rattle.std.specs.Prelude.{nat_eq}
use Rattle.std.specs.List.{list_any}
use Rattle.plain_data.specs.Rows.{has_id}
use Rattle.job_table.specs.declared.record.JobRecord.{JobRecord}
use Rattle.ctl_reconfigure.proofs.blocking.places_of_jobs.Given as goal

abbrev pub invariant-loop-job : goal.invariant-loop-job
invariant-loop-job l = (place : ℕ)
    → has_id l.places place ≡ list_any (λ (job : JobRecord). nat_eq job.partition place) (take l.job-index l.jobs)
