use Rattle.std.proofs.Common.{◌≡◌, ℕ, take}
use Rattle.std.specs.List.{list_any}
use Rattle.plain_data.specs.Rows.{has_id}
use Rattle.job_table.specs.Changes.{is_on}
use Rattle.ctl_state.specs.Holding.{parts_of}
use Rattle.ctl_reconfigure.proofs.blocking.places_of_parts.Given as goal

abbrev pub invariant-loop-job : goal.invariant-loop-job
invariant-loop-job l = (place : ℕ)
    → has_id l.places place ≡ list_any (is_on place) (parts_of (take l.job-index l.jobs))
