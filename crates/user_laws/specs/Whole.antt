-- How a pass parts its plan into what starts and what stays planned.
use Rattle.std.specs.Prelude.{◌≡◌, ℕ, Bool, true, ◌&&◌, not, List, filter, All, Any}
use Rattle.std.specs.List.{list_any}
use Rattle.backfill_planner.specs.declared.Placed.{Placed}
use Rattle.job_table.specs.declared.record.JobRecord.{JobRecord}
use Rattle.job_table.specs.JobStates.{is_running}
use Rattle.job_table.specs.Table.{has_id}
use Rattle.ctl_pass.specs.Starting.{HasStarted}

-- the job with this number, one of these, runs
abbrev pub runs : List JobRecord → ℕ → Bool
runs jobs id = list_any (λ (job : JobRecord). has_id id job && is_running job.state) jobs

-- The plan of a moment is parted: the placements of jobs that run then have started, each at this moment and with all
-- that it was planned; and the others stay, in their order.
pub record IsParted (plan : List Placed) (moment : ℕ) (jobs : List JobRecord) (stays : List Placed) : Type 0 where
  pub started : All (λ (placed : Placed). runs jobs placed.id ≡ true → (placed.start ≡ moment)
      × Any (HasStarted moment placed) jobs) plan
  pub rest : stays ≡ filter (λ (placed : Placed). not (runs jobs placed.id)) plan
