-- Timelines that tell what associations have used.
use Rattle.std.specs.Prelude.{◌≡◌, ℕ, ◌*◌, ◌<◌, ◌≤◌, List, length, slice_index_or}
use Rattle.job_table.specs.declared.record.JobRecord.{JobRecord}
use Rattle.ctl_state.specs.State.{State}
use Rattle.ctl_desk.specs.History.{History, present}
use Rattle.sacct_book.specs.declared.window.Window.{Window}
use Rattle.sacct_book.specs.Running.{cpus_run_by}
use Rattle.sacct_book.specs.Times.{GoesOn, Times, used_in}
use Rattle.sacct_book.specs.Used.{used_at}

-- The timelines tell what the running jobs of each association hold.
pub record TellsHeld (s : State) (timelines : List Times) : Type 0 where
  pub cpus : (place : ℕ) (d : Times) → place < length timelines
      → (slice_index_or timelines place d).cpus ≡ cpus_run_by s.jobs place
  pub since : (place : ℕ) (d : Times) → place < length timelines
      → (slice_index_or timelines place d).since ≤ s.moment

-- From a moment on they tell what these jobs hold.
pub record AllGoOn (moment : ℕ) (jobs : List JobRecord) (timelines timelines' : List Times) : Type 0 where
  pub each : length timelines' ≡ length timelines
  pub goes : (place : ℕ) (d : Times) → place < length timelines
      → GoesOn moment (cpus_run_by jobs place) (slice_index_or timelines place d) (slice_index_or timelines' place d)

-- there are no more processors
abbrev pub most_cpus : ℕ
most_cpus = 1048576

-- There is a timeline for each association, and tells what it has used in any window.
pub record KeepsUse (h : History) (timelines : List Times) : Type 0 where
  pub each : length timelines ≡ length h.opening.assocs
  pub held : TellsHeld (present h) timelines
  pub used : (place : ℕ) (d : Times) (window : Window) (now : ℕ) → place < length timelines
      → (present h).moment ≤ now
      → used_in (slice_index_or timelines place d) window now ≡ used_at h place window now
  -- a machine's word is wide enough
  pub small : (place : ℕ) (window : Window) (now : ℕ) → (present h).moment ≤ now
      → used_at h place window now ≤ most_cpus * now
