-- Laws of what associations have used.
use Rattle.std.specs.Prelude.{◌≡◌, ℕ, ◌+◌, ◌-◌, ◌*◌, max, min, false, List, [], ◌∷◌, ◌++◌, Some}
use Rattle.request_data.specs.declared.request.Request.{Request}
use Rattle.request_data.specs.declared.target.Target.{Target}
use Rattle.ctl_state.specs.State.{State}
use Rattle.ctl_core.specs.Step.{state_after}
use Rattle.ctl_desk.specs.declared.entry.Entry.{Entry}
use Rattle.ctl_desk.specs.History.{after_all}
use Rattle.sacct_book.specs.declared.window.Window.{Window}
use Rattle.sacct_book.specs.Naming.{changed_by, run_by_others}
use Rattle.sacct_book.specs.Requests.{may_change_running}
use Rattle.sacct_book.specs.Running.{cpus_run_by}
use Rattle.sacct_book.specs.Used.{used_at}
use Rattle.sacct_book.specs.Windows.{seconds_in}

-- Before the first entry it is what the opening's jobs hold that run.
abbrev pub BeginsWithTheOpening : Type 0
BeginsWithTheOpening = (opening : State) (place : ℕ) (window : Window) (now : ℕ)
    → used_at (record { opening = opening; entries = [] }) place window now
    ≡ cpus_run_by opening.jobs place * seconds_in window opening.moment now

-- An entry leaves what was used until its moment, and adds what the jobs hold that run after it.
abbrev pub GrowsByWhatRuns : Type 0
GrowsByWhatRuns = (opening : State) (entries : List Entry) (e : Entry) (place : ℕ) (window : Window) (now : ℕ)
    → used_at (record { opening = opening; entries = entries ++ e ∷ [] }) place window now
    ≡ used_at (record { opening = opening; entries = entries }) place window e.moment
    + cpus_run_by (after_all opening (entries ++ e ∷ [])).jobs place * seconds_in window e.moment now

-- The seconds in a window are those from the later beginning until the earlier end.
abbrev pub LiesBetween : Type 0
LiesBetween = (window : Window) (from until : ℕ)
    → seconds_in window from until ≡ min until window.until - max from window.from

-- Only passes, reports, cancels, requeues and nodes that are set down change what the jobs of an association hold that
-- run.
abbrev pub LeavesWhatRuns : Type 0
LeavesWhatRuns = (s : State) (now : ℕ) (user : List ℕ) (request : Request) → may_change_running request ≡ false
    → (place : ℕ) → cpus_run_by (state_after s now user request).jobs place ≡ cpus_run_by s.jobs place

-- Whatever a request does, jobs that aren't named by the targets that it may change hold while they run what they held.
abbrev pub LeavesOthers : Type 0
LeavesOthers = (s : State) (now : ℕ) (user : List ℕ) (request : Request) (targets : List Target)
    → changed_by s request ≡ Some targets → (place : ℕ)
    → run_by_others targets (state_after s now user request).jobs place ≡ run_by_others targets s.jobs place
