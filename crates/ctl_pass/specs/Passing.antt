-- A pass in a state in which no node falls silent: it ends what is over its limit, drops old records, plans the pending
-- jobs, starts those planned at once, and takes from running jobs what the highest of the others needs.
use Rattle.std.specs.Prelude.{◌≡◌, ℕ, ◌+◌, Bool, ◌&&◌, not, nat_eq, if◌then◌else◌, List, [], ◌∷◌, length, map, count_by, All, Option}
use Rattle.reply_data.specs.declared.refusal.Refusal.{Refusal}
use Rattle.reply_data.specs.declared.refusal.Refusal.TheVariants.{AccessDenied}
use Rattle.ctl_state.specs.Events.{become}
use Rattle.ctl_state.specs.State.{State}
use Rattle.ctl_state.specs.Refusals.{refused_if, is_privileged}
use Rattle.std.specs.List.{list_any}
use Rattle.job_table.specs.declared.record.JobRecord.{JobRecord}
use Rattle.job_table.specs.Awaiting.{ShowsAwaited}
use Rattle.job_table.specs.Targets.{is_task_of}
use Rattle.node_state.specs.Reservations.{lasting}
use Rattle.ctl_pass.specs.declared.live_arrays.LiveArrays.{LiveArrays}
use Rattle.ctl_pass.specs.declared.pass.Decided.{Decided}
use Rattle.ctl_pass.specs.Awaiting.{IsPrepared, placements_of}
use Rattle.ctl_pass.specs.Live.{has_array}
use Rattle.ctl_pass.specs.Limits.{is_over}
use Rattle.ctl_waiting.specs.Candidates.{ranked}
use Rattle.ctl_pass.specs.Inputs.{input_of}
use Rattle.ctl_pass.specs.Preempting.{preempted, victims_in}
use Rattle.ctl_pass.specs.Readiness.{arrays_left, jobs_left, ready}
use Rattle.ctl_pass.specs.SamePlans.{same_plans}
pub use Rattle.ctl_pass.specs.Outcome.{begun_in, outcome, placements_due}

-- the state after a pass: the jobs that go for the highest candidate complete, and are charged to their associations
abbrev pub pass_after : State → ℕ → State
pass_after s now = become now (map (preempted now (victims_in s now)) (outcome s now).jobs) (begun_in s now)

-- how many jobs it takes out of Running: those past their limits, and those that go for another
abbrev pub jobs_ended : State → ℕ → ℕ
jobs_ended s now = count_by (is_over now) s.jobs + length (victims_in s now)

-- nothing ends, is dropped or starts, and the plan is the last one
unfoldable pub is_idle : State → ℕ → Bool
is_idle s now =
    nat_eq (jobs_ended s now) 0
    && (nat_eq (length (jobs_left s now)) (length s.jobs)
    && (nat_eq (length (arrays_left (jobs_left s now) s.arrays)) (length s.arrays)
    && (nat_eq (length (lasting now s.reservations)) (length s.reservations)
    && (nat_eq (length (outcome s now).starts) 0
    && same_plans (outcome s now).stays s.plan))))

-- why a pass may be refused
abbrev pub pass_refusals : State → List ℕ → List (Option Refusal)
pass_refusals s user = refused_if (not (is_privileged s user)) AccessDenied ∷ []

-- how many jobs a pass plans
abbrev pub jobs_planned : State → ℕ → ℕ
jobs_planned s now = length (ranked (ready s now) now)

-- these are the numbers of the arrays of which there are tasks among the jobs
pub record HasArrays (jobs : List JobRecord) (arrays : LiveArrays) : Type 0 where
  pub each : (array : ℕ) → has_array arrays array ≡ list_any (is_task_of array) jobs

-- what was decided is what the pass makes, with its plan, and the starts are prepared
pub record IsDecided (s : State) (now : ℕ) (decided : Decided) : Type 0 where
  pub ended : decided.ended ≡ jobs_ended s now
  pub starts : placements_of decided.starts.items ≡ placements_due s now
  pub prepared : All (IsPrepared s.nodes) decided.starts.items
  pub count : length decided.starts.items ≡ length (outcome s now).starts
  pub stays : decided.stays.items ≡ (outcome s now).stays
  pub gone : decided.gone.items ≡ victims_in s now
  pub arrays : HasArrays (jobs_left s now) decided.arrays
  pub awaited : ShowsAwaited decided.awaited s.jobs
  pub planned : decided.planned ≡ input_of s now
