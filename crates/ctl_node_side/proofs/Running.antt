-- Jobs that run after a pass ran before it, or were planned.
use Rattle.std.proofs.Common.{ℕ, ◌≡◌, ◌<◌, ◌∙◌, ◌⊎◌, Bool, true, false, List, [], ◌∷◌, length, map, get_or, All, Any, refl, sym, ap, arith, inl, inr}
use Rattle.std.specs.List.{Contains}
use Rattle.std.proofs.lemmas.Bool.{both_ways, cases_Bool, cond-false, cond-true}
use Rattle.std.proofs.lemmas.List.{get_or-map, length-map}
use Rattle.request_data.specs.declared.state.Final.{Final}
use Rattle.request_data.specs.declared.state.Final.TheVariants as final
use Rattle.request_data.specs.declared.state.JobState.{JobState}
use Rattle.request_data.specs.declared.state.JobState.TheVariants.{Pending, Running, Completing, Ended}
use Rattle.backfill_planner.specs.declared.Placed.{Placed}
use Rattle.job_table.specs.declared.record.JobRecord.{JobRecord}
use Rattle.job_table.specs.declared.record.Part.{Part}
use Rattle.job_table.specs.Changes.{with_left}
use Rattle.job_table.specs.JobStates.{is_running, left}
use Rattle.ctl_state.specs.State.{State}
use Rattle.ctl_pass.specs.Passing.{pass_after}
use Rattle.ctl_pass.specs.Readiness.{placements}
use Rattle.ctl_nodes.specs.Failing.{after_loss, failed, failing, loses, off_lost, parts_kept}
use Rattle.ctl_node_side.specs.Passes.{after_pass}
use Rattle.ctl_node_side.specs.Silence.{any_silent, silent_at, silenced}
use Rattle.ctl_node_side.proofs.Silent.{silenced_none, silenced_some}

-- a job that has lost something doesn't run
left-stops : (to : Final) → is_running (left to) ≡ false
left-stops final.Requeue = refl
left-stops final.Completed = refl
left-stops final.Cancelled = refl
left-stops final.Failed = refl
left-stops final.Timeout = refl
left-stops final.NodeFail = refl

with-stops : (now : ℕ) (to : Final) (rest : List Part) (job : JobRecord) → is_running job.state ≡ false
    → is_running (with_left now to rest job).state ≡ false
with-stops now to [] job stops = left-stops to
with-stops now to (part ∷ later) job stops = stops

failed-stops : (now : ℕ) (job : JobRecord) → is_running (failed now job).state ≡ false
failed-stops now job = elim (cases_Bool (is_running job.state)) [
  | inl runs ↦ rw runs refl
  | inr other ↦ rw other other
]

lost-stops : (now : ℕ) (lost : ℕ → Bool) (job : JobRecord) (state : JobState) → job.state ≡ state
    → is_running (off_lost now lost job state).state ≡ false
lost-stops now lost job Pending is = rw is refl
lost-stops now lost job Running is =
    with-stops now (failing job) (parts_kept lost job.parts) (failed now job) (failed-stops now job)
lost-stops now lost job (Completing to) is = with-stops now to (parts_kept lost job.parts) job (rw is refl)
lost-stops now lost job (Ended to) is = rw is refl

-- so one that runs has lost nothing
runs-same : (now : ℕ) (lost : ℕ → Bool) (job : JobRecord) → is_running (after_loss now lost job).state ≡ true
    → after_loss now lost job ≡ job
runs-same now lost job runs = elim (cases_Bool (loses lost job)) [
  | inl some ↦
      let is = cond-true (loses lost job) (off_lost now lost job job.state) job some in
      absurd (both_ways _ (lost-stops now lost job job.state refl) (ap (λ (one : JobRecord). is_running one.state) (sym is) ∙ runs))
  | inr none ↦ cond-false (loses lost job) (off_lost now lost job job.state) job none
]

ran-before : (now : ℕ) (lost : ℕ → Bool) (jobs : List JobRecord) (job : JobRecord)
    → Contains (map (after_loss now lost) jobs) job → is_running job.state ≡ true → Contains jobs job
ran-before now lost jobs job (k, below, is) runs =
    let change = after_loss now lost in
    let here : k < length jobs = omega (arith, below, length-map jobs change) in
    let one = get_or jobs k job in
    let became : change one ≡ job = sym (get_or-map change jobs k job job here) ∙ is in
    let same = runs-same now lost one (ap (λ (one : JobRecord). is_running one.state) became ∙ runs) in
    (k, here, sym same ∙ became)

pub silenced_ran : (s : State) (now : ℕ) (job : JobRecord) → Contains (silenced s now).jobs job
    → is_running job.state ≡ true → Contains s.jobs job
silenced_ran s now job has runs = elim (cases_Bool (any_silent s now)) [
  | inl some ↦
      ran-before now (silent_at s now) s.jobs job
      (rw (ap (λ (t : State). t.jobs) (silenced_some s now some)) at has) runs
  | inr none ↦ rw (ap (λ (t : State). t.jobs) (silenced_none s now none)) at has
]

abbrev pub StartedPlanned : Type 0
StartedPlanned = (s : State) (now : ℕ)
    → All (λ (job : JobRecord). is_running job.state ≡ true
    → Contains s.jobs job
    ⊎ Any (λ (placed : Placed). (placed.id ≡ job.id) × (placed.start ≡ now)) (placements s now))
    (pass_after s now).jobs

pub started_planned : StartedPlanned → (s : State) (now : ℕ)
    → All (λ (job : JobRecord). is_running job.state ≡ true
    → Contains s.jobs job
    ⊎ Any (λ (placed : Placed). (placed.id ≡ job.id) × (placed.start ≡ now)) (placements (silenced s now) now))
    (after_pass s now).jobs
started_planned planned s now k d below runs =
    let job = get_or (after_pass s now).jobs k d in
    elim (planned (silenced s now) now k d below runs) [
      | inl ran ↦ inl (silenced_ran s now job ran runs)
      | inr started ↦ inr started
    ]
