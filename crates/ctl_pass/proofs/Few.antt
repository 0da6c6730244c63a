-- There are no more starts and stays than jobs, and no more of these than numbers.
use Rattle.std.proofs.Common.{◌≡◌, ℕ, ◌+◌, ◌≤◌, Bool, ◌&&◌, not, eqb, List, [], ◌∷◌, ◌++◌, length, map, filter, Option, Some, None, refl, arith, inl, inr}
use Rattle.std.specs.Prelude.{option_to_list}
use Rattle.std.proofs.lemmas.Bool.{cases_Bool}
use Rattle.std.proofs.lemmas.List.{length-map, length-append}
use Rattle.std.proofs.lemmas.List.Sorted.{length_permutation}
use Rattle.std.proofs.lemmas.List.Sums.{length-filter, count_by-le-length}
use Rattle.resource_profile.specs.declared.Hold.{Hold}
use Rattle.backfill_planner.specs.declared.Placed.{Placed}
use Rattle.backfill_planner.specs.declared.job.PlanJob.{PlanJob}
use Rattle.backfill_planner.specs.Bases.{BaseView}
use Rattle.backfill_planner.specs.Plans.{plan_beside, plan_of, placed_of, holds_of}
use Rattle.job_table.specs.declared.record.JobRecord.{JobRecord}
use Rattle.ctl_state.specs.Laws.{OrderMoves}
use Rattle.ctl_state.specs.Ordered.{ordered_by}
use Rattle.ctl_state.specs.Soundness.{IsSound}
use Rattle.ctl_state.specs.State.{State}
use Rattle.ctl_waiting.specs.Rank.{is_higher}
use Rattle.ctl_pass.specs.Limits.{timed_out}
use Rattle.ctl_pass.specs.Passing.{outcome}
use Rattle.ctl_waiting.specs.Candidates.{is_candidate, candidates, needs_of, ranked}
use Rattle.ctl_pass.specs.Readiness.{goes, jobs_left, ready, base_of, planned, placements}
use Rattle.ctl_pass.specs.Starting.{started, begun, start_of, may_start}
use Rattle.ctl_pass.proofs.Planned.{few-jobs}
use Rattle.ctl_pass.proofs.Ranks.{filter_map-less}
use Rattle.list_lemmas.proofs.Filters.{filter-less}

-- each placement starts or stays
each-goes : (s : State) (now : ℕ) (jobs : List JobRecord) (plan : List Placed)
    → length (started s now jobs plan).starts + length (started s now jobs plan).stays ≡ length plan
unfolding started
each-goes s now jobs [] = refl
each-goes s now jobs (placed ∷ later) = elim (cases_Bool (eqb placed.start now && may_start s jobs placed.id)) [
  | inl goes ↦ rw goes (omega (arith, each-goes s now (begun now jobs (start_of s.nodes jobs placed)) later))
  | inr stays ↦ rw stays (omega (arith, each-goes s now jobs later))
]

plan-less : (base : BaseView) (now : ℕ) (jobs : List PlanJob) (holds : List Hold)
    → length (plan_beside base now holds jobs) ≤ length jobs
unfolding plan_beside
plan-less base now [] holds = omega arith
plan-less base now (job ∷ later) holds =
    let placed = placed_of base.rooms holds job now base.horizon in
    omega (
      arith,
      length-append (option_to_list placed) (plan_beside base now (holds ++ holds_of job placed) later),
      one-most placed,
      plan-less base now later (holds ++ holds_of job placed),
    )
  where
    one-most : (placed : Option Placed) → length (option_to_list placed) ≤ 1
    one-most None = omega arith
    one-most (Some one) = omega arith

-- a plan has no more placements than there are jobs
pub few-planned : OrderMoves JobRecord → (s : State) (now : ℕ) → IsSound s → length (placements s now) ≤ 67043329
unfolding planned plan_of ranked candidates
few-planned moves s now sound =
    let r = ready s now in
    let chosen = filter (is_candidate r now) r.jobs in
    let sorted = ordered_by (is_higher r now) chosen in
    omega (
      arith,
      plan-less (base_of r now) now (ranked r now) (base_of r now).holds,
      filter_map-less (needs_of r now) sorted,
      length_permutation chosen sorted (moves (is_higher r now) chosen),
      filter-less (is_candidate r now) r.jobs,
      filter-less (λ job. not (goes s now job)) (map (timed_out now) s.jobs),
      length-map s.jobs (timed_out now),
      few-jobs s sound,
    )

pub few-go : OrderMoves JobRecord → (s : State) (now : ℕ) → IsSound s
    → length (outcome s now).starts + length (outcome s now).stays ≤ 67043329
few-go moves s now sound =
    omega (arith, each-goes s now (jobs_left s now) (placements s now), few-planned moves s now sound)
