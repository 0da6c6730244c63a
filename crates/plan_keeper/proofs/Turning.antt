-- What the next job's placement is, and how the marks go on.
use Rattle.std.proofs.Common.{◌≡◌, ℕ, ◌+◌, ◌≤◌, ◌<◌, Bool, false, List, length, All, arith, ap, subst, sym, ◌∙◌, inl, inr, get_or, Option, Some, None}
use Rattle.std.specs.Prelude.{IfSome, IfNone}
use Rattle.std.proofs.lemmas.Bool.{cases_Bool}
use Rattle.resource_profile.specs.Counts.{ticked, IsTickedUpTo}
use Rattle.backfill_planner.specs.declared.Placed.{Placed}
use Rattle.backfill_planner.specs.declared.job.PlanJob.{PlanJob}
use Rattle.backfill_planner.specs.Lesser.{NoneBefore}
use Rattle.backfill_planner.specs.Placements.{IsOnRooms}
use Rattle.backfill_planner.specs.Plans.{PlannedView, PlanningView, holds_before, placement_of}
use Rattle.backfill_planner.specs.Staying.{StaysFrom}
use Rattle.plan_keeper.specs.Steady.{IsNamedOnce, IsAsBefore, CanStand, AreSteady}
use Rattle.plan_keeper.specs.Planner.{PlannerLaws}
use Rattle.plan_keeper.specs.Marks.{times_before, AreMarks, Fits, Meets, Without}
use Rattle.plan_keeper.specs.Turns.{IsFound, IsFoundAgain, IsAgain, IsStepped, IsSteppedAgain, StandsAgain}
use Rattle.plan_keeper.proofs.SameFrom.{same-id, same-nodes, same-in_time, same-placed, same-none}
use Rattle.plan_keeper.proofs.Marking.{kept-marks, other-marks, levels}
use Rattle.plan_keeper.proofs.Settled.{steady-fits}
use Rattle.plain_data.specs.declared.seconds.TheConstants.{LAST_START}

-- the job that stood at the place, and what of it holds for the next job
abbrev then : PlannedView → ℕ → PlanJob → PlanJob
then old before job = get_or old.ranked before job

nodes-then : (old : PlannedView) (planning : PlanningView) (before : ℕ) → (stands : StandsAgain old planning before) → All (StaysFrom old.base.rooms (holds_before old.base old.ranked old.moment before) planning.base.rooms (holds_before planning.base planning.ranked planning.moment planning.done) planning.moment) (then old before stands.job).nodes
nodes-then old planning before stands =
    subst (λ nodes. All (StaysFrom old.base.rooms (holds_before old.base old.ranked old.moment before) planning.base.rooms (holds_before planning.base planning.ranked planning.moment planning.done) planning.moment) nodes)
    (sym (same-nodes planning.moment (then old before stands.job) stands.job (stands.was stands.job))) stands.nodes

pub stands-some : PlannerLaws → (old : PlannedView) (planning : PlanningView) (before : ℕ) (placed : Placed) → (stands : StandsAgain old planning before) → old.moment ≤ planning.moment → planning.base.horizon ≤ LAST_START → Some placed ≡ placement_of old.base old.ranked old.moment before (then old before stands.job) → planning.moment ≤ placed.start → placed.start ≤ planning.base.horizon → placement_of planning.base planning.ranked planning.moment planning.done stands.job ≡ Some placed
stands-some laws old planning before placed stands order low was from within =
    let was_job = then old before stands.job in
    let holds = holds_before planning.base planning.ranked planning.moment planning.done in
    sym (same-placed planning.base.rooms holds was_job stands.job planning.moment planning.moment planning.base.horizon (stands.was stands.job) (omega arith))
    ∙ laws.some old.base.rooms (holds_before old.base old.ranked old.moment before) planning.base.rooms holds was_job old.moment planning.moment old.base.horizon planning.base.horizon placed (same-in_time planning.moment was_job stands.job (stands.was stands.job) stands.in_time) order low (nodes-then old planning before stands) (sym was) from within

pub stands-none : PlannerLaws → (old : PlannedView) (planning : PlanningView) (before : ℕ) → (stands : StandsAgain old planning before) → old.moment ≤ planning.moment → None ≡ placement_of old.base old.ranked old.moment before (then old before stands.job) → NoneBefore planning.base.rooms (holds_before planning.base planning.ranked planning.moment planning.done) stands.job planning.moment (old.base.horizon + 1)
stands-none laws old planning before stands order was =
    let was_job = then old before stands.job in
    let holds = holds_before planning.base planning.ranked planning.moment planning.done in
    same-none planning.base.rooms holds was_job stands.job planning.moment (old.base.horizon + 1) (stands.was stands.job)
    (laws.none old.base.rooms (holds_before old.base old.ranked old.moment before) planning.base.rooms holds was_job old.moment planning.moment old.base.horizon (same-in_time planning.moment was_job stands.job (stands.was stands.job) stands.in_time) order (nodes-then old planning before stands) (sym was))

pub stands-nowhere : PlannerLaws → (old : PlannedView) (planning : PlanningView) (before : ℕ) → (stands : StandsAgain old planning before) → old.moment ≤ planning.moment → planning.base.horizon ≤ LAST_START → planning.base.horizon ≤ old.base.horizon → None ≡ placement_of old.base old.ranked old.moment before (then old before stands.job) → placement_of planning.base planning.ranked planning.moment planning.done stands.job ≡ None
stands-nowhere laws old planning before stands order low past was =
    laws.nowhere planning.base.rooms (holds_before planning.base planning.ranked planning.moment planning.done) stands.job planning.moment old.base.horizon planning.base.horizon past low (stands-none laws old planning before stands order was)

-- the marks behind a job that was found again, or wasn't
pub marks-behind : PlannerLaws → (old : PlannedView) (planning : PlanningView) (same : List Bool) (met : ℕ → Bool) (new_same : List Bool) (new_met : ℕ → Bool) (found : Option ℕ) (job : PlanJob) → AreMarks old planning.base planning.ranked planning.moment planning.done same met → planning.done < length planning.ranked → ((d : PlanJob) → get_or planning.ranked planning.done d ≡ job) → All (λ node. node < length planning.base.rooms) job.nodes → IsFound old planning same met found
    → IfSome found (λ before. (new_same ≡ same) × Meets met before new_met) → IfNone found ((new_met ≡ met) × Without same job new_same)
    → AreMarks old planning.base planning.ranked planning.moment (planning.done + 1) new_same new_met
marks-behind laws old planning same met new_same new_met (Some before) job marks below is nodes found some none =
    let again : IsAgain old planning same met before job = rw (is job) at (found job) in
    rw some.0 (kept-marks laws old planning.base planning.ranked planning.moment planning.done same met new_met job before marks below is again.fits (levels old planning.base planning.ranked planning.moment planning.done same met job before marks nodes again.fits) (again.placed job) some.1)
marks-behind laws old planning same met new_same new_met None job marks below is nodes found some none =
    rw none.0 (other-marks laws old planning.base planning.ranked planning.moment planning.done same met new_same job marks below is found none.1)

-- where the next job fits nowhere in the old list it isn't steady
pub not-steady : (old : PlannedView) (planning : PlanningView) (same : List Bool) (met : ℕ → Bool) (job : PlanJob) → AreMarks old planning.base planning.ranked planning.moment planning.done same met → planning.done < length planning.ranked → ((d : PlanJob) → get_or planning.ranked planning.done d ≡ job) → All (λ node. node < length planning.base.rooms) job.nodes → All (IsOnRooms old.base.rooms) old.ranked
    → ((before : ℕ) → IsNamedOnce old.ranked before → Fits old.ranked same (times_before planning.ranked planning.done) met planning.moment job before → ⊥)
    → (steady : ℕ → Bool) → AreSteady old planning.base planning.ranked planning.moment steady → steady planning.done ≡ false
not-steady old planning same met job marks below is nodes old_nodes nowhere steady are = elim (cases_Bool (steady planning.done)) [
  | inr other ↦ other
  | inl settled ↦
      let own = are.each planning.done below settled in
      let job_is : own.job ≡ job = sym (own.is own.job) ∙ is own.job in
      let here : All (λ node. node < length planning.base.rooms) own.job.nodes = rw job_is nodes in
      let there : All (λ node. node < length old.base.rooms) own.job.nodes = subst (λ nodes. All (λ node. node < length old.base.rooms) nodes) (same-nodes planning.moment (get_or old.ranked own.before own.job) own.job (own.was own.job)) (old_nodes own.before own.job own.there) in
      let fits = steady-fits old planning.base planning.ranked planning.moment planning.done same met steady marks are below own settled here there in
      absurd (nowhere own.before own.once_before (rw job_is at fits))
]

-- a steady job stood at the place at which it is found
found-place : (old : PlannedView) (planning : PlanningView) (same : List Bool) (met : ℕ → Bool) (job : PlanJob) (before : ℕ) → ((d : PlanJob) → get_or planning.ranked planning.done d ≡ job) → Fits old.ranked same (times_before planning.ranked planning.done) met planning.moment job before → (own : IsAsBefore old planning.base planning.ranked planning.moment planning.done) → before ≡ own.before
found-place old planning same met job before is fits own =
    let now = planning.moment in
    let job_is : own.job ≡ job = sym (own.is own.job) ∙ is own.job in
    let here : (get_or old.ranked before job).id ≡ job.id = same-id now (get_or old.ranked before job) job (fits.is job) in
    let there : (get_or old.ranked own.before job).id ≡ own.job.id = same-id now (get_or old.ranked own.before job) own.job (own.was job) in
    own.once_before before job fits.there (here ∙ sym (there ∙ ap (λ (one : PlanJob). one.id) job_is))

can-stand : (old : PlannedView) (planning : PlanningView) (same : List Bool) (met : ℕ → Bool) (job : PlanJob) (before : ℕ) → ((d : PlanJob) → get_or planning.ranked planning.done d ≡ job) → Fits old.ranked same (times_before planning.ranked planning.done) met planning.moment job before → IsAsBefore old planning.base planning.ranked planning.moment planning.done → CanStand planning.moment old.base.horizon planning.base.horizon (placement_of old.base old.ranked old.moment before (get_or old.ranked before job))
can-stand old planning same met job before is fits own =
    subst (λ place. CanStand planning.moment old.base.horizon planning.base.horizon (placement_of old.base old.ranked old.moment place (get_or old.ranked place job)))
    (sym (found-place old planning same met job before is fits own)) (own.start job)

-- what was found of a job that fits
pub found-again : (old : PlannedView) (planning : PlanningView) (same : List Bool) (met : ℕ → Bool) (job : PlanJob) (before : ℕ) → planning.done < length planning.ranked → ((d : PlanJob) → get_or planning.ranked planning.done d ≡ job) → Fits old.ranked same (times_before planning.ranked planning.done) met planning.moment job before → (found : Option ℕ) → IsFoundAgain old planning before found → IsFound old planning same met found
found-again old planning same met job before below is fits None not_again = λ steady are. elim (cases_Bool (steady planning.done)) [
  | inr other ↦ other
  | inl settled ↦ absurd (not_again job (can-stand old planning same met job before is fits (are.each planning.done below settled)))
]
found-again old planning same met job before below is fits (Some again) was = λ d.
    rw (is d, was.0) (record { fits = fits; placed = λ e. subst (λ (one : PlanJob). placement_of planning.base planning.ranked planning.moment planning.done one ≡ placement_of old.base old.ranked old.moment before (get_or old.ranked before e)) (is e) (was.1 e) })

-- and how many steps it cost
pub stepped-again : (old : PlannedView) (planning : PlanningView) (same : List Bool) (met : ℕ → Bool) (job : PlanJob) (before one other : ℕ) → planning.done < length planning.ranked → ((d : PlanJob) → get_or planning.ranked planning.done d ≡ job) → Fits old.ranked same (times_before planning.ranked planning.done) met planning.moment job before → IsSteppedAgain old planning before one other → IsStepped old planning one other
stepped-again old planning same met job before one other below is fits stepped = record {
  most = stepped.most;
  steady = λ steady are. elim (cases_Bool (steady planning.done)) [
    | inr unsettled ↦ rw unsettled stepped.most
    | inl settled ↦ rw settled (stepped.free job (can-stand old planning same met job before is fits (are.each planning.done below settled)))
  ];
}

-- a search costs a step, where the job isn't steady
pub stepped-anew : (old : PlannedView) (planning : PlanningView) (one other : ℕ) → ((steady : ℕ → Bool) → AreSteady old planning.base planning.ranked planning.moment steady → steady planning.done ≡ false) → other ≡ ticked one 1 → IsStepped old planning one other
stepped-anew old planning one other none is = record {
  most = step;
  steady = λ steady are. rw (none steady are) step;
}
  where
    step : IsTickedUpTo 1 one other
    step = record { times = 1; few = omega arith; is = is }
