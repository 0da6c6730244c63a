-- The placement of a job that is the one at a place of the old list.
use Rattle.std.proofs.Common.{◌≡◌, ℕ, ◌+◌, ◌-◌, ◌≤◌, ◌<◌, Bool, true, false, List, length, All, arith, refl, ap, subst, sym, ◌∙◌, inl, inr, get_or, Option, Some, None}
use Rattle.std.specs.Prelude.{IfSome, IfNone}
use Rattle.std.proofs.lemmas.Bool.{cases_Bool, cases_lt}
use Rattle.resource_profile.specs.declared.NodeRoom.{NodeRoom}
use Rattle.resource_profile.specs.declared.Hold.{Hold}
use Rattle.backfill_planner.specs.declared.Placed.{Placed}
use Rattle.backfill_planner.specs.declared.job.PlanJob.{PlanJob}
use Rattle.backfill_planner.specs.Giving.{window_end}
use Rattle.backfill_planner.specs.Lesser.{NoneBefore}
use Rattle.backfill_planner.specs.Plans.{PlannedView, PlanningView, holds_before, placement_of}
use Rattle.backfill_planner.specs.Staying.{IsNoFreer, StaysBefore}
use Rattle.plan_keeper.specs.Steady.{may_have_node, IsAsBefore, CanStand, AreSteady}
use Rattle.plan_keeper.specs.Kept.{AreKeptTo, BeginsAt, CanStay, IsThen, IsThere}
use Rattle.plan_keeper.specs.Planner.{PlannerLaws}
use Rattle.plan_keeper.proofs.Lowering.{stays-earlier, keeps-earlier}
use Rattle.plan_keeper.proofs.SameFrom.{same-id, same-nodes, same-in_time, same-placed, same-none}
use Rattle.plan_keeper.proofs.Gone.{not-gone}
use Rattle.plan_keeper.proofs.Times.{own-nodes}
use Rattle.plain_data.specs.declared.seconds.TheConstants.{FOREVER, LAST_START}

-- the job that stood at the place
abbrev then : PlannedView → ℕ → PlanJob → PlanJob
then old place job = get_or old.ranked place job

then-ends : (old : PlannedView) (planning : PlanningView) (place : ℕ) (job : PlanJob) (start : ℕ) → IsThere old planning place job → window_end (then old place job) start ≡ window_end job start
then-ends old planning place job start there = ap (λ (one : PlanJob). window_end one start) (there.was job).asks

-- how much is free of its nodes
stay-to : (old : PlannedView) (planning : PlanningView) (place : ℕ) (same no_freer : List ℕ) (job : PlanJob) (until : ℕ) → AreKeptTo old planning place same no_freer → IsThere old planning place job → 0 < until → All (λ node. until ≤ get_or same node 0) job.nodes → All (StaysBefore old.base.rooms (holds_before old.base old.ranked old.moment place) planning.base.rooms (holds_before planning.base planning.ranked planning.moment planning.done) planning.moment until) (then old place job).nodes
stay-to old planning place same no_freer job until kept there some reached =
    let old_holds = holds_before old.base old.ranked old.moment place in
    let new_holds = holds_before planning.base planning.ranked planning.moment planning.done in
    subst (λ nodes. All (StaysBefore old.base.rooms old_holds planning.base.rooms new_holds planning.moment until) nodes) (sym (same-nodes planning.moment (then old place job) job (there.was job)))
    (λ k d below.
    let node = get_or job.nodes k d in
    stays-earlier old.base.rooms old_holds planning.base.rooms new_holds planning.moment (get_or same node 0) until node (reached k d below)
    (kept.stays node (there.nodes k d below) (omega (arith, some, reached k d below))))

keep-to : (old : PlannedView) (planning : PlanningView) (place : ℕ) (same no_freer : List ℕ) (job : PlanJob) (until : ℕ) → AreKeptTo old planning place same no_freer → IsThere old planning place job → 0 < until → All (λ node. until ≤ get_or no_freer node 0) job.nodes → All (IsNoFreer old.base.rooms (holds_before old.base old.ranked old.moment place) planning.base.rooms (holds_before planning.base planning.ranked planning.moment planning.done) planning.moment until) (then old place job).nodes
keep-to old planning place same no_freer job until kept there some reached =
    let old_holds = holds_before old.base old.ranked old.moment place in
    let new_holds = holds_before planning.base planning.ranked planning.moment planning.done in
    subst (λ nodes. All (IsNoFreer old.base.rooms old_holds planning.base.rooms new_holds planning.moment until) nodes) (sym (same-nodes planning.moment (then old place job) job (there.was job)))
    (λ k d below.
    let node = get_or job.nodes k d in
    keeps-earlier old.base.rooms old_holds planning.base.rooms new_holds planning.moment (get_or no_freer node 0) until node (reached k d below)
    (kept.keeps node (there.nodes k d below) (omega (arith, some, reached k d below))))

-- where it can stay it does
pub stays-there : PlannerLaws → (old : PlannedView) (planning : PlanningView) (place : ℕ) (same no_freer : List ℕ) (job : PlanJob) (placed : Placed) → AreKeptTo old planning place same no_freer → IsThere old planning place job → planning.base.horizon ≤ LAST_START → IsThen old place (Some placed) → CanStay job placed same planning.moment planning.base.horizon → placement_of planning.base planning.ranked planning.moment planning.done job ≡ Some placed
stays-there laws old planning place same no_freer job placed kept there low was stay =
    let was_job = then old place job in
    let holds = holds_before planning.base planning.ranked planning.moment planning.done in
    let until = window_end job placed.start in
    let some : placed.start < until = there.windows placed.start (omega (arith, stay.last, low)) in
    sym (same-placed planning.base.rooms holds was_job job planning.moment planning.moment planning.base.horizon (there.was job) (omega arith))
    ∙ laws.some_before old.base.rooms (holds_before old.base old.ranked old.moment place) planning.base.rooms holds was_job old.moment planning.moment old.base.horizon planning.base.horizon until placed there.later low
    (stay-to old planning place same no_freer job until kept there (omega (arith, some)) stay.nodes)
    (sym (was job)) stay.from stay.last some (omega (arith, then-ends old planning place job placed.start there))

-- where its search begins none fits before
none-from-now : (rooms : List NodeRoom) (holds : List Hold) (job : PlanJob) (now : ℕ) → NoneBefore rooms holds job now now
none-from-now rooms holds job now second from below low = absurd (omega (arith, from, below))

pub none-there : PlannerLaws → (old : PlannedView) (planning : PlanningView) (place : ℕ) (same no_freer : List ℕ) (job : PlanJob) (before : Option Placed) (start : ℕ) → AreKeptTo old planning place same no_freer → IsThere old planning place job → IsThen old place before → BeginsAt before job no_freer planning.moment old.base.horizon start → NoneBefore planning.base.rooms (holds_before planning.base planning.ranked planning.moment planning.done) job planning.moment start
none-there laws old planning place same no_freer job None start kept there was begins = elim begins [
  | inr now ↦ rw now.0 (none-from-now planning.base.rooms (holds_before planning.base planning.ranked planning.moment planning.done) job planning.moment)
  | inl later ↦
      let was_job = then old place job in
      let holds = holds_before planning.base planning.ranked planning.moment planning.done in
      rw later.0 (same-none planning.base.rooms holds was_job job planning.moment (old.base.horizon + 1) (there.was job)
      (laws.none_yet old.base.rooms (holds_before old.base old.ranked old.moment place) planning.base.rooms holds was_job old.moment planning.moment old.base.horizon (same-in_time planning.moment was_job job (there.was job) there.in_time) there.later
      (keep-to old planning place same no_freer job FOREVER kept there (omega arith) later.1) (sym (was job))))
]
none-there laws old planning place same no_freer job (Some placed) start kept there was begins = elim begins [
  | inr now ↦ rw now (none-from-now planning.base.rooms (holds_before planning.base planning.ranked planning.moment planning.done) job planning.moment)
  | inl later ↦
      let was_job = then old place job in
      let holds = holds_before planning.base planning.ranked planning.moment planning.done in
      let until = window_end job placed.start in
      let some : placed.start < until = there.windows placed.start later.1 in
      rw later.0 (same-none planning.base.rooms holds was_job job planning.moment placed.start (there.was job)
      (laws.no_earlier old.base.rooms (holds_before old.base old.ranked old.moment place) planning.base.rooms holds was_job old.moment planning.moment old.base.horizon until placed there.later
      (keep-to old planning place same no_freer job until kept there (omega (arith, some)) later.2) (sym (was job)) (omega (arith, some)) (omega (arith, then-ends old planning place job placed.start there))))
]

-- behind the horizon none is left
pub nowhere-left : PlannerLaws → (planning : PlanningView) (job : PlanJob) (start : ℕ) → planning.base.horizon ≤ LAST_START → planning.base.horizon < start → NoneBefore planning.base.rooms (holds_before planning.base planning.ranked planning.moment planning.done) job planning.moment start → placement_of planning.base planning.ranked planning.moment planning.done job ≡ None
nowhere-left laws planning job start low past none =
    let holds = holds_before planning.base planning.ranked planning.moment planning.done in
    let at : start ≡ (start - 1) + 1 = omega (arith, past) in
    laws.nowhere planning.base.rooms holds job planning.moment (start - 1) planning.base.horizon (omega (arith, past)) low (subst (λ bound. NoneBefore planning.base.rooms holds job planning.moment bound) at none)

-- a steady job: nothing has changed on its nodes, and its start can stand
record IsSettled (old : PlannedView) (planning : PlanningView) (place : ℕ) (same : List ℕ) (job : PlanJob) : Type 0 where
  reached : All (λ node. FOREVER ≤ get_or same node 0) job.nodes
  stand : CanStand planning.moment old.base.horizon planning.base.horizon (placement_of old.base old.ranked old.moment place (then old place job))

settled-there : (old : PlannedView) (planning : PlanningView) (place : ℕ) (same no_freer : List ℕ) (job : PlanJob) (steady : ℕ → Bool) → AreKeptTo old planning place same no_freer → IsThere old planning place job → AreSteady old planning.base planning.ranked planning.moment steady → steady planning.done ≡ true → IsSettled old planning place same job
settled-there old planning place same no_freer job steady kept there are settled = record {
  reached = λ k d below. still (get_or job.nodes k d) (there.nodes k d below) (old_inside k d below) (own-nodes job k d below);
  stand = subst (λ at_place. CanStand planning.moment old.base.horizon planning.base.horizon (placement_of old.base old.ranked old.moment at_place (get_or old.ranked at_place job))) (sym here) (own.start job);
}
  where
    own : IsAsBefore old planning.base planning.ranked planning.moment planning.done
    own = are.each planning.done there.more settled

    job_is : own.job ≡ job
    job_is = sym (own.is own.job) ∙ there.is own.job

    here : place ≡ own.before
    here =
        own.once_before place job there.there
        (same-id planning.moment (then old place job) job (there.was job) ∙ sym (same-id planning.moment (get_or old.ranked own.before job) own.job (own.was job) ∙ ap (λ (one : PlanJob). one.id) job_is))

    old_inside : All (λ node. node < length old.base.rooms) job.nodes
    old_inside = subst (λ nodes. All (λ node. node < length old.base.rooms) nodes) (same-nodes planning.moment (then old place job) job (there.was job)) (there.old_nodes place job there.there)

    still : (node : ℕ) → node < length planning.base.rooms → node < length old.base.rooms → may_have_node node job ≡ true → FOREVER ≤ get_or same node 0
    still node inside there_then has = elim (cases_lt (get_or same node 0) FOREVER) [
      | inr reached ↦ reached
      | inl early ↦
          elim (kept.changed steady are node inside early there_then (own.nodes node (rw job_is has))) [
            | inl one ↦
                let other = are.above planning.done one.at node job one.above there.more settled (rw (there.is job) has) (one.has job) in
                absurd (let wrong = sym one.other ∙ other in cc)
            | inr lost ↦ absurd (not-gone old planning.base planning.ranked planning.moment planning.done steady node are settled there.more own (rw job_is has) (rw here at lost))
          ]
    ]

settled-stay : (old : PlannedView) (planning : PlanningView) (place : ℕ) (same : List ℕ) (job : PlanJob) (placed : Placed) → IsThere old planning place job → planning.base.horizon ≤ LAST_START → IsThen old place (Some placed) → IsSettled old planning place same job → CanStay job placed same planning.moment planning.base.horizon
settled-stay old planning place same job placed there low was settled =
    let stand : CanStand planning.moment old.base.horizon planning.base.horizon (Some placed) = subst (λ found. CanStand planning.moment old.base.horizon planning.base.horizon found) (sym (was job)) settled.stand in
    record {
      from = stand.0;
      last = stand.1;
      nodes = λ k d below. omega (arith, there.in_time placed.start (omega (arith, stand.1, low)), settled.reached k d below);
    }

settled-none : (old : PlannedView) (planning : PlanningView) (place : ℕ) (same : List ℕ) (job : PlanJob) → IsThen old place None → IsSettled old planning place same job → planning.base.horizon ≤ old.base.horizon
settled-none old planning place same job was settled =
    subst (λ found. CanStand planning.moment old.base.horizon planning.base.horizon found) (sym (was job)) settled.stand

reach-no_freer : (old : PlannedView) (planning : PlanningView) (place : ℕ) (same no_freer : List ℕ) (job : PlanJob) → AreKeptTo old planning place same no_freer → IsThere old planning place job → IsSettled old planning place same job → All (λ node. FOREVER ≤ get_or no_freer node 0) job.nodes
reach-no_freer old planning place same no_freer job kept there settled k d below =
    omega (arith, settled.reached k d below, kept.order (get_or job.nodes k d) (there.nodes k d below))

-- so it is placed as it was
pub steady-same : PlannerLaws → (old : PlannedView) (planning : PlanningView) (place : ℕ) (same no_freer : List ℕ) (job : PlanJob) (before after : Option Placed) (steady : ℕ → Bool) → AreKeptTo old planning place same no_freer → IsThere old planning place job → planning.base.horizon ≤ LAST_START → IsThen old place before → after ≡ placement_of planning.base planning.ranked planning.moment planning.done job → AreSteady old planning.base planning.ranked planning.moment steady → steady planning.done ≡ true → before ≡ after
steady-same laws old planning place same no_freer job None after steady kept there low was is are settled =
    let one = settled-there old planning place same no_freer job steady kept there are settled in
    let none = none-there laws old planning place same no_freer job None (old.base.horizon + 1) kept there was (inl (refl, reach-no_freer old planning place same no_freer job kept there one)) in
    sym (is ∙ nowhere-left laws planning job (old.base.horizon + 1) low (omega (arith, settled-none old planning place same job was one)) none)
steady-same laws old planning place same no_freer job (Some placed) after steady kept there low was is are settled =
    let one = settled-there old planning place same no_freer job steady kept there are settled in
    sym (is ∙ stays-there laws old planning place same no_freer job placed kept there low was (settled-stay old planning place same job placed there low was one))

-- and no search is needed
pub not-settled : (old : PlannedView) (planning : PlanningView) (place : ℕ) (same no_freer : List ℕ) (job : PlanJob) (before : Option Placed) (start : ℕ) → AreKeptTo old planning place same no_freer → IsThere old planning place job → planning.base.horizon ≤ LAST_START → IsThen old place before → IfSome before (λ placed. ¬ CanStay job placed same planning.moment planning.base.horizon) → BeginsAt before job no_freer planning.moment old.base.horizon start → start ≤ planning.base.horizon
    → (steady : ℕ → Bool) → AreSteady old planning.base planning.ranked planning.moment steady → steady planning.done ≡ false
not-settled old planning place same no_freer job before start kept there low was moved begins within steady are = elim (cases_Bool (steady planning.done)) [
  | inr other ↦ other
  | inl settled ↦ absurd (by before was moved begins (settled-there old planning place same no_freer job steady kept there are settled))
]
  where
    by : (before : Option Placed) → IsThen old place before → IfSome before (λ placed. ¬ CanStay job placed same planning.moment planning.base.horizon) → BeginsAt before job no_freer planning.moment old.base.horizon start → IsSettled old planning place same job → ⊥
    by None was moved begins one = elim begins [
      | inl later ↦ absurd (omega (arith, later.0, within, settled-none old planning place same job was one))
      | inr now ↦ now.1 (reach-no_freer old planning place same no_freer job kept there one)
    ]
    by (Some placed) was moved begins one = moved (settled-stay old planning place same job placed there low was one)

pub none-found : (found : Option Placed) (P : Type 0) → ((placed : Placed) → ¬ (found ≡ Some placed)) → IfNone found P → P
none-found None P none told = told
none-found (Some placed) P none told = absurd (none placed refl)
