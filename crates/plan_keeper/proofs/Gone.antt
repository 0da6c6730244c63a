-- Jobs of the old list that are none of the new one.
use Rattle.std.proofs.Common.{◌≡◌, ℕ, ◌+◌, ◌<◌, zero, suc, Bool, true, List, [], ◌∷◌, length, take, arith, ap, subst, sym, ◌∙◌, inl, inr, get_or}
use Rattle.std.proofs.lemmas.Bool.{cases_Bool}
use Rattle.std.proofs.lemmas.List.{get_or-take, length-take-le, get_or_default}
use Rattle.backfill_planner.specs.declared.job.PlanJob.{PlanJob}
use Rattle.backfill_planner.specs.Bases.{BaseView}
use Rattle.backfill_planner.specs.Plans.{PlannedView}
use Rattle.plan_keeper.specs.Steady.{may_have_node, jobs_on, but_for_times, IsNamedOnce, IsSameFrom, IsAsBefore, AreSteady}
use Rattle.plan_keeper.specs.Marks.{IsGone}
use Rattle.plan_keeper.proofs.SameFrom.{same-id}

-- one of the list is this one
record IsIn (jobs : List PlanJob) (job : PlanJob) : Type 0 where
  index : ℕ
  inside : index < length jobs
  is : (d : PlanJob) → get_or jobs index d ≡ job

-- one that may have the node is this one but for its times
record IsOnAt (node : ℕ) (jobs : List PlanJob) (job : PlanJob) : Type 0 where
  at : ℕ
  inside : at < length jobs
  has : (d : PlanJob) → may_have_node node (get_or jobs at d) ≡ true
  same : (d : PlanJob) → but_for_times (get_or jobs at d) ≡ job

in-on : (node : ℕ) (jobs : List PlanJob) (place : ℕ) (job : PlanJob) → place < length jobs → get_or jobs place job ≡ job → may_have_node node job ≡ true → IsIn (jobs_on node jobs) (but_for_times job)
in-on node [] place job inside is has = absurd (omega (arith, inside))
in-on node (first ∷ jobs) zero job inside is has =
    let here : may_have_node node first ≡ true = ap (λ one. may_have_node node one) is ∙ has in
    rw here (record { index = 0; inside = omega arith; is = λ d. ap (λ one. but_for_times one) is })
in-on node (first ∷ jobs) (suc place) job inside is has =
    let rest = in-on node jobs place job (omega (arith, inside)) is has in
    elim (cases_Bool (may_have_node node first)) [
      | inl on ↦ rw on (record { index = suc rest.index; inside = omega (arith, rest.inside); is = rest.is })
      | inr off ↦ rw off rest
    ]

behind-first : (node : ℕ) (first : PlanJob) (jobs : List PlanJob) (job : PlanJob) → IsOnAt node jobs job → IsOnAt node (first ∷ jobs) job
behind-first node first jobs job one = record { at = suc one.at; inside = omega (arith, one.inside); has = one.has; same = one.same }

on-in : (node : ℕ) (jobs : List PlanJob) (job : PlanJob) (index : ℕ) → index < length (jobs_on node jobs) → ((d : PlanJob) → get_or (jobs_on node jobs) index d ≡ job) → IsOnAt node jobs job
on-in node [] job index inside is = absurd (omega (arith, inside))
on-in node (first ∷ jobs) job index inside is = elim (cases_Bool (may_have_node node first)) [
  | inl on ↦ by index (λ rest below same. on-in node jobs job rest below same) on (rw on at inside) (λ d. rw on at (is d))
  | inr off ↦ behind-first node first jobs job (on-in node jobs job index (rw off at inside) (λ d. rw off at (is d)))
]
  where
    by : (index : ℕ) → ((rest : ℕ) → rest < length (jobs_on node jobs) → ((d : PlanJob) → get_or (jobs_on node jobs) rest d ≡ job) → IsOnAt node jobs job) → may_have_node node first ≡ true → index < length (but_for_times first ∷ jobs_on node jobs) → ((d : PlanJob) → get_or (but_for_times first ∷ jobs_on node jobs) index d ≡ job) → IsOnAt node (first ∷ jobs) job
    by zero later on inside is = record { at = 0; inside = omega arith; has = λ d. on; same = is }
    by (suc index) later on inside is = behind-first node first jobs job (later index (omega (arith, inside)) is)

-- so it stays when more jobs of the old list are passed
pub gone-more : (now : ℕ) (old ranked : List PlanJob) (before node : ℕ) → IsGone now old ranked before node → IsGone now old ranked (before + 1) node
gone-more now old ranked before node one = record { at = one.at; above = omega (arith, one.above); there = one.there; has = one.has; gone = one.gone }

-- above a steady job none is gone that may have one of its nodes
pub not-gone : (old : PlannedView) (base : BaseView) (ranked : List PlanJob) (now place : ℕ) (steady : ℕ → Bool) (node : ℕ) → AreSteady old base ranked now steady → steady place ≡ true → place < length ranked → (own : IsAsBefore old base ranked now place) → may_have_node node own.job ≡ true → IsGone now old.ranked ranked own.before node → ⊥
not-gone old base ranked now place steady node are settled below own has one =
    one.gone found.at own.job (omega arith) (omega (arith, above, below)) was other.once (subst (λ at_place. IsNamedOnce old.ranked at_place) (sym here) other.once_before)
  where
    lost : PlanJob
    lost = get_or old.ranked one.at own.job

    cut : get_or (take own.before old.ranked) one.at lost ≡ lost
    cut = get_or-take own.before old.ranked one.at lost one.above ∙ get_or_default old.ranked one.at lost own.job one.there

    in_old : IsIn (jobs_on node (take own.before old.ranked)) (but_for_times lost)
    in_old = in-on node (take own.before old.ranked) one.at lost (omega (arith, one.above, own.there, length-take-le own.before old.ranked (omega (arith, own.there)))) cut (one.has own.job)

    in_new : IsIn (jobs_on node (take place ranked)) (but_for_times lost)
    in_new = subst (λ jobs. IsIn jobs (but_for_times lost)) (sym (own.above node has)) in_old

    found : IsOnAt node (take place ranked) (but_for_times lost)
    found = on-in node (take place ranked) (but_for_times lost) in_new.index in_new.inside in_new.is

    above : found.at < place
    above = omega (arith, found.inside, length-take-le place ranked (omega (arith, below)))

    at_new : get_or (take place ranked) found.at own.job ≡ get_or ranked found.at own.job
    at_new = get_or-take place ranked found.at own.job above

    has_it : may_have_node node (get_or ranked found.at own.job) ≡ true
    has_it = ap (λ one. may_have_node node one) (sym at_new) ∙ found.has own.job

    other : IsAsBefore old base ranked now found.at
    other = are.each found.at (omega (arith, above, below)) (are.above place found.at node own.job above below settled (ap (λ one. may_have_node node one) (own.is own.job) ∙ has) has_it)

    new_id : (get_or ranked found.at own.job).id ≡ lost.id
    new_id = ap (λ (job : PlanJob). job.id) (sym at_new) ∙ ap (λ (job : PlanJob). job.id) (found.same own.job)

    then_id : (get_or old.ranked other.before own.job).id ≡ lost.id
    then_id = same-id now (get_or old.ranked other.before own.job) other.job (other.was own.job) ∙ ap (λ (job : PlanJob). job.id) (sym (other.is own.job)) ∙ new_id

    here : one.at ≡ other.before
    here = other.once_before one.at own.job one.there (sym then_id)

    was : IsSameFrom now (get_or old.ranked one.at own.job) (get_or ranked found.at own.job)
    was =
        subst (λ at_place. IsSameFrom now (get_or old.ranked at_place own.job) (get_or ranked found.at own.job)) (sym here)
        (subst (λ (job : PlanJob). IsSameFrom now (get_or old.ranked other.before own.job) job) (sym (other.is own.job)) (other.was own.job))
