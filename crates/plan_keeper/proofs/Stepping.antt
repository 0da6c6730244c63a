-- Steps add up.
use Rattle.std.proofs.Common.{◌≡◌, ℕ, ◌+◌, ◌-◌, ◌≤◌, ◌<◌, zero, suc, cond, List, length, rules, arith, refl, ap, subst, sym, ◌∙◌}
use Rattle.std.specs.Prelude.{Result, Ok, Err, IfOk, OnOk, OnErr}
use Rattle.resource_profile.specs.Counts.{ticked, IsTickedUpTo}
use Rattle.backfill_planner.specs.declared.job.PlanJob.{PlanJob}
use Rattle.backfill_planner.specs.Bases.{BaseView}
use Rattle.backfill_planner.specs.Plans.{PlannedView, PlanningView}
use Rattle.plan_keeper.specs.declared.both_plans.BothPlans.{BothPlans}
use Rattle.plan_keeper.specs.Steady.{others}
use Rattle.plan_keeper.specs.Turns.{IsStepped, HasStepped}
use Rattle.plan_keeper.proofs.Settled.{others-next, others-rise}

ticked-both : (count some more : ℕ) → ticked (ticked count some) more ≡ ticked count (some + more)
ticked-both count some zero = let same : some + 0 ≡ some = omega arith in rw same refl
ticked-both count some (suc more) = let next : some + suc more ≡ suc (some + more) = omega arith in rw (next, ticked-both count some more) refl

pub stepped-both : (some more one other last : ℕ) → IsTickedUpTo some one other → IsTickedUpTo more other last → IsTickedUpTo (some + more) one last
stepped-both some more one other last first then = record {
  times = first.times + then.times;
  few = omega (arith, first.few, then.few);
  is = then.is ∙ ap (λ count. ticked count then.times) first.is ∙ ticked-both one first.times then.times;
}

pub stepped-up_to : (few many one other : ℕ) → few ≤ many → IsTickedUpTo few one other → IsTickedUpTo many one other
stepped-up_to few many one other order stepped = record { times = stepped.times; few = omega (arith, order, stepped.few); is = stepped.is }

pub stepped-none : (old : PlannedView) (base : BaseView) (ranked : List PlanJob) (now one : ℕ) → HasStepped old base ranked now 0 one one
stepped-none old base ranked now one = record {
  most = record { times = 0; few = omega arith; is = refl };
  steady = λ some are. record { times = 0; few = omega arith; is = refl };
}

pub stepped-more : (old : PlannedView) (base : BaseView) (ranked : List PlanJob) (now index : ℕ) (planning : PlanningView) (one other last : ℕ) → planning ≡ record { base = base; ranked = ranked; moment = now; done = index } → HasStepped old base ranked now index one other → IsStepped old planning other last → HasStepped old base ranked now (index + 1) one last
stepped-more old base ranked now index planning one other last is before stepped =
    let here : IsStepped old (record { base = base; ranked = ranked; moment = now; done = index }) other last = subst (λ (v : PlanningView). IsStepped old v other last) is stepped in
    record {
      most = stepped-both index 1 one other last before.most here.most;
      steady = λ some are. rw (others-next some index) (stepped-both (others some index) (cond (some index) 0 1) one other last (before.steady some are) (here.steady some are));
    }

pub stepped-all : (old : PlannedView) (base : BaseView) (ranked : List PlanJob) (now index jobs one other : ℕ) → index ≤ jobs → HasStepped old base ranked now index one other → HasStepped old base ranked now jobs one other
stepped-all old base ranked now index jobs one other few stepped = record {
  most = stepped-up_to index jobs one other few stepped.most;
  steady = λ some are.
      let whole : index + (jobs - index) ≡ jobs = omega (arith, few) in
      stepped-up_to (others some index) (others some jobs) one other (rw whole at (others-rise some index (jobs - index))) (stepped.steady some are);
}

-- the steps of a turn that plans a job
stepped-turn : (old : PlannedView) (planning : PlanningView) (index start one last : ℕ) → index ≡ planning.done → HasStepped old planning.base planning.ranked planning.moment index start one → IsStepped old planning one last → HasStepped old planning.base planning.ranked planning.moment (index + 1) start last
stepped-turn old planning index start one last is before stepped =
    let from : ℕ → PlanningView = λ done. record { base = planning.base; ranked = planning.ranked; moment = planning.moment; done = done } in
    stepped-more old planning.base planning.ranked planning.moment index planning start one last (ap from (sym is)) before stepped

pub turned-ok : {E : Type 0} (old : PlannedView) (planning : PlanningView) (index start one last : ℕ) (result : Result BothPlans E) → index ≡ planning.done → HasStepped old planning.base planning.ranked planning.moment index start one → IsStepped old planning one last → IfOk result (λ (next : BothPlans). next.passed.index ≡ index + 1) → IfOk result (λ (next : BothPlans). HasStepped old planning.base planning.ranked planning.moment next.passed.index start last)
turned-ok old planning index start one last (Ok next) is before stepped to = rw to (stepped-turn old planning index start one last is before stepped)
turned-ok old planning index start one last (Err failed) is before stepped to = to

pub on-err : {T E : Type 0} (P : Type 0) (result : Result T E) → P → OnErr result P
on-err P (Ok next) holds = search rules
on-err P (Err failed) holds = search (rules, holds)

pub turned-err : {E : Type 0} (old : PlannedView) (planning : PlanningView) (index start one last : ℕ) (result : Result BothPlans E) → index ≡ planning.done → index < length planning.ranked → HasStepped old planning.base planning.ranked planning.moment index start one → IsStepped old planning one last → OnErr result (HasStepped old planning.base planning.ranked planning.moment (length planning.ranked) start last)
turned-err old planning index start one last result is below before stepped =
    on-err (HasStepped old planning.base planning.ranked planning.moment (length planning.ranked) start last) result
    (stepped-all old planning.base planning.ranked planning.moment (index + 1) (length planning.ranked) start last (omega (arith, below)) (stepped-turn old planning index start one last is before stepped))

-- and of one that plans none
pub passed-err : {E : Type 0} (old : PlannedView) (planning : PlanningView) (index start one : ℕ) (result : Result BothPlans E) → index < length planning.ranked → HasStepped old planning.base planning.ranked planning.moment index start one → OnErr result (HasStepped old planning.base planning.ranked planning.moment (length planning.ranked) start one)
passed-err old planning index start one result below before =
    on-err (HasStepped old planning.base planning.ranked planning.moment (length planning.ranked) start one) result
    (stepped-all old planning.base planning.ranked planning.moment index (length planning.ranked) start one (omega (arith, below)) before)

-- what a turn steps is stepped from the plan that it begins with
pub turned-more : (old : PlannedView) (base : BaseView) (ranked : List PlanJob) (now index last_index start one last : ℕ) (planning : PlanningView) → planning ≡ record { base = base; ranked = ranked; moment = now; done = index } → HasStepped old base ranked now index start one → (HasStepped old planning.base planning.ranked planning.moment index start one → HasStepped old planning.base planning.ranked planning.moment last_index start last) → HasStepped old base ranked now last_index start last
turned-more old base ranked now index last_index start one last planning is before turned =
    subst (λ (v : PlanningView). HasStepped old v.base v.ranked v.moment last_index start last) is
    (turned (subst (λ (v : PlanningView). HasStepped old v.base v.ranked v.moment index start one) (sym is) before))

pub on-ok : {T E : Type 0} (P : Type 0) (result : Result T E) → P → OnOk result P
on-ok P (Ok next) holds = holds
on-ok P (Err failed) holds = search rules
