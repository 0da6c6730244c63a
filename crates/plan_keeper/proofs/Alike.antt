-- The jobs with which both lists begin.
use Rattle.std.proofs.Common.{◌≡◌, ℕ, ◌+◌, ◌≤◌, ◌<◌, zero, suc, true, false, ltb, List, [], length, take, arith, refl, inl, inr, get_or}
use Rattle.std.proofs.lemmas.Bool.{cases_lt, ltb-true, or_cases}
use Rattle.backfill_planner.specs.declared.job.PlanJob.{PlanJob}
use Rattle.plan_keeper.specs.Steady.{IsSameFrom}
use Rattle.plan_keeper.specs.Marks.{times, met_from, AreAlike}
use Rattle.plan_keeper.proofs.Times.{there, times-next}
use Rattle.plan_keeper.proofs.SameFrom.{same-on}

pub alike-none : (now : ℕ) (old ranked : List PlanJob) → AreAlike now old ranked 0
alike-none now old ranked = record {
  few = omega arith;
  few_new = omega arith;
  each = λ place d below. absurd (omega (arith, below));
}

pub alike-more : (now : ℕ) (old ranked : List PlanJob) (first : ℕ) → AreAlike now old ranked first → first < length old → first < length ranked → ((d : PlanJob) → IsSameFrom now (get_or old first d) (get_or ranked first d)) → AreAlike now old ranked (first + 1)
alike-more now old ranked first alike inside below same = record {
  few = omega (arith, inside);
  few_new = omega (arith, below);
  each = λ place d before. elim (cases_lt place first) [
    | inl earlier ↦ alike.each place d earlier
    | inr at ↦ let here : place ≡ first = omega (arith, at, before) in rw here (same d)
  ];
}

-- so a node is as often among those of the one as of the other
pub times-alike : (now : ℕ) (old ranked : List PlanJob) (first count node : ℕ) → AreAlike now old ranked first → count ≤ first → times node (take count ranked) ≡ times node (take count old)
times-alike now old ranked first zero node alike few = refl
times-alike now old ranked first (suc count) node alike few =
    let next : suc count ≡ count + 1 = omega arith in
    let at = there ranked count (omega (arith, few, alike.few_new)) in
    rw next (omega (
      arith,
      times-alike now old ranked first count node alike (omega (arith, few)),
      times-next node ranked count at.job (omega (arith, few, alike.few_new)),
      times-next node old count at.job (omega (arith, few, alike.few)),
      same-on now (get_or old count at.job) (get_or ranked count at.job) (alike.each count at.job (omega (arith, few))) node,
    ))

-- those before a place are those that are met up to it
pub met-before-place : (place before : ℕ) → met_from place [] before ≡ true → before < place
met-before-place place before met = elim (or_cases (ltb before place) false met) [
  | inl earlier ↦ ltb-true before place earlier
  | inr none ↦ absurd cc
]
