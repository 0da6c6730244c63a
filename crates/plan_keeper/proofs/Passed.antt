-- How both lists are passed, job by job.
use Rattle.std.proofs.Common.{◌≡◌, ℕ, ◌+◌, ◌≤◌, ◌<◌, Bool, true, false, not, List, length, replicate, arith, refl, ap, sym, ◌∙◌, inl, inr, get_or}
use Rattle.std.proofs.lemmas.Bool.{cases_Bool, cases_lt, and_parts}
use Rattle.std.proofs.lemmas.List.{get_or_default, get_or-replicate, length-replicate}
use Rattle.backfill_planner.specs.declared.job.PlanJob.{PlanJob}
use Rattle.backfill_planner.specs.Bases.{BaseView}
use Rattle.backfill_planner.specs.Plans.{PlannedView}
use Rattle.plan_keeper.specs.Steady.{may_have_node, IsSameFrom, AreSteady}
use Rattle.plan_keeper.specs.Marks.{on, AreAlike, IsGone, IsPast, Without}
use Rattle.plan_keeper.specs.Passing.{AreLevel, ArePassed, IsNew}
use Rattle.plan_keeper.proofs.Alike.{times-alike}
use Rattle.plan_keeper.proofs.Gone.{gone-more}
use Rattle.plan_keeper.proofs.Marking.{unsettled-before}
use Rattle.plan_keeper.proofs.SameFrom.{same-id, same-on}
use Rattle.plan_keeper.proofs.Times.{there, times-next, not-on}

-- the first jobs, which are alike
pub passed-first : (now : ℕ) (old ranked : List PlanJob) (first : ℕ) → AreAlike now old ranked first → ArePassed now old ranked first first
passed-first now old ranked first alike = record {
  few = alike.few;
  few_new = alike.few_new;
  fresh = λ one d below other e later inside same once.
      let ids : (get_or old one e).id ≡ (get_or old other e).id = same-id now (get_or old one e) (get_or ranked one e) (alike.each one e below) ∙ ap (λ (job : PlanJob). job.id) (get_or_default ranked one e d (omega (arith, below, alike.few_new))) ∙ sym same in
      let here : one ≡ other = once one e (omega (arith, below, alike.few)) ids in
      omega (arith, here, below, later);
  left = λ one below other d later inside same once once_before.
      let ids : (get_or ranked one d).id ≡ (get_or ranked other d).id = sym (same-id now (get_or old one d) (get_or ranked one d) (alike.each one d below)) ∙ same-id now (get_or old one d) (get_or ranked other d) same in
      let here : one ≡ other = once one d (omega (arith, below, alike.few_new)) ids in
      omega (arith, here, below, later);
}

-- a job of both
pub passed-same : (now : ℕ) (old ranked : List PlanJob) (before place : ℕ) → ArePassed now old ranked before place → before < length old → place < length ranked → ((d : PlanJob) → IsSameFrom now (get_or old before d) (get_or ranked place d)) → ArePassed now old ranked (before + 1) (place + 1)
passed-same now old ranked before place passed old_inside new_inside is = record {
  few = omega (arith, old_inside);
  few_new = omega (arith, new_inside);
  fresh = λ one d below other e later inside same once. elim (cases_lt one place) [
    | inl earlier ↦ passed.fresh one d earlier other e (omega (arith, later)) inside same once
    | inr at ↦
        let here : one ≡ place = omega (arith, at, below) in
        let there : (get_or old other e).id ≡ (get_or ranked place d).id = rw here at same in
        let ids : (get_or old before e).id ≡ (get_or old other e).id = same-id now (get_or old before e) (get_or ranked place e) (is e) ∙ ap (λ (job : PlanJob). job.id) (get_or_default ranked place e d new_inside) ∙ sym there in
        let twice : before ≡ other = once before e old_inside ids in
        omega (arith, twice, later)
  ];
  left = λ one below other d later inside same once once_before. elim (cases_lt one before) [
    | inl earlier ↦ passed.left one earlier other d (omega (arith, later)) inside same once once_before
    | inr at ↦
        let here : one ≡ before = omega (arith, at, below) in
        let was : IsSameFrom now (get_or old before d) (get_or ranked other d) = rw here at same in
        let ids : (get_or ranked place d).id ≡ (get_or ranked other d).id = sym (same-id now (get_or old before d) (get_or ranked place d) (is d)) ∙ same-id now (get_or old before d) (get_or ranked other d) was in
        let twice : place ≡ other = once place d new_inside ids in
        omega (arith, twice, later)
  ];
}

-- one that is left out
pub passed-gone : (now : ℕ) (old ranked : List PlanJob) (before place : ℕ) → ArePassed now old ranked before place → before < length old → IsPast now old ranked place before → ArePassed now old ranked (before + 1) place
passed-gone now old ranked before place passed old_inside past = record {
  few = omega (arith, old_inside);
  few_new = passed.few_new;
  fresh = λ one d below other e later inside same once. passed.fresh one d below other e (omega (arith, later)) inside same once;
  left = λ one below. elim (cases_lt one before) [
    | inl earlier ↦ passed.left one earlier
    | inr at ↦ let here : one ≡ before = omega (arith, at, below) in rw here past
  ];
}

pub gone-here : (now : ℕ) (old ranked : List PlanJob) (before place node : ℕ) → ArePassed now old ranked before place → before < length old → IsPast now old ranked place before → ((d : PlanJob) → may_have_node node (get_or old before d) ≡ true) → IsGone now old ranked (before + 1) node
gone-here now old ranked before place node passed old_inside past has = record {
  at = before;
  above = omega arith;
  there = old_inside;
  has = has;
  gone = λ other d low inside same once once_before. elim (cases_lt other place) [
    | inl earlier ↦ passed.fresh other d earlier before d (omega arith) old_inside (same-id now (get_or old before d) (get_or ranked other d) same) once_before
    | inr later ↦ past other d later inside same once once_before
  ];
}

-- one that is planned anew
pub passed-new : (now : ℕ) (old ranked : List PlanJob) (before place : ℕ) → ArePassed now old ranked before place → place < length ranked → ((d : PlanJob) → IsNew old before (get_or ranked place d).id) → ArePassed now old ranked before (place + 1)
passed-new now old ranked before place passed new_inside new = record {
  few = passed.few;
  few_new = omega (arith, new_inside);
  fresh = λ one d below. elim (cases_lt one place) [
    | inl earlier ↦ passed.fresh one d earlier
    | inr at ↦ let here : one ≡ place = omega (arith, at, below) in rw here (new d)
  ];
  left = λ one below other d later inside same once once_before. passed.left one below other d (omega (arith, later)) inside same once once_before;
}

pub new-not-steady : (old : PlannedView) (base : BaseView) (ranked : List PlanJob) (now before place : ℕ) → ArePassed now old.ranked ranked before place → place < length ranked → ((d : PlanJob) → IsNew old.ranked before (get_or ranked place d).id) → (steady : ℕ → Bool) → AreSteady old base ranked now steady → steady place ≡ false
new-not-steady old base ranked now before place passed below new steady are = elim (cases_Bool (steady place)) [
  | inr other ↦ other
  | inl settled ↦
      let own = are.each place below settled in
      let job = own.job in
      let was : IsSameFrom now (get_or old.ranked own.before job) (get_or ranked place job) = rw (own.is job) (own.was job) in
      elim (cases_lt own.before before) [
        | inl earlier ↦ absurd (passed.left own.before earlier place job (omega arith) below was own.once own.once_before)
        | inr later ↦ absurd (new job own.before job later own.there (same-id now (get_or old.ranked own.before job) (get_or ranked place job) was) own.once_before)
      ]
]

-- which nodes are level
pub level-first : (old : PlannedView) (base : BaseView) (ranked : List PlanJob) (now first : ℕ) → AreAlike now old.ranked ranked first → AreLevel old base ranked now first first (replicate (length base.rooms) true)
level-first old base ranked now first alike = record {
  long = length-replicate (length base.rooms) true;
  alike = λ node inside marked. sym (times-alike now old.ranked ranked first first node alike (omega arith));
  changed = λ steady are node inside unmarked. absurd (let wrong = sym unmarked ∙ get_or-replicate (length base.rooms) node true false inside in cc);
}

pub level-same : (old : PlannedView) (base : BaseView) (ranked : List PlanJob) (now before place : ℕ) (level : List Bool) → AreLevel old base ranked now before place level → before < length old.ranked → place < length ranked → ((d : PlanJob) → IsSameFrom now (get_or old.ranked before d) (get_or ranked place d)) → AreLevel old base ranked now (before + 1) (place + 1) level
level-same old base ranked now before place level are_level old_inside new_inside is = record {
  long = are_level.long;
  alike = λ node inside marked.
      let at = there ranked place new_inside in
      omega (
        arith,
        are_level.alike node inside marked,
        times-next node old.ranked before at.job old_inside,
        times-next node ranked place at.job new_inside,
        same-on now (get_or old.ranked before at.job) (get_or ranked place at.job) (is at.job) node,
      );
  changed = λ steady are node inside unmarked. elim (are_level.changed steady are node inside unmarked) [
    | inl one ↦ inl (unsettled-before ranked steady place node one)
    | inr lost ↦ inr (gone-more now old.ranked ranked before node lost)
  ];
}

not-true : (b : Bool) → not b ≡ true → b ≡ false
not-true false marked = refl
not-true true marked = cc

pub level-gone : (old : PlannedView) (base : BaseView) (ranked : List PlanJob) (now before place : ℕ) (level new_level : List Bool) (job : PlanJob) → AreLevel old base ranked now before place level → before < length old.ranked → ((d : PlanJob) → get_or old.ranked before d ≡ job) → ((node : ℕ) → may_have_node node job ≡ true → IsGone now old.ranked ranked (before + 1) node) → Without level job new_level → AreLevel old base ranked now (before + 1) place new_level
level-gone old base ranked now before place level new_level job are_level old_inside is gone without = record {
  long = without.long ∙ are_level.long;
  alike = λ node inside marked.
      let both = and_parts (get_or level node false) (not (may_have_node node job)) (sym (without.each node (omega (arith, inside, are_level.long))) ∙ marked) in
      omega (
        arith,
        are_level.alike node inside both.0,
        times-next node old.ranked before job old_inside,
        ap (λ one. on node one) (is job),
        not-on node job (not-true (may_have_node node job) both.1),
      );
  changed = λ steady are node inside unmarked. elim (cases_Bool (get_or level node false)) [
    | inr changed ↦ elim (are_level.changed steady are node inside changed) [
      | inl one ↦ inl one
      | inr lost ↦ inr (gone-more now old.ranked ranked before node lost)
    ]
    | inl was ↦ elim (cases_Bool (may_have_node node job)) [
      | inl has ↦ inr (gone node has)
      | inr has_not ↦ absurd (let wrong = rw (without.each node (omega (arith, inside, are_level.long)), was, has_not) at unmarked in cc)
    ]
  ];
}

pub level-new : (old : PlannedView) (base : BaseView) (ranked : List PlanJob) (now before place : ℕ) (level new_level : List Bool) (job : PlanJob) → AreLevel old base ranked now before place level → place < length ranked → ((d : PlanJob) → get_or ranked place d ≡ job) → ((steady : ℕ → Bool) → AreSteady old base ranked now steady → steady place ≡ false) → Without level job new_level → AreLevel old base ranked now before (place + 1) new_level
level-new old base ranked now before place level new_level job are_level new_inside is other without = record {
  long = without.long ∙ are_level.long;
  alike = λ node inside marked.
      let both = and_parts (get_or level node false) (not (may_have_node node job)) (sym (without.each node (omega (arith, inside, are_level.long))) ∙ marked) in
      omega (
        arith,
        are_level.alike node inside both.0,
        times-next node ranked place job new_inside,
        ap (λ one. on node one) (is job),
        not-on node job (not-true (may_have_node node job) both.1),
      );
  changed = λ steady are node inside unmarked. elim (cases_Bool (get_or level node false)) [
    | inr changed ↦ elim (are_level.changed steady are node inside changed) [
      | inl one ↦ inl (unsettled-before ranked steady place node one)
      | inr lost ↦ inr lost
    ]
    | inl was ↦ elim (cases_Bool (may_have_node node job)) [
      | inl has ↦ inl (record { at = place; above = omega arith; has = λ d. rw (is d) has; other = other steady are })
      | inr has_not ↦ absurd (let wrong = rw (without.each node (omega (arith, inside, are_level.long)), was, has_not) at unmarked in cc)
    ]
  ];
}

-- the job of the old list is past where the new one has its id no further than the next place, at which it isn't
pub past-found : (now : ℕ) (old ranked : List PlanJob) (before index place : ℕ) → ((d : PlanJob) → IsSameFrom now (get_or old before d) (get_or ranked index d) → ⊥) → place < length ranked → ((d : PlanJob) → (get_or ranked place d).id ≡ (get_or old before d).id) → place ≤ index → IsPast now old ranked index before
past-found now old ranked before index place apart inside finds few = λ other d later there same once once_before.
    let ids : (get_or ranked place d).id ≡ (get_or ranked other d).id = finds d ∙ same-id now (get_or old before d) (get_or ranked other d) same in
    let here : place ≡ other = once place d inside ids in
    let at : other ≡ index = omega (arith, here, few, later) in
    apart d (rw at at same)
