-- What is kept in mind of the nodes where a job of one list alone is passed.
use Rattle.std.proofs.Common.{◌≡◌, ℕ, ◌+◌, ◌≤◌, ◌<◌, Bool, true, false, List, [], ◌++◌, length, replicate, All, arith, refl, ap, sym, ◌∙◌, inl, inr, get_or, Option, Some, None}
use Rattle.std.proofs.lemmas.Bool.{cases_Bool}
use Rattle.std.proofs.lemmas.List.{append-nil}
use Rattle.std.proofs.lemmas.List.Elements.{All-nil}
use Rattle.resource_profile.specs.declared.Hold.{Hold}
use Rattle.backfill_planner.specs.declared.Placed.{Placed}
use Rattle.backfill_planner.specs.declared.job.PlanJob.{PlanJob}
use Rattle.backfill_planner.specs.Plans.{PlannedView, PlanningView, holds_of, holds_before, placement_of}
use Rattle.backfill_planner.specs.Staying.{IsNoFreer, StaysBefore}
use Rattle.plan_keeper.specs.Steady.{may_have_node, IsSameFrom, AreSteady}
use Rattle.plan_keeper.specs.Marks.{IsGone, IsPast, Without}
use Rattle.plan_keeper.specs.Kept.{has_part, lowered, AreCountedAnew, AreKept, AreKeptTo, HasBegun, IsThen, Lowers}
use Rattle.plan_keeper.specs.Passing.{held_by, made_to, parts_of, HasPassed, IsNew}
use Rattle.plan_keeper.specs.Planner.{PlannerLaws}
use Rattle.plan_keeper.specs.Turns.{IsNext}
use Rattle.plan_keeper.proofs.Gone.{gone-more}
use Rattle.plan_keeper.proofs.Lowering.{IsLate, stays-late, keeps-late, stays-earlier, lowered-less, lowered-off, parts-late, none-on}
use Rattle.plan_keeper.proofs.Marking.{unsettled-before}
use Rattle.plan_keeper.proofs.Passed.{passed-first, passed-same, passed-gone, gone-here, passed-new, new-not-steady, level-first, level-same, level-gone, level-new}

-- where no part is on the node, the job's holds aren't
late-off : (job : PlanJob) (placed : Option Placed) (node until : ℕ) → has_part node (parts_of placed) ≡ false → All (IsLate node until) (holds_of job placed)
late-off job None node until without = All-nil (IsLate node until)
late-off job (Some placed) node until without = parts-late job (Some placed) node until until (rw without (omega arith))

off-part : PlannerLaws → (old : PlannedView) (place : ℕ) (placed : Option Placed) (job : PlanJob) (node : ℕ) → IsThen old place placed → ((d : PlanJob) → get_or old.ranked place d ≡ job) → may_have_node node job ≡ false → has_part node (parts_of placed) ≡ false
off-part laws old place None job node was is without = refl
off-part laws old place (Some placed) job node was is without =
    none-on job node placed.parts without (laws.own old.base.rooms (holds_before old.base old.ranked old.moment place) job old.moment old.base.horizon placed (sym (rw (is job) at (was job))))

-- a job of the old list is left out
pub kept-gone : PlannerLaws → (old : PlannedView) (planning : PlanningView) (place : ℕ) (same no_freer new_same new_no_freer : List ℕ) (job : PlanJob) (placed : Option Placed) → AreKeptTo old planning place same no_freer → place < length old.ranked → ((d : PlanJob) → get_or old.ranked place d ≡ job) → IsThen old place placed → ((node : ℕ) → may_have_node node job ≡ true → IsGone planning.moment old.ranked planning.ranked (place + 1) node) → AreCountedAnew (held_by (made_to old (place + 1))) (held_by planning) planning.moment (parts_of placed) same no_freer new_same new_no_freer → AreKeptTo old planning (place + 1) new_same new_no_freer
kept-gone laws old planning place same no_freer new_same new_no_freer job placed kept inside_old is was gone counted = record {
  long = counted.long ∙ kept.long;
  long_no_freer = counted.long_no_freer ∙ kept.long_no_freer;
  order = λ node inside. elim (counted.each node (omega (arith, inside, kept.long))) [
    | inl anew ↦ anew.1.order
    | inr left ↦ rw (left.1, left.2) (kept.order node inside)
  ];
  stays = λ node inside known. elim (counted.each node (omega (arith, inside, kept.long))) [
    | inl anew ↦ anew.1.stays known
    | inr left ↦
        let until = get_or same node 0 in
        let here : StaysBefore old.base.rooms (old_holds ++ holds_of job placed) planning.base.rooms (new_holds ++ []) planning.moment until node =
        stays-late old.base.rooms old_holds (holds_of job placed) planning.base.rooms new_holds [] planning.moment until node (kept.stays node inside (rw (left.1) at known)) (late-off job placed node until left.0) (All-nil (IsLate node until)) in
        rw (left.1, more) (rw (append-nil new_holds) at here)
  ];
  keeps = λ node inside known. elim (counted.each node (omega (arith, inside, kept.long))) [
    | inl anew ↦ anew.1.keeps known
    | inr left ↦
        let until = get_or no_freer node 0 in
        let here : IsNoFreer old.base.rooms (old_holds ++ holds_of job placed) planning.base.rooms (new_holds ++ []) planning.moment until node =
        keeps-late old.base.rooms old_holds (holds_of job placed) planning.base.rooms new_holds [] planning.moment until node (kept.keeps node inside (rw (left.2) at known)) (late-off job placed node until left.0) in
        rw (left.2, more) (rw (append-nil new_holds) at here)
  ];
  changed = λ steady are node inside early old_inside stays. elim (cases_Bool (may_have_node node job)) [
    | inl has ↦ inr (gone node has)
    | inr without ↦ elim (counted.each node (omega (arith, inside, kept.long))) [
      | inl anew ↦ absurd (let wrong = sym (off-part laws old place placed job node was is without) ∙ anew.0 in cc)
      | inr left ↦ elim (kept.changed steady are node inside (rw (left.1) at early) old_inside stays) [
        | inl one ↦ inl one
        | inr lost ↦ inr (gone-more planning.moment old.ranked planning.ranked place node lost)
      ]
    ]
  ];
}
  where
    old_holds : List Hold
    old_holds = holds_before old.base old.ranked old.moment place

    new_holds : List Hold
    new_holds = holds_before planning.base planning.ranked planning.moment planning.done

    more : holds_before old.base old.ranked old.moment (place + 1) ≡ old_holds ++ holds_of job placed
    more =
        laws.goes_on old.base old.ranked old.moment place job inside_old (is job)
        ∙ ap (λ found. old_holds ++ holds_of job found) (sym (rw (is job) at (was job)))

-- a job of the new list is planned anew
pub kept-new : PlannerLaws → (old : PlannedView) (planning : PlanningView) (place : ℕ) (same no_freer new_same : List ℕ) (job : PlanJob) (after : Option Placed) → AreKeptTo old planning place same no_freer → planning.done < length planning.ranked → ((d : PlanJob) → get_or planning.ranked planning.done d ≡ job) → IsNext planning after → ((steady : ℕ → Bool) → AreSteady old planning.base planning.ranked planning.moment steady → steady planning.done ≡ false) → Lowers same after new_same → AreKept old planning.base planning.ranked planning.moment place (planning.done + 1) new_same no_freer
kept-new laws old planning place same no_freer new_same job after kept below is next other lowers = record {
  long = lowers.long ∙ kept.long;
  long_no_freer = kept.long_no_freer;
  order = λ node inside. omega (arith, same_at node inside, lowered-less after node (get_or same node 0), kept.order node inside);
  stays = λ node inside known.
      let until = get_or new_same node 0 in
      let less : until ≤ lowered after node (get_or same node 0) = omega (arith, same_at node inside) in
      let least : until ≤ get_or same node 0 = omega (arith, less, lowered-less after node (get_or same node 0)) in
      let here : StaysBefore old.base.rooms (old_holds ++ []) planning.base.rooms (new_holds ++ holds_of job after) planning.moment until node =
      stays-late old.base.rooms old_holds [] planning.base.rooms new_holds (holds_of job after) planning.moment until node
      (stays-earlier old.base.rooms old_holds planning.base.rooms new_holds planning.moment (get_or same node 0) until node least (kept.stays node inside (omega (arith, known, least))))
      (All-nil (IsLate node until)) (parts-late job after node (get_or same node 0) until less) in
      rw more (rw (append-nil old_holds) at here);
  keeps = λ node inside known.
      let until = get_or no_freer node 0 in
      let here : IsNoFreer old.base.rooms (old_holds ++ []) planning.base.rooms (new_holds ++ holds_of job after) planning.moment until node =
      keeps-late old.base.rooms old_holds [] planning.base.rooms new_holds (holds_of job after) planning.moment until node (kept.keeps node inside known) (All-nil (IsLate node until)) in
      rw more (rw (append-nil old_holds) at here);
  changed = λ steady are node inside early old_inside stays. elim (cases_Bool (may_have_node node job)) [
    | inl has ↦ inl (record { at = planning.done; above = omega arith; has = λ d. rw (is d) has; other = other steady are })
    | inr without ↦
        let off : lowered after node (get_or same node 0) ≡ get_or same node 0 = lowered-off laws planning.base.rooms new_holds job planning.moment planning.base.horizon node (get_or same node 0) after (sym found) without in
        elim (kept.changed steady are node inside (omega (arith, early, same_at node inside, off)) old_inside stays) [
          | inl one ↦ inl (unsettled-before planning.ranked steady planning.done node one)
          | inr lost ↦ inr lost
        ]
  ];
}
  where
    old_holds : List Hold
    old_holds = holds_before old.base old.ranked old.moment place

    new_holds : List Hold
    new_holds = holds_before planning.base planning.ranked planning.moment planning.done

    found : after ≡ placement_of planning.base planning.ranked planning.moment planning.done job
    found = rw (is job) at (next job)

    more : holds_before planning.base planning.ranked planning.moment (planning.done + 1) ≡ new_holds ++ holds_of job after
    more =
        laws.goes_on planning.base planning.ranked planning.moment planning.done job below (is job)
        ∙ ap (λ placed. new_holds ++ holds_of job placed) (sym found)

    same_at : (node : ℕ) → node < length planning.base.rooms → get_or new_same node 0 ≡ lowered after node (get_or same node 0)
    same_at node inside = lowers.each node (omega (arith, inside, kept.long))

-- so both lists are passed by one job more
pub has-begun : (old : PlannedView) (planning : PlanningView) (same no_freer : List ℕ) → HasBegun old planning same no_freer → HasPassed old planning planning.done same no_freer (replicate (length planning.base.rooms) true)
has-begun old planning same no_freer begun = record {
  passed = passed-first planning.moment old.ranked planning.ranked planning.done begun.alike;
  kept = begun.kept;
  levels = level-first old planning.base planning.ranked planning.moment planning.done begun.alike;
}

pub has-same : (old : PlannedView) (planning : PlanningView) (place : ℕ) (same no_freer new_same new_no_freer : List ℕ) (level : List Bool) → HasPassed old planning place same no_freer level → place < length old.ranked → planning.done < length planning.ranked → ((d : PlanJob) → IsSameFrom planning.moment (get_or old.ranked place d) (get_or planning.ranked planning.done d)) → AreKept old planning.base planning.ranked planning.moment (place + 1) (planning.done + 1) new_same new_no_freer → HasPassed old (record planning { done = planning.done + 1 }) (place + 1) new_same new_no_freer level
has-same old planning place same no_freer new_same new_no_freer level was there more is kept = record {
  passed = passed-same planning.moment old.ranked planning.ranked place planning.done was.passed there more is;
  kept = kept;
  levels = level-same old planning.base planning.ranked planning.moment place planning.done level was.levels there more is;
}

pub has-gone : PlannerLaws → (old : PlannedView) (planning : PlanningView) (place : ℕ) (same no_freer new_same new_no_freer : List ℕ) (level new_level : List Bool) (job : PlanJob) (placed : Option Placed) → HasPassed old planning place same no_freer level → place < length old.ranked → ((d : PlanJob) → get_or old.ranked place d ≡ job) → IsPast planning.moment old.ranked planning.ranked planning.done place → IsThen old place placed → AreCountedAnew (held_by (made_to old (place + 1))) (held_by planning) planning.moment (parts_of placed) same no_freer new_same new_no_freer → Without level job new_level → HasPassed old planning (place + 1) new_same new_no_freer new_level
has-gone laws old planning place same no_freer new_same new_no_freer level new_level job placed was there is past then counted without = record {
  passed = passed-gone planning.moment old.ranked planning.ranked place planning.done was.passed there past;
  kept = kept-gone laws old planning place same no_freer new_same new_no_freer job placed was.kept there is then gone counted;
  levels = level-gone old planning.base planning.ranked planning.moment place planning.done level new_level job was.levels there is gone without;
}
  where
    gone : (node : ℕ) → may_have_node node job ≡ true → IsGone planning.moment old.ranked planning.ranked (place + 1) node
    gone node has = gone-here planning.moment old.ranked planning.ranked place planning.done node was.passed there past (λ d. rw (is d) has)

pub has-new : PlannerLaws → (old : PlannedView) (planning : PlanningView) (place : ℕ) (same no_freer new_same : List ℕ) (level new_level : List Bool) (job : PlanJob) (after : Option Placed) → HasPassed old planning place same no_freer level → planning.done < length planning.ranked → ((d : PlanJob) → get_or planning.ranked planning.done d ≡ job) → ((d : PlanJob) → IsNew old.ranked place (get_or planning.ranked planning.done d).id) → IsNext planning after → Lowers same after new_same → Without level job new_level → HasPassed old (record planning { done = planning.done + 1 }) place new_same no_freer new_level
has-new laws old planning place same no_freer new_same level new_level job after was more is new next lowers without =
    let other = new-not-steady old planning.base planning.ranked planning.moment place planning.done was.passed more new in
    record {
      passed = passed-new planning.moment old.ranked planning.ranked place planning.done was.passed more new;
      kept = kept-new laws old planning place same no_freer new_same job after was.kept more is next other lowers;
      levels = level-new old planning.base planning.ranked planning.moment place planning.done level new_level job was.levels more is other without;
    }
