-- What is kept in mind of the nodes, from job to job.
use Rattle.std.proofs.Common.{◌≡◌, ◌≢◌, ◌⊎◌, ℕ, Bool, ◌+◌, ◌≤◌, ◌<◌, false, eqb, List, ◌++◌, length, All, arith, ap, subst, sym, ◌∙◌, inl, inr, get_or, Option}
use Rattle.std.specs.List.{list_any}
use Rattle.std.proofs.lemmas.Bool.{cases_Bool}
use Rattle.std.proofs.lemmas.List.{get_or_default}
use Rattle.std.specs.List.Sorted.{IsPermutation}
use Rattle.resource_profile.specs.declared.Hold.{Hold}
use Rattle.resource_profile.specs.Profiles.{ProfileView}
use Rattle.backfill_planner.specs.declared.Placed.{Placed}
use Rattle.backfill_planner.specs.declared.job.PlanJob.{PlanJob}
use Rattle.backfill_planner.specs.Plans.{PlannedView, PlanningView, holds_of, holds_before, placement_of}
use Rattle.backfill_planner.specs.Staying.{IsNoFreer, StaysBefore, StaysFrom}
use Rattle.plan_keeper.specs.Steady.{may_have_node}
use Rattle.plan_keeper.specs.Kept.{lowered, AreKept, AreKeptTo, AreOnNodes, GoesOn, HasBegun, IsKeptFrom, IsThen, IsThere, Moves}
use Rattle.plan_keeper.specs.Marks.{IsGone, IsUnsettled}
use Rattle.plan_keeper.specs.Planner.{PlannerLaws}
use Rattle.plan_keeper.specs.Turns.{IsNext}
use Rattle.plan_keeper.proofs.Alike.{alike-none}
use Rattle.plan_keeper.proofs.Frees.{permuted-stays}
use Rattle.plan_keeper.proofs.Gone.{gone-more}
use Rattle.plan_keeper.proofs.Lowering.{stays-late, keeps-late, stays-with, keeps-with, stays-earlier, keeps-earlier, before-permuted, keeps-permuted, lowered-less, lowered-order, lowered-off, parts-late, parts-there}
use Rattle.plan_keeper.proofs.Marking.{holds-first, unsettled-before}
use Rattle.plan_keeper.proofs.SameFrom.{same-nodes, same-holds}
use Rattle.plan_keeper.proofs.Standing.{steady-same}
use Rattle.plain_data.specs.declared.seconds.TheConstants.{LAST_START}

-- before the first job
pub begun-first : (old : PlannedView) (planning : PlanningView) (same no_freer : List ℕ) (before after : ProfileView) → planning.done ≡ 0 → before.rooms ≡ old.base.rooms → before.holds ≡ old.base.holds → after.rooms ≡ planning.base.rooms → IsPermutation planning.base.holds after.holds → length same ≡ length after.rooms → length no_freer ≡ length after.rooms
    → ((node : ℕ) → node < length after.rooms → IsKeptFrom before after planning.moment node (get_or same node 0) (get_or no_freer node 0))
    → HasBegun old planning same no_freer
begun-first old planning same no_freer before after none rooms_are holds_are new_rooms_are moved long long_no_freer each = record {
  alike = rw none (alike-none planning.moment old.ranked planning.ranked);
  kept = record {
    long = long ∙ ap (λ rooms. length rooms) new_rooms_are;
    long_no_freer = long_no_freer ∙ ap (λ rooms. length rooms) new_rooms_are;
    order = λ node inside. (at node inside).order;
    stays = λ node inside known. rw (none, first, old_first) (stays node inside known);
    keeps = λ node inside known. rw (none, first, old_first) (keeps node inside known);
    changed = λ steady are node inside early old_inside same_base. absurd (omega (arith, early, (at node inside).all (omega (arith, old_inside, ap (λ rooms. length rooms) rooms_are)) (there node same_base)));
  };
}
  where
    first : holds_before planning.base planning.ranked planning.moment 0 ≡ planning.base.holds
    first = holds-first planning.base planning.ranked planning.moment

    old_first : holds_before old.base old.ranked old.moment 0 ≡ old.base.holds
    old_first = holds-first old.base old.ranked old.moment

    at : (node : ℕ) → node < length planning.base.rooms → IsKeptFrom before after planning.moment node (get_or same node 0) (get_or no_freer node 0)
    at node inside = each node (rw new_rooms_are inside)

    stays : (node : ℕ) → node < length planning.base.rooms → 0 < get_or same node 0 → StaysBefore old.base.rooms old.base.holds planning.base.rooms planning.base.holds planning.moment (get_or same node 0) node
    stays node inside known =
        before-permuted old.base.rooms old.base.holds planning.base.rooms planning.base.holds after.holds planning.moment (get_or same node 0) node moved (rw (rooms_are, holds_are, new_rooms_are) at ((at node inside).stays known))

    keeps : (node : ℕ) → node < length planning.base.rooms → 0 < get_or no_freer node 0 → IsNoFreer old.base.rooms old.base.holds planning.base.rooms planning.base.holds planning.moment (get_or no_freer node 0) node
    keeps node inside known =
        keeps-permuted old.base.rooms old.base.holds planning.base.rooms planning.base.holds after.holds planning.moment (get_or no_freer node 0) node moved (rw (rooms_are, holds_are, new_rooms_are) at ((at node inside).keeps known))

    there : (node : ℕ) → StaysFrom old.base.rooms old.base.holds planning.base.rooms planning.base.holds planning.moment node → StaysFrom before.rooms before.holds after.rooms after.holds planning.moment node
    there node same_base = rw (rooms_are, holds_are, new_rooms_are) (permuted-stays old.base.rooms old.base.holds planning.base.rooms planning.base.holds after.holds planning.moment node moved same_base)

-- what is held once the next job is planned
then-holds : PlannerLaws → (old : PlannedView) (planning : PlanningView) (place : ℕ) (job : PlanJob) (before : Option Placed) → IsThere old planning place job → IsThen old place before → holds_before old.base old.ranked old.moment (place + 1) ≡ holds_before old.base old.ranked old.moment place ++ holds_of job before
then-holds laws old planning place job before there was =
    let then = get_or old.ranked place job in
    laws.goes_on old.base old.ranked old.moment place then there.there (get_or_default old.ranked place then job there.there)
    ∙ ap (λ placed. holds_before old.base old.ranked old.moment place ++ holds_of then placed) (sym (was job))
    ∙ ap (λ held. holds_before old.base old.ranked old.moment place ++ held) (same-holds planning.moment then job (there.was job) before)

now-holds : PlannerLaws → (old : PlannedView) (planning : PlanningView) (place : ℕ) (job : PlanJob) (after : Option Placed) → IsThere old planning place job → after ≡ placement_of planning.base planning.ranked planning.moment planning.done job → holds_before planning.base planning.ranked planning.moment (planning.done + 1) ≡ holds_before planning.base planning.ranked planning.moment planning.done ++ holds_of job after
now-holds laws old planning place job after there is =
    laws.goes_on planning.base planning.ranked planning.moment planning.done job there.more (there.is job)
    ∙ ap (λ placed. holds_before planning.base planning.ranked planning.moment planning.done ++ holds_of job placed) (sym is)

-- what has changed so far
changed-more : (old : PlannedView) (planning : PlanningView) (place : ℕ) (steady : ℕ → Bool) (node : ℕ) → IsUnsettled planning.ranked steady planning.done node ⊎ IsGone planning.moment old.ranked planning.ranked place node → IsUnsettled planning.ranked steady (planning.done + 1) node ⊎ IsGone planning.moment old.ranked planning.ranked (place + 1) node
changed-more old planning place steady node changed = elim changed [
  | inl one ↦ inl (unsettled-before planning.ranked steady planning.done node one)
  | inr lost ↦ inr (gone-more planning.moment old.ranked planning.ranked place node lost)
]

-- it is placed as it was
kept-same : PlannerLaws → (old : PlannedView) (planning : PlanningView) (place : ℕ) (same no_freer : List ℕ) (job : PlanJob) (before : Option Placed) → AreKeptTo old planning place same no_freer → IsThere old planning place job → IsThen old place before → before ≡ placement_of planning.base planning.ranked planning.moment planning.done job → AreKept old planning.base planning.ranked planning.moment (place + 1) (planning.done + 1) same no_freer
kept-same laws old planning place same no_freer job before kept there was is = record {
  long = kept.long;
  long_no_freer = kept.long_no_freer;
  order = kept.order;
  stays = λ node inside known.
      rw (then-holds laws old planning place job before there was, now-holds laws old planning place job before there is)
      (stays-with old.base.rooms (holds_before old.base old.ranked old.moment place) planning.base.rooms (holds_before planning.base planning.ranked planning.moment planning.done) (holds_of job before) planning.moment (get_or same node 0) node (kept.stays node inside known));
  keeps = λ node inside known.
      rw (then-holds laws old planning place job before there was, now-holds laws old planning place job before there is)
      (keeps-with old.base.rooms (holds_before old.base old.ranked old.moment place) planning.base.rooms (holds_before planning.base planning.ranked planning.moment planning.done) (holds_of job before) planning.moment (get_or no_freer node 0) node (kept.keeps node inside known));
  changed = λ steady are node inside early old_inside stays. changed-more old planning place steady node (kept.changed steady are node inside early old_inside stays);
}

-- it is placed otherwise
kept-other : PlannerLaws → (old : PlannedView) (planning : PlanningView) (place : ℕ) (same no_freer new_same new_no_freer : List ℕ) (job : PlanJob) (before after : Option Placed) → AreKeptTo old planning place same no_freer → IsThere old planning place job → planning.base.horizon ≤ LAST_START → IsThen old place before → after ≡ placement_of planning.base planning.ranked planning.moment planning.done job → before ≢ after → Moves same no_freer before after new_same new_no_freer → AreKept old planning.base planning.ranked planning.moment (place + 1) (planning.done + 1) new_same new_no_freer
kept-other laws old planning place same no_freer new_same new_no_freer job before after kept there low was is differs moves = record {
  long = moves.long ∙ kept.long;
  long_no_freer = moves.long_no_freer ∙ kept.long_no_freer;
  order = λ node inside. omega (arith, same_at node inside, no_freer_at node inside, lowered-less after node (lowered before node (get_or same node 0)), lowered-order before node (get_or same node 0) (get_or no_freer node 0) (kept.order node inside));
  stays = λ node inside known.
      let until = get_or new_same node 0 in
      let middle = lowered before node (get_or same node 0) in
      let less : until ≤ middle = omega (arith, same_at node inside, lowered-less after node middle) in
      let least : until ≤ get_or same node 0 = omega (arith, less, lowered-less before node (get_or same node 0)) in
      rw (then-holds laws old planning place job before there was, now-holds laws old planning place job after there is)
      (stays-late old.base.rooms old_holds (holds_of job before) planning.base.rooms new_holds (holds_of job after) planning.moment until node
      (stays-earlier old.base.rooms old_holds planning.base.rooms new_holds planning.moment (get_or same node 0) until node least (kept.stays node inside (omega (arith, known, least))))
      (parts-late job before node (get_or same node 0) until less)
      (parts-late job after node middle until (omega (arith, same_at node inside))));
  keeps = λ node inside known.
      let until = get_or new_no_freer node 0 in
      let less : until ≤ lowered before node (get_or no_freer node 0) = omega (arith, no_freer_at node inside) in
      let least : until ≤ get_or no_freer node 0 = omega (arith, less, lowered-less before node (get_or no_freer node 0)) in
      rw (then-holds laws old planning place job before there was, now-holds laws old planning place job after there is)
      (keeps-late old.base.rooms old_holds (holds_of job before) planning.base.rooms new_holds (holds_of job after) planning.moment until node
      (keeps-earlier old.base.rooms old_holds planning.base.rooms new_holds planning.moment (get_or no_freer node 0) until node least (kept.keeps node inside (omega (arith, known, least))))
      (parts-late job before node (get_or no_freer node 0) until less));
  changed = λ steady are node inside early old_inside stays. elim (cases_Bool (may_have_node node job)) [
    | inr without ↦
        let kept_at : get_or new_same node 0 ≡ get_or same node 0 = same_at node inside ∙ after_off node (lowered before node (get_or same node 0)) without ∙ before_off node (get_or same node 0) without in
        changed-more old planning place steady node (kept.changed steady are node inside (omega (arith, early, kept_at)) old_inside stays)
    | inl has ↦ elim (cases_Bool (steady planning.done)) [
      | inr other ↦ inl (record { at = planning.done; above = omega arith; has = λ d. rw (there.is d) has; other = other })
      | inl settled ↦ absurd (differs (steady-same laws old planning place same no_freer job before after steady kept there low was is are settled))
    ]
  ];
}
  where
    old_holds : List Hold
    old_holds = holds_before old.base old.ranked old.moment place

    new_holds : List Hold
    new_holds = holds_before planning.base planning.ranked planning.moment planning.done

    same_at : (node : ℕ) → node < length planning.base.rooms → get_or new_same node 0 ≡ lowered after node (lowered before node (get_or same node 0))
    same_at node inside = moves.same_each node (omega (arith, inside, kept.long))

    no_freer_at : (node : ℕ) → node < length planning.base.rooms → get_or new_no_freer node 0 ≡ lowered before node (get_or no_freer node 0)
    no_freer_at node inside = moves.no_freer_each node (omega (arith, inside, kept.long_no_freer))

    before_off : (node second : ℕ) → may_have_node node job ≡ false → lowered before node second ≡ second
    before_off node second without =
        let then = get_or old.ranked place job in
        lowered-off laws old.base.rooms old_holds then old.moment old.base.horizon node second before (sym (was job)) (ap (λ nodes. list_any (λ other. eqb node other) nodes) (same-nodes planning.moment then job (there.was job)) ∙ without)

    after_off : (node second : ℕ) → may_have_node node job ≡ false → lowered after node second ≡ second
    after_off node second without = lowered-off laws planning.base.rooms new_holds job planning.moment planning.base.horizon node second after (sym is) without

-- one job more is planned
pub kept-more : PlannerLaws → (old : PlannedView) (planning : PlanningView) (place : ℕ) (same no_freer new_same new_no_freer : List ℕ) (job : PlanJob) (before after : Option Placed) → AreKeptTo old planning place same no_freer → IsThere old planning place job → planning.base.horizon ≤ LAST_START → IsThen old place before → IsNext planning after → GoesOn same no_freer before after new_same new_no_freer → AreKept old planning.base planning.ranked planning.moment (place + 1) (planning.done + 1) new_same new_no_freer
kept-more laws old planning place same no_freer new_same new_no_freer job before after kept there low was next goes = elim goes [
  | inl stands ↦ rw (stands.1, stands.2) (kept-same laws old planning place same no_freer job before kept there was (stands.0 ∙ is))
  | inr other ↦ kept-other laws old planning place same no_freer new_same new_no_freer job before after kept there low was is other.0 other.1
]
  where
    is : after ≡ placement_of planning.base planning.ranked planning.moment planning.done job
    is = rw (there.is job) at (next job)

-- the parts of both placements are on nodes that there are
pub parts-then : PlannerLaws → (old : PlannedView) (planning : PlanningView) (place : ℕ) (job : PlanJob) (before : Option Placed) → IsThere old planning place job → IsThen old place before → AreOnNodes (length planning.base.rooms) before
parts-then laws old planning place job before there was =
    let then = get_or old.ranked place job in
    parts-there laws old.base.rooms (holds_before old.base old.ranked old.moment place) then old.moment old.base.horizon (length planning.base.rooms) before (sym (was job))
    (subst (λ nodes. All (λ node. node < length planning.base.rooms) nodes) (sym (same-nodes planning.moment then job (there.was job))) there.nodes)

pub parts-now : PlannerLaws → (old : PlannedView) (planning : PlanningView) (place : ℕ) (job : PlanJob) (after : Option Placed) → IsThere old planning place job → IsNext planning after → AreOnNodes (length planning.base.rooms) after
parts-now laws old planning place job after there next =
    parts-there laws planning.base.rooms (holds_before planning.base planning.ranked planning.moment planning.done) job planning.moment planning.base.horizon (length planning.base.rooms) after (sym (rw (there.is job) at (next job))) there.nodes
