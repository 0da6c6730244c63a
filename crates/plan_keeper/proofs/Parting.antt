-- What is marked where the lists part for good.
use Rattle.std.proofs.Common.{◌≡◌, ◌↔◌, ◌⊎◌, ℕ, ◌+◌, ◌-◌, ◌≤◌, ◌<◌, Bool, true, false, ltb, List, [], length, take, arith, sym, ◌∙◌, inl, inr, get_or}
use Rattle.std.proofs.lemmas.Bool.{cases_Bool, cases_lt, lt-ltb, or_left}
use Rattle.backfill_planner.specs.Plans.{PlannedView, PlanningView, holds_before}
use Rattle.backfill_planner.specs.Staying.{StaysFrom}
use Rattle.plan_keeper.specs.Marks.{times, met_from, AreMarks, IsGone, IsGoneMet, IsUnsettled}
use Rattle.plan_keeper.specs.Passing.{HasPassed}
use Rattle.plan_keeper.specs.Planner.{PlannerLaws}
use Rattle.plan_keeper.proofs.Alike.{met-before-place}
use Rattle.plan_keeper.proofs.Frees.{stays-on, stays-self, stays-back}
use Rattle.plan_keeper.proofs.Times.{times-up_to}
use Rattle.plain_data.specs.declared.seconds.TheConstants.{FOREVER}

whole : (old : PlannedView) (planning : PlanningView) (place : ℕ) (same no_freer : List ℕ) (level : List Bool) (node : ℕ) → HasPassed old planning place same no_freer level → node < length planning.base.rooms → FOREVER ≤ get_or same node 0 → StaysFrom old.base.rooms (holds_before old.base old.ranked old.moment place) planning.base.rooms (holds_before planning.base planning.ranked planning.moment planning.done) planning.moment node
whole old planning place same no_freer level node passed inside reached =
    let stays = passed.kept.stays node inside (omega (arith, reached)) in
    record {
      room = stays.room;
      cpus = λ second from below. stays.cpus second from (omega (arith, below, reached));
      mem = λ second from below. stays.mem second from (omega (arith, below, reached));
    }

-- of a node with nothing changed as much is free beside all jobs of the old list above which as many may have it
stays-level : PlannerLaws → (old : PlannedView) (planning : PlanningView) (place : ℕ) (same no_freer : List ℕ) (level : List Bool) (node before : ℕ) → HasPassed old planning place same no_freer level → node < length planning.base.rooms → FOREVER ≤ get_or same node 0 → get_or level node false ≡ true → before ≤ length old.ranked → times node (take before old.ranked) ≡ times node (take planning.done planning.ranked) → StaysFrom old.base.rooms (holds_before old.base old.ranked old.moment before) planning.base.rooms (holds_before planning.base planning.ranked planning.moment planning.done) planning.moment node
stays-level laws old planning place same no_freer level node before passed inside reached marked few is = elim (cases_lt before place) [
  | inl earlier ↦
      let more : before + (place - before) ≡ place = omega (arith, earlier) in
      let back = stays-on laws old.base old.ranked old.moment planning.moment node before (place - before) old.base.rooms (holds_before old.base old.ranked old.moment before) (omega (arith, more, passed.passed.few)) (rw more (sym (is ∙ alike))) (stays-self old.base.rooms (holds_before old.base old.ranked old.moment before) planning.moment node) in
      stays-back old.base.rooms (holds_before old.base old.ranked old.moment before) (holds_before old.base old.ranked old.moment place) planning.base.rooms (holds_before planning.base planning.ranked planning.moment planning.done) planning.moment node (rw more at back) there
  | inr later ↦
      let more : place + (before - place) ≡ before = omega (arith, later) in
      let on = stays-on laws old.base old.ranked old.moment planning.moment node place (before - place) planning.base.rooms (holds_before planning.base planning.ranked planning.moment planning.done) (omega (arith, more, few)) (rw more (is ∙ alike)) there in
      rw more at on
]
  where
    alike : times node (take planning.done planning.ranked) ≡ times node (take place old.ranked)
    alike = sym (passed.levels.alike node inside marked)

    there : StaysFrom old.base.rooms (holds_before old.base old.ranked old.moment place) planning.base.rooms (holds_before planning.base planning.ranked planning.moment planning.done) planning.moment node
    there = whole old planning place same no_freer level node passed inside reached

-- those nodes are marked of which nothing has changed, and which none of the jobs may have that stand in one list alone
pub passed-marks : PlannerLaws → (old : PlannedView) (planning : PlanningView) (place : ℕ) (same no_freer : List ℕ) (level marked : List Bool) → HasPassed old planning place same no_freer level → length marked ≡ length same → ((node : ℕ) (d : Bool) → node < length same → (get_or marked node d ≡ true) ↔ ((FOREVER ≤ get_or same node 0) × (get_or level node false ≡ true))) → AreMarks old planning.base planning.ranked planning.moment planning.done marked (met_from place [])
passed-marks laws old planning place same no_freer level marked passed long each = record {
  long = long ∙ passed.kept.long;
  known = λ before inside met. passed.passed.left before (met-before-place place before met);
  matched = λ node inside is_marked.
      let told = (each node false (omega (arith, inside, passed.kept.long))).0 is_marked in
      record {
        passed = λ before d there has fewer. elim (cases_lt before place) [
          | inl earlier ↦ first-met before earlier
          | inr later ↦ absurd (omega (arith, fewer, passed.levels.alike node inside told.1, times-up_to node old.ranked place before later (omega (arith, there))))
        ];
        stays = λ before few is. stays-level laws old planning place same no_freer level node before passed inside told.0 told.1 few is;
      };
  changed = λ steady are node inside unmarked old_inside stays. elim (cases_lt (get_or same node 0) FOREVER) [
    | inl early ↦ met-too node steady (passed.kept.changed steady are node inside early old_inside stays)
    | inr reached ↦ elim (cases_Bool (get_or level node false)) [
      | inl is_level ↦ absurd (let wrong = sym unmarked ∙ (each node false (omega (arith, inside, passed.kept.long))).1 (reached, is_level) in cc)
      | inr other ↦ met-too node steady (passed.levels.changed steady are node inside other)
    ]
  ];
}
  where
    first-met : (before : ℕ) → before < place → met_from place [] before ≡ true
    first-met before earlier = or_left (ltb before place) false (lt-ltb before place earlier)

    met-too : (node : ℕ) (steady : ℕ → Bool) → IsUnsettled planning.ranked steady planning.done node ⊎ IsGone planning.moment old.ranked planning.ranked place node → IsUnsettled planning.ranked steady planning.done node ⊎ IsGoneMet planning.moment old.ranked planning.ranked (met_from place []) node
    met-too node steady changed = elim changed [
      | inl one ↦ inl one
      | inr lost ↦ inr (record { first = place; gone = lost; all_met = first-met })
    ]
