-- A profile's parts agree after a hold is added or dropped.
use Rattle.std.proofs.Common.{◌≡◌, ◌≢◌, ℕ, ◌+◌, ◌*◌, ◌≤◌, ◌<◌, Bool, true, false, ◌&&◌, cond, eqb, leb, ltb, List, [], ◌∷◌, ◌++◌, length, sum_by, get_or, slice_set, Contains, vec_len, vec_capacity, arith, refl, sym, ap, subst, ◌∙◌, inl, inr}
use Rattle.std.specs.List.{swap_remove}
use Rattle.std.specs.List.Sorted.{IsPermutation}
use Rattle.std.proofs.lemmas.Bool.{cases_eq, cases_Bool, eq-eqb, eqb-true}
use Rattle.std.proofs.lemmas.List.{get_or_default, get_or-set_same, get_or-set_other, length-set}
use Rattle.std.proofs.lemmas.List.Sums.{sum_by-cons, sum_by_push, sum_by-le}
use Rattle.std.proofs.lemmas.List.Elements.{All-contains}
use Rattle.std.proofs.lemmas.List.Sorted.{sum_by-IsPermutation, IsPermutation-swap_remove}
use Rattle.resource_profile.specs.declared.NodeRoom.{NodeRoom}
use Rattle.resource_profile.specs.declared.Hold.{Hold}
use Rattle.resource_profile.specs.declared.levels.Amount.{Amount}
use Rattle.resource_profile.specs.declared.levels.Level.{Level}
use Rattle.resource_profile.specs.declared.ends.End.{End}
use Rattle.resource_profile.specs.declared.timeline.Timeline.{Timeline}
use Rattle.resource_profile.specs.Free.{room_at, covers, free_cpus, free_mem, held_cpus, held_mem}
use Rattle.resource_profile.specs.Profiles.{AreWithin, HasFree}
use Rattle.resource_profile.specs.Levels.{IsLevelled, CanTake, CanGive, taken, given}
use Rattle.resource_profile.specs.Windows.{free_of, IsFull}
use Rattle.resource_profile.specs.Ends.{HasEnds, ends_at}
use Rattle.resource_profile.specs.Timelines.{holds_on, holds_until, IsTimeline, AreKept, StaysAsItWas}
use Rattle.resource_profile.proofs.EndEdits.{counted-some, some-counted, tests-eq}
use Rattle.resource_profile.proofs.LevelEdits.{amount}
use Rattle.resource_profile.proofs.Held.{covers-true, covers-from, held-push}
use Rattle.resource_profile.proofs.Least.{least_over-le}
use Rattle.resource_profile.proofs.Rooms.{AreWithin-add, AreWithin-drop}

levelled-same : (free other : ℕ → Amount) (levels : List Level) → ((moment : ℕ) → free moment ≡ other moment) → IsLevelled free levels → IsLevelled other levels
levelled-same free other levels same levelled = record {
  shape = levelled.shape;
  said = λ i moment d inside low high. levelled.said i moment d inside low high ∙ same moment;
}

full-same : (free other : ℕ → Amount) (from until : ℕ) → ((moment : ℕ) → free moment ≡ other moment) → IsFull free from until → IsFull other from until
full-same free other from until same full = λ moment low high. ap (λ (a : Amount). a.cpus) (sym (same moment)) ∙ full moment low high

amounts-same : (one other : Amount) → one.cpus ≡ other.cpus → one.mem ≡ other.mem → one ≡ other
amounts-same one other cpus mem = ap (λ n. amount n one.mem) cpus ∙ ap (λ n. amount other.cpus n) mem

-- the timeline of a node on which nothing is held
pub nothing-held : (rooms : List NodeRoom) (node : ℕ) (timeline : Timeline) → IsLevelled (λ _. record { cpus = (room_at rooms node).cpus; mem = (room_at rooms node).mem }) timeline.levels.items → timeline.holds ≡ 0 → vec_len timeline.levels ≤ vec_capacity timeline.levels → ((free : ℕ → Amount) → IsFull free timeline.full.from timeline.full.until) → IsTimeline rooms [] node 0 timeline
nothing-held rooms node timeline levelled none room full =
    let whole : Amount = record { cpus = (room_at rooms node).cpus; mem = (room_at rooms node).mem } in
    let same : (moment : ℕ) → whole ≡ free_of rooms [] node moment = λ moment.
    let no_cpus : held_cpus [] node moment ≡ 0 = refl in
    let no_mem : held_mem [] node moment ≡ 0 = refl in
    amounts-same whole (free_of rooms [] node moment) (omega (arith, no_cpus)) (omega (arith, no_mem)) in
    record {
      levelled = levelled-same (λ m. whole) (λ m. free_of rooms [] node m) timeline.levels.items same levelled;
      count = none;
      full = full (λ m. free_of rooms [] node m);
      room = omega (arith, none, room);
    }

-- a hold that isn't on the node covers nothing there
covers-elsewhere : (node moment : ℕ) (hold : Hold) → hold.node ≢ node → covers node moment hold ≡ false
covers-elsewhere node moment hold apart = elim (cases_Bool (covers node moment hold)) [
  | inl covered ↦ absurd (apart (covers-true node moment hold covered).0)
  | inr not_covered ↦ not_covered
]

eqb-apart : (a b : ℕ) → a ≢ b → eqb a b ≡ false
eqb-apart a b apart = elim (cases_Bool (eqb a b)) [
  | inl same ↦ absurd (apart (eqb-true a b same))
  | inr not_same ↦ not_same
]

free-push-elsewhere : (rooms : List NodeRoom) (holds : List Hold) (hold : Hold) (node moment : ℕ) → hold.node ≢ node → free_of rooms holds node moment ≡ free_of rooms (holds ++ hold ∷ []) node moment
free-push-elsewhere rooms holds hold node moment apart =
    let off = covers-elsewhere node moment hold apart in
    amounts-same (free_of rooms holds node moment) (free_of rooms (holds ++ hold ∷ []) node moment)
    (rw (held-push (λ (one : Hold). one.cpus) node moment holds hold, off) (omega arith))
    (rw (held-push (λ (one : Hold). one.mem) node moment holds hold, off) (omega arith))

free-push-here : (rooms : List NodeRoom) (holds : List Hold) (hold : Hold) (moment : ℕ) → taken hold (λ m. free_of rooms holds hold.node m) moment ≡ free_of rooms (holds ++ hold ∷ []) hold.node moment
free-push-here rooms holds hold moment =
    let on : eqb hold.node hold.node ≡ true = eq-eqb hold.node hold.node refl in
    elim (cases_Bool (leb hold.from moment && ltb moment hold.until)) [
      | inl covered ↦ rw covered (amounts-same _ (free_of rooms (holds ++ hold ∷ []) hold.node moment)
          (rw (held-push (λ (one : Hold). one.cpus) hold.node moment holds hold, on, covered) (omega arith))
          (rw (held-push (λ (one : Hold). one.mem) hold.node moment holds hold, on, covered) (omega arith)))
      | inr not_covered ↦ rw not_covered (amounts-same (free_of rooms holds hold.node moment) (free_of rooms (holds ++ hold ∷ []) hold.node moment)
          (rw (held-push (λ (one : Hold). one.cpus) hold.node moment holds hold, on, not_covered) (omega arith))
          (rw (held-push (λ (one : Hold). one.mem) hold.node moment holds hold, on, not_covered) (omega arith)))
    ]

-- the timeline of a node that the new hold isn't on
pub elsewhere-add : (rooms : List NodeRoom) (holds : List Hold) (hold : Hold) (node spare less_spare : ℕ) (timeline : Timeline) → hold.node ≢ node → less_spare ≤ spare → IsTimeline rooms holds node spare timeline → IsTimeline rooms (holds ++ hold ∷ []) node less_spare timeline
elsewhere-add rooms holds hold node spare less_spare timeline apart fewer is = record {
  levelled = levelled-same (λ m. free_of rooms holds node m) (λ m. free_of rooms (holds ++ hold ∷ []) node m) timeline.levels.items (λ m. free-push-elsewhere rooms holds hold node m apart) is.levelled;
  count = rw (sum_by_push (λ (one : Hold). cond (eqb one.node node) 1 0) holds hold, eqb-apart hold.node node apart) (omega (arith, is.count));
  full = full-same (λ m. free_of rooms holds node m) (λ m. free_of rooms (holds ++ hold ∷ []) node m) timeline.full.from timeline.full.until (λ m. free-push-elsewhere rooms holds hold node m apart) is.full;
  room = omega (arith, is.room, fewer);
}

-- what the edits of a timeline give
pub record IsAdded (hold : Hold) (timeline after : Timeline) : Type 0 where
  pub kept : (free : ℕ → Amount) → IsLevelled free timeline.levels.items → IsLevelled (taken hold free) after.levels.items
  pub full : (free : ℕ → Amount) → IsLevelled free after.levels.items → IsFull free after.full.from after.full.until
  pub holds : after.holds ≡ timeline.holds + 1
  pub len : vec_len after.levels ≤ vec_len timeline.levels + 2
  pub capacity : vec_capacity timeline.levels ≤ vec_capacity after.levels

pub here-add : (rooms : List NodeRoom) (holds : List Hold) (hold : Hold) (spare : ℕ) (timeline after : Timeline) → IsTimeline rooms holds hold.node (spare + 1) timeline → IsAdded hold timeline after → IsTimeline rooms (holds ++ hold ∷ []) hold.node spare after
here-add rooms holds hold spare timeline after is added =
    let on : eqb hold.node hold.node ≡ true = eq-eqb hold.node hold.node refl in
    let levelled = levelled-same (taken hold (λ m. free_of rooms holds hold.node m)) (λ m. free_of rooms (holds ++ hold ∷ []) hold.node m) after.levels.items (free-push-here rooms holds hold) (added.kept _ is.levelled) in
    record {
      levelled = levelled;
      full = added.full _ levelled;
      count = rw (sum_by_push (λ (one : Hold). cond (eqb one.node hold.node) 1 0) holds hold, on) (omega (arith, is.count, added.holds));
      room = omega (arith, is.room, added.holds, added.len, added.capacity);
    }

-- what a new hold takes is free on its node
pub can-take : (rooms : List NodeRoom) (holds : List Hold) (hold : Hold) (spare : ℕ) (timeline : Timeline) → IsTimeline rooms holds hold.node spare timeline → HasFree rooms holds hold → CanTake timeline.levels.items hold
can-take rooms holds hold spare timeline is free = record {
  free = λ m. free_of rooms holds hold.node m;
  levelled = is.levelled;
  cpus = λ m low high. omega (arith, free.cpus, least_over-le (λ m. free_cpus rooms holds hold.node m) hold.from hold.until m low high);
  mem = λ m low high. omega (arith, free.mem, least_over-le (λ m. free_mem rooms holds hold.node m) hold.from hold.until m low high);
}

-- nothing but memory has changed
pub stays : (rooms : List NodeRoom) (holds : List Hold) (node spare more : ℕ) (timeline after : Timeline) → StaysAsItWas timeline after → vec_len after.levels + (2 * after.holds + 4 * more) ≤ vec_capacity after.levels → IsTimeline rooms holds node spare timeline → IsTimeline rooms holds node more after
stays rooms holds node spare more timeline after same room is = record {
  levelled = rw same.levels is.levelled;
  count = same.holds ∙ is.count;
  full = rw same.full is.full;
  room = room;
}

pub stays-less : (rooms : List NodeRoom) (holds : List Hold) (node spare : ℕ) (timeline after : Timeline) → StaysAsItWas timeline after → IsTimeline rooms holds node spare timeline → IsTimeline rooms holds node spare after
stays-less rooms holds node spare timeline after same is =
    stays rooms holds node spare spare timeline after same (omega (arith, same.holds, same.len, same.capacity, is.room)) is

-- one timeline is another one
pub set-each : (rooms : List NodeRoom) (holds after : List Hold) (spare less_spare place : ℕ) (timelines : List Timeline) (timeline : Timeline) → length timelines ≡ length rooms
    → ((node : ℕ) (d : Timeline) → node < length rooms → node ≢ place → IsTimeline rooms after node less_spare (get_or timelines node d)) → IsTimeline rooms after place less_spare timeline
    → (node : ℕ) (d : Timeline) → node < length rooms → IsTimeline rooms after node less_spare (get_or (slice_set timelines place timeline) node d)
set-each rooms holds after spare less_spare place timelines timeline long others here node d inside = elim (cases_eq node place) [
  | inl at ↦
      let e : node ≡ place = at in
      rw (e, get_or-set_same timelines place timeline d (omega (arith, long, inside, e))) here
  | inr apart ↦ rw (get_or-set_other timelines place node timeline d apart) (others node d inside apart)
]

-- the timeline that was read at a node
pub read-timeline : (rooms : List NodeRoom) (holds : List Hold) (ends : List End) (timelines : List Timeline) (spare node : ℕ) (read : Timeline) → AreKept rooms holds ends timelines spare → node < length rooms → read ≡ get_or timelines node read → IsTimeline rooms holds node spare read
read-timeline rooms holds ends timelines spare node read kept inside is =
    let P : Timeline → Type 0 = λ t. IsTimeline rooms holds node spare t in
    subst P (sym is) (kept.each node read inside)

-- after a hold is added
pub kept-add : (rooms : List NodeRoom) (holds : List Hold) (ends after_ends : List End) (timelines : List Timeline) (spare less_spare : ℕ) (hold : Hold) (timeline : Timeline) → AreKept rooms holds ends timelines spare → HasFree rooms holds hold → less_spare ≤ spare → ((moment : ℕ) → ends_at after_ends moment ≡ ends_at ends moment + cond (eqb hold.until moment) 1 0) → HasEnds after_ends → IsTimeline rooms (holds ++ hold ∷ []) hold.node less_spare timeline
    → AreKept rooms (holds ++ hold ∷ []) after_ends (slice_set timelines hold.node timeline) less_spare
kept-add rooms holds ends after_ends timelines spare less_spare hold timeline kept free fewer counted has here = record {
  within = AreWithin-add rooms holds hold kept.within free;
  long = length-set timelines hold.node timeline ∙ kept.long;
  each = set-each rooms holds (holds ++ hold ∷ []) spare less_spare hold.node timelines timeline kept.long
      (λ node d inside apart. elsewhere-add rooms holds hold node spare less_spare (get_or timelines node d) (λ same. apart (sym same)) fewer (kept.each node d inside)) here;
  has_ends = has;
  same_ends = λ moment. omega (arith, sum_by_push (λ (one : Hold). cond (eqb one.until moment) 1 0) holds hold, counted moment, kept.same_ends moment);
}

-- after memory is taken for a node
pub kept-reserve : (rooms : List NodeRoom) (holds : List Hold) (ends : List End) (timelines : List Timeline) (spare node : ℕ) (read after : Timeline) → AreKept rooms holds ends timelines spare → node < length rooms → read ≡ get_or timelines node read → StaysAsItWas read after → AreKept rooms holds ends (slice_set timelines node after) spare
kept-reserve rooms holds ends timelines spare node read after kept inside is same = record {
  within = kept.within;
  long = length-set timelines node after ∙ kept.long;
  each = set-each rooms holds holds spare spare node timelines after kept.long (λ other d there apart. kept.each other d there)
      (stays-less rooms holds node spare read after same (read-timeline rooms holds ends timelines spare node read kept inside is));
  has_ends = kept.has_ends;
  same_ends = kept.same_ends;
}

-- what is held without one of the holds
held-without : (amount : Hold → ℕ) (node moment : ℕ) (holds rest : List Hold) (hold : Hold) → IsPermutation holds (hold ∷ rest) → cond (covers node moment hold) (amount hold) 0 + sum_by (λ (one : Hold). cond (covers node moment one) (amount one) 0) rest ≡ sum_by (λ (one : Hold). cond (covers node moment one) (amount one) 0) holds
held-without amount node moment holds rest hold moved =
    omega (arith, sum_by-IsPermutation (λ (one : Hold). cond (covers node moment one) (amount one) 0) holds (hold ∷ rest) moved, sum_by-cons (λ (one : Hold). cond (covers node moment one) (amount one) 0) hold rest)

free-drop-elsewhere : (rooms : List NodeRoom) (holds rest : List Hold) (hold : Hold) (node moment : ℕ) → IsPermutation holds (hold ∷ rest) → hold.node ≢ node → free_of rooms holds node moment ≡ free_of rooms rest node moment
free-drop-elsewhere rooms holds rest hold node moment moved apart =
    let off = covers-elsewhere node moment hold apart in
    let cpus = rw off at (held-without (λ (one : Hold). one.cpus) node moment holds rest hold moved) in
    let mem = rw off at (held-without (λ (one : Hold). one.mem) node moment holds rest hold moved) in
    amounts-same (free_of rooms holds node moment) (free_of rooms rest node moment) (omega (arith, cpus)) (omega (arith, mem))

free-drop-here : (rooms : List NodeRoom) (holds rest : List Hold) (hold : Hold) (moment : ℕ) → AreWithin rooms holds → IsPermutation holds (hold ∷ rest) → given hold (λ m. free_of rooms holds hold.node m) moment ≡ free_of rooms rest hold.node moment
free-drop-here rooms holds rest hold moment within moved =
    let on : eqb hold.node hold.node ≡ true = eq-eqb hold.node hold.node refl in
    elim (cases_Bool (leb hold.from moment && ltb moment hold.until)) [
      | inl covered ↦
          let cpus = rw (on, covered) at (held-without (λ (one : Hold). one.cpus) hold.node moment holds rest hold moved) in
          let mem = rw (on, covered) at (held-without (λ (one : Hold). one.mem) hold.node moment holds rest hold moved) in
          rw covered (amounts-same _ (free_of rooms rest hold.node moment)
          (omega (arith, cpus, within.cpus hold.node moment)) (omega (arith, mem, within.mem hold.node moment)))
      | inr not_covered ↦
          let cpus = rw (on, not_covered) at (held-without (λ (one : Hold). one.cpus) hold.node moment holds rest hold moved) in
          let mem = rw (on, not_covered) at (held-without (λ (one : Hold). one.mem) hold.node moment holds rest hold moved) in
          rw not_covered (amounts-same (free_of rooms holds hold.node moment) (free_of rooms rest hold.node moment) (omega (arith, cpus)) (omega (arith, mem)))
    ]

pub elsewhere-drop : (rooms : List NodeRoom) (holds rest : List Hold) (hold : Hold) (node spare : ℕ) (timeline : Timeline) → IsPermutation holds (hold ∷ rest) → hold.node ≢ node → IsTimeline rooms holds node spare timeline → IsTimeline rooms rest node spare timeline
elsewhere-drop rooms holds rest hold node spare timeline moved apart is =
    let off = eqb-apart hold.node node apart in
    let nothing : cond {A = ℕ} (eqb hold.node node) 1 0 ≡ 0 = rw off refl in
    let counted = sum_by-cons (λ (one : Hold). cond (eqb one.node node) 1 0) hold rest in
    record {
      levelled = levelled-same (λ m. free_of rooms holds node m) (λ m. free_of rooms rest node m) timeline.levels.items (λ m. free-drop-elsewhere rooms holds rest hold node m moved apart) is.levelled;
      full = full-same (λ m. free_of rooms holds node m) (λ m. free_of rooms rest node m) timeline.full.from timeline.full.until (λ m. free-drop-elsewhere rooms holds rest hold node m moved apart) is.full;
      count = omega (arith, is.count, counted, nothing, sum_by-IsPermutation (λ (one : Hold). cond (eqb one.node node) 1 0) holds (hold ∷ rest) moved);
      room = is.room;
    }

pub record IsDropped (hold : Hold) (timeline after : Timeline) : Type 0 where
  pub kept : (free : ℕ → Amount) → IsLevelled free timeline.levels.items → IsLevelled (given hold free) after.levels.items
  pub full : (free : ℕ → Amount) → IsLevelled free after.levels.items → IsFull free after.full.from after.full.until
  pub holds : after.holds + 1 ≡ timeline.holds
  pub len : vec_len after.levels ≤ vec_len timeline.levels + 2
  pub capacity : vec_capacity timeline.levels ≤ vec_capacity after.levels

-- the hold is counted on its node
pub counted-on : (holds rest : List Hold) (hold : Hold) → IsPermutation holds (hold ∷ rest) → holds_on holds hold.node ≡ holds_on rest hold.node + 1
counted-on holds rest hold moved =
    let on : eqb hold.node hold.node ≡ true = eq-eqb hold.node hold.node refl in
    let here : cond {A = ℕ} (eqb hold.node hold.node) 1 0 ≡ 1 = rw on refl in
    let counted = sum_by-cons (λ (one : Hold). cond (eqb one.node hold.node) 1 0) hold rest in
    omega (arith, counted, here, sum_by-IsPermutation (λ (one : Hold). cond (eqb one.node hold.node) 1 0) holds (hold ∷ rest) moved)

pub here-drop : (rooms : List NodeRoom) (holds rest : List Hold) (hold : Hold) (spare : ℕ) (timeline after : Timeline) → AreWithin rooms holds → IsPermutation holds (hold ∷ rest) → IsTimeline rooms holds hold.node spare timeline → IsDropped hold timeline after → IsTimeline rooms rest hold.node spare after
here-drop rooms holds rest hold spare timeline after within moved is dropped =
    let levelled = levelled-same (given hold (λ m. free_of rooms holds hold.node m)) (λ m. free_of rooms rest hold.node m) after.levels.items (λ m. free-drop-here rooms holds rest hold m within moved) (dropped.kept _ is.levelled) in
    record {
      levelled = levelled;
      full = dropped.full _ levelled;
      count = omega (arith, is.count, dropped.holds, counted-on holds rest hold moved);
      room = omega (arith, is.room, dropped.holds, dropped.len, dropped.capacity);
    }

-- without the hold no more than the room is free
pub can-give : (rooms : List NodeRoom) (holds rest : List Hold) (hold : Hold) (spare : ℕ) (timeline : Timeline) (room : NodeRoom) → AreWithin rooms holds → IsPermutation holds (hold ∷ rest) → room_at rooms hold.node ≡ room → IsTimeline rooms holds hold.node spare timeline → CanGive timeline.levels.items hold room
can-give rooms holds rest hold spare timeline room within moved room_is is = record {
  free = λ m. free_of rooms holds hold.node m;
  levelled = is.levelled;
  cpus = λ m low high.
      let covered = covers-from hold.node m hold refl low high in
      let held = rw covered at (held-without (λ (one : Hold). one.cpus) hold.node m holds rest hold moved) in
      rw (← room_is) (omega (arith, held, within.cpus hold.node m));
  mem = λ m low high.
      let covered = covers-from hold.node m hold refl low high in
      let held = rw covered at (held-without (λ (one : Hold). one.mem) hold.node m holds rest hold moved) in
      rw (← room_is) (omega (arith, held, within.mem hold.node m));
}

-- after a hold is dropped
pub kept-drop : (rooms : List NodeRoom) (holds rest : List Hold) (ends after_ends : List End) (timelines : List Timeline) (spare : ℕ) (hold : Hold) (timeline : Timeline) → AreKept rooms holds ends timelines spare → IsPermutation holds (hold ∷ rest) → ((moment : ℕ) → ends_at after_ends moment + cond (eqb hold.until moment) 1 0 ≡ ends_at ends moment) → HasEnds after_ends → IsTimeline rooms rest hold.node spare timeline
    → AreKept rooms rest after_ends (slice_set timelines hold.node timeline) spare
kept-drop rooms holds rest ends after_ends timelines spare hold timeline kept moved counted has here = record {
  within = AreWithin-drop rooms holds rest hold kept.within moved;
  long = length-set timelines hold.node timeline ∙ kept.long;
  each = set-each rooms holds rest spare spare hold.node timelines timeline kept.long
      (λ node d inside apart. elsewhere-drop rooms holds rest hold node spare (get_or timelines node d) moved (λ same. apart (sym same)) (kept.each node d inside)) here;
  has_ends = has;
  same_ends = λ moment. omega (
    arith,
    sum_by-IsPermutation (λ (one : Hold). cond (eqb one.until moment) 1 0) holds (hold ∷ rest) moved,
    sum_by-cons (λ (one : Hold). cond (eqb one.until moment) 1 0) hold rest,
    counted moment,
    kept.same_ends moment,
  );
}

-- a hold is counted at its end
counted-at : (holds : List Hold) (k : ℕ) (d : Hold) → k < length holds → 1 ≤ holds_until holds (get_or holds k d).until
counted-at holds k d inside =
    let end = (get_or holds k d).until in
    let same : eqb end end ≡ true = eq-eqb end end refl in
    counted-some (λ (one : Hold). cond (eqb one.until end) 1 0) holds k d inside (rw same (omega arith))

-- some end is at the end of each hold, and some hold ends at each end
pub record IsEndThere (ends : List End) (moment : ℕ) : Type 0 where
  pub place : ℕ
  pub inside : place < length ends
  pub is : (d : End) → (get_or ends place d).moment ≡ moment

pub end-of-hold : (holds : List Hold) (ends : List End) → ((moment : ℕ) → holds_until holds moment ≡ ends_at ends moment) → (k : ℕ) (d : Hold) → k < length holds → IsEndThere ends (get_or holds k d).until
end-of-hold holds ends same k d inside =
    let moment = (get_or holds k d).until in
    let found = some-counted (λ (end : End). cond (eqb end.moment moment) end.count 0) ends (omega (arith, counted-at holds k d inside, same moment)) in
    record { place = found.place; inside = found.inside; is = λ d. tests-eq _ moment _ (found.one d) }

pub record IsEndOfOne (holds : List Hold) (moment : ℕ) : Type 0 where
  pub place : ℕ
  pub inside : place < length holds
  pub is : (d : Hold) → (get_or holds place d).until ≡ moment

pub hold-of-end : (holds : List Hold) (ends : List End) → HasEnds ends → ((moment : ℕ) → holds_until holds moment ≡ ends_at ends moment) → (k : ℕ) (d : End) → k < length ends → IsEndOfOne holds (get_or ends k d).moment
hold-of-end holds ends has same k d inside =
    let moment = (get_or ends k d).moment in
    let on : eqb moment moment ≡ true = eq-eqb moment moment refl in
    let counted = counted-some (λ (end : End). cond (eqb end.moment moment) end.count 0) ends k d inside (rw on (has.some k d inside)) in
    let found = some-counted (λ (one : Hold). cond (eqb one.until moment) 1 0) holds (omega (arith, counted, same moment)) in
    record { place = found.place; inside = found.inside; is = λ d. tests-eq _ moment _ (found.one d) }

-- no more holds end at a moment than there are
at-most-one : (b : Bool) → cond {A = ℕ} b 1 0 ≤ 1
at-most-one true = omega arith
at-most-one false = omega arith

pub ends-few : (rooms : List NodeRoom) (holds : List Hold) (ends : List End) (timelines : List Timeline) (spare moment : ℕ) → AreKept rooms holds ends timelines spare → ends_at ends moment ≤ length holds
ends-few rooms holds ends timelines spare moment kept =
    let few = sum_by-le (λ (one : Hold). cond (eqb one.until moment) 1 0) 1 holds (λ k d inside. at-most-one (eqb (get_or holds k d).until moment)) in
    omega (arith, kept.same_ends moment, few)

-- the hold at a place is dropped
pub dropped-moved : (holds rest : List Hold) (place : ℕ) (read hold : Hold) → place < length holds → get_or holds place hold ≡ hold → read ≡ get_or holds place read → rest ≡ swap_remove holds place read → IsPermutation holds (hold ∷ rest)
dropped-moved holds rest place read hold inside is read_is rest_is =
    let same : read ≡ hold = read_is ∙ get_or_default holds place read hold inside ∙ is in
    rw (← same, rest_is) (IsPermutation-swap_remove holds place read inside read_is)

-- what is known of a hold that there is
pub record IsThere (rooms : List NodeRoom) (holds : List Hold) (ends : List End) (hold : Hold) : Type 0 where
  pub node : hold.node < length rooms
  pub window : hold.from < hold.until
  pub end : 1 ≤ ends_at ends hold.until

pub is-there : (rooms : List NodeRoom) (holds : List Hold) (ends : List End) (timelines : List Timeline) (spare : ℕ) (hold : Hold) → AreKept rooms holds ends timelines spare → Contains holds hold → IsThere rooms holds ends hold
is-there rooms holds ends timelines spare hold kept (place, inside, is) = record {
  node = All-contains (λ (one : Hold). one.node < length rooms) holds hold kept.within.nodes (place, inside, is);
  window = All-contains (λ (one : Hold). one.from < one.until) holds hold kept.within.windows (place, inside, is);
  end = omega (arith, rw is at (counted-at holds place hold inside), kept.same_ends hold.until);
}

-- there is place for the levels of a hold that is dropped, and it is counted
pub record CanDrop (timeline : Timeline) : Type 0 where
  pub room : vec_len timeline.levels + 2 ≤ vec_capacity timeline.levels
  pub count : 1 ≤ timeline.holds

pub can-drop : (rooms : List NodeRoom) (holds rest : List Hold) (hold : Hold) (spare : ℕ) (timeline : Timeline) → IsPermutation holds (hold ∷ rest) → IsTimeline rooms holds hold.node spare timeline → CanDrop timeline
can-drop rooms holds rest hold spare timeline moved is = record {
  room = omega (arith, is.room, is.count, counted-on holds rest hold moved);
  count = omega (arith, is.count, counted-on holds rest hold moved);
}
