-- The holds stay within the rooms, and what is free over a window.
use Rattle.std.proofs.Common.{◌≡◌, ℕ, ◌-◌, ◌≤◌, ◌<◌, cond, List, [], ◌∷◌, ◌++◌, length, sum_by, Contains, arith, refl, true, inl, inr}
use Rattle.std.specs.List.Sorted.{IsPermutation}
use Rattle.std.proofs.lemmas.Bool.{cases_Bool}
use Rattle.std.proofs.lemmas.List.Sums.{sum_by-cons, sum_by-append}
use Rattle.std.proofs.lemmas.List.Elements.{All-tail, All-push, All-contains, Contains-append_right}
use Rattle.std.proofs.lemmas.List.Sorted.{sum_by-IsPermutation, All-permutation}
use Rattle.resource_profile.specs.declared.NodeRoom.{NodeRoom}
use Rattle.resource_profile.specs.declared.Hold.{Hold}
use Rattle.resource_profile.specs.Free.{room_at, covers, free_cpus, free_mem, least_over}
use Rattle.resource_profile.specs.Profiles.{AreWithin, HasFree}
use Rattle.resource_profile.proofs.Least.{least_over-le, least_over-reached, least_over-same}
use Rattle.resource_profile.proofs.Held.{covers-true, covers-from, held-push}

-- so much is free over the window that the hold's amount is free wherever it covers the moment
fits_more : (amount : Hold → ℕ) (room node moment : ℕ) (holds : List Hold) (hold : Hold) → sum_by (λ (one : Hold). cond (covers node moment one) (amount one) 0) holds ≤ room → (hold.node ≡ node → amount hold ≤ least_over (λ m. room - sum_by (λ (one : Hold). cond (covers node m one) (amount one) 0) holds) hold.from hold.until) → sum_by (λ (one : Hold). cond (covers node moment one) (amount one) 0) (holds ++ hold ∷ []) ≤ room
fits_more amount room node moment holds hold within free =
    elim (cases_Bool (covers node moment hold)) [
      | inl covered ↦
          let facts = covers-true node moment hold covered in
          let least = least_over-le (λ m. room - sum_by (λ (one : Hold). cond (covers node m one) (amount one) 0) holds) hold.from hold.until moment facts.1 facts.2 in
          rw (held-push amount node moment holds hold, covered) (omega (arith, free facts.0, least, within))
      | inr not_covered ↦ rw (held-push amount node moment holds hold, not_covered) (omega (arith, within))
    ]

pub AreWithin-add : (rooms : List NodeRoom) (holds : List Hold) (hold : Hold) → AreWithin rooms holds → HasFree rooms holds hold → AreWithin rooms (holds ++ hold ∷ [])
AreWithin-add rooms holds hold within free = record {
  nodes = All-push (λ (one : Hold). one.node < length rooms) holds hold within.nodes free.node;
  windows = All-push (λ (one : Hold). one.from < one.until) holds hold within.windows free.window;
  cpus = λ node moment. fits_more (λ (one : Hold). one.cpus) (room_at rooms node).cpus node moment holds hold (within.cpus node moment) (λ same. rw (← same) free.cpus);
  mem = λ node moment. fits_more (λ (one : Hold). one.mem) (room_at rooms node).mem node moment holds hold (within.mem node moment) (λ same. rw (← same) free.mem);
}

-- without one of them
pub AreWithin-drop : (rooms : List NodeRoom) (holds rest : List Hold) (hold : Hold) → AreWithin rooms holds → IsPermutation holds (hold ∷ rest) → AreWithin rooms rest
AreWithin-drop rooms holds rest hold within moved = record {
  nodes = All-tail (λ (one : Hold). one.node < length rooms) hold rest (All-permutation (λ (one : Hold). one.node < length rooms) holds (hold ∷ rest) moved within.nodes);
  windows = All-tail (λ (one : Hold). one.from < one.until) hold rest (All-permutation (λ (one : Hold). one.from < one.until) holds (hold ∷ rest) moved within.windows);
  cpus = λ node moment. omega (arith, within.cpus node moment, sum_by-IsPermutation (λ (one : Hold). cond (covers node moment one) one.cpus 0) holds (hold ∷ rest) moved, sum_by-cons (λ (one : Hold). cond (covers node moment one) one.cpus 0) hold rest);
  mem = λ node moment. omega (arith, within.mem node moment, sum_by-IsPermutation (λ (one : Hold). cond (covers node moment one) one.mem 0) holds (hold ∷ rest) moved, sum_by-cons (λ (one : Hold). cond (covers node moment one) one.mem 0) hold rest);
}

free_beside : (amount : Hold → ℕ) (room : ℕ) (holds : List Hold) (hold : Hold) (others : List Hold) → hold.from < hold.until → ((moment : ℕ) → sum_by (λ (one : Hold). cond (covers hold.node moment one) (amount one) 0) (holds ++ hold ∷ others) ≤ room) → amount hold ≤ least_over (λ moment. room - sum_by (λ (one : Hold). cond (covers hold.node moment one) (amount one) 0) holds) hold.from hold.until
free_beside amount room holds hold others window within =
    let at = least_over-reached (λ moment. room - sum_by (λ (one : Hold). cond (covers hold.node moment one) (amount one) 0) holds) hold.from hold.until window in
    let covered : covers hold.node at.0 hold ≡ true = covers-from hold.node at.0 hold refl at.1 at.2 in
    let here : cond (covers hold.node at.0 hold) (amount hold) 0 ≡ amount hold = rw covered refl in
    let more = sum_by-cons (λ (one : Hold). cond (covers hold.node at.0 one) (amount one) 0) hold others in
    omega (arith, at.3, within at.0, here, more, sum_by-append (λ (one : Hold). cond (covers hold.node at.0 one) (amount one) 0) holds (hold ∷ others))

-- where the holds with one more and others are within the rooms, so much is free beside the first ones
pub HasFree-from_within : (rooms : List NodeRoom) (holds : List Hold) (hold : Hold) (others : List Hold) → AreWithin rooms (holds ++ hold ∷ others) → HasFree rooms holds hold
HasFree-from_within rooms holds hold others within =
    let has : Contains (holds ++ hold ∷ others) hold = Contains-append_right holds (hold ∷ others) hold (0, omega arith, refl) in
    let window = All-contains (λ (one : Hold). one.from < one.until) (holds ++ hold ∷ others) hold within.windows has in
    record {
      node = All-contains (λ (one : Hold). one.node < length rooms) (holds ++ hold ∷ others) hold within.nodes has;
      window = window;
      cpus = free_beside (λ (one : Hold). one.cpus) (room_at rooms hold.node).cpus holds hold others window (within.cpus hold.node);
      mem = free_beside (λ (one : Hold). one.mem) (room_at rooms hold.node).mem holds hold others window (within.mem hold.node);
    }

-- the order of the holds doesn't matter
pub HasFree-IsPermutation : (rooms : List NodeRoom) (holds others : List Hold) (hold : Hold) → IsPermutation holds others → HasFree rooms holds hold → HasFree rooms others hold
HasFree-IsPermutation rooms holds others hold moved free = record {
  node = free.node;
  window = free.window;
  cpus = omega (
    arith,
    free.cpus,
    least_over-same (λ moment. free_cpus rooms holds hold.node moment) (λ moment. free_cpus rooms others hold.node moment) hold.from hold.until free.window
        (λ moment. omega (arith, sum_by-IsPermutation (λ (one : Hold). cond (covers hold.node moment one) one.cpus 0) holds others moved)),
  );
  mem = omega (
    arith,
    free.mem,
    least_over-same (λ moment. free_mem rooms holds hold.node moment) (λ moment. free_mem rooms others hold.node moment) hold.from hold.until free.window
        (λ moment. omega (arith, sum_by-IsPermutation (λ (one : Hold). cond (covers hold.node moment one) one.mem 0) holds others moved)),
  );
}
