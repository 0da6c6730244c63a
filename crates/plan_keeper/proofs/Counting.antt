-- Both seconds of some nodes counted anew, part by part.
use Rattle.std.proofs.Common.{◌≡◌, ◌≢◌, ℕ, ◌+◌, ◌-◌, ◌≤◌, ◌<◌, zero, suc, Bool, true, false, ◌||◌, cond, eqb, List, [], ◌∷◌, length, take, set, arith, refl, ap, sym, ◌∙◌, inl, inr, get_or}
use Rattle.std.proofs.lemmas.Bool.{cases_Bool, cases_eq, eq-eqb, ne_eqb, or_right}
use Rattle.std.proofs.lemmas.List.{length-set, get_or-set_same, get_or-set_other}
use Rattle.std.specs.List.Sorted.{IsPermutation}
use Rattle.std.proofs.lemmas.List.Sorted.{sum_by-IsPermutation}
use Rattle.resource_profile.specs.declared.Hold.{Hold}
use Rattle.resource_profile.specs.Free.{room_at, covers, free_cpus, free_mem}
use Rattle.resource_profile.specs.Profiles.{ProfileView}
use Rattle.backfill_planner.specs.declared.Share.{Share}
use Rattle.plan_keeper.specs.Kept.{has_part, AreCountedAnew, IsKeptFrom}

-- one part more
has-more : (node : ℕ) (parts : List Share) (i : ℕ) (d : Share) → i < length parts → has_part node (take (i + 1) parts) ≡ (has_part node (take i parts) || eqb node (get_or parts i d).node)
has-more node [] i d below = absurd (omega (arith, below))
has-more node (first ∷ parts) zero d below = elim (cases_Bool (eqb node first.node)) [
  | inl is ↦ rw is refl
  | inr differs ↦ rw differs refl
]
has-more node (first ∷ parts) (suc i) d below =
    let next : suc i + 1 ≡ suc (i + 1) = omega arith in
    let rest = has-more node parts i d (omega (arith, below)) in
    rw next (elim (cases_Bool (eqb node first.node)) [
      | inl is ↦ rw is refl
      | inr differs ↦ rw differs rest
    ])

pub counted-none : (old new : ProfileView) (now : ℕ) (same no_freer : List ℕ) → AreCountedAnew old new now [] same no_freer same no_freer
counted-none old new now same no_freer = record {
  long = refl;
  long_no_freer = refl;
  each = λ node inside. inr (refl, refl, refl);
}

-- that of a node that is there
pub counted-more : (old new : ProfileView) (now : ℕ) (parts : List Share) (i : ℕ) (part : Share) (same no_freer so_far no_freer_so_far : List ℕ) (one other : ℕ) → length no_freer ≡ length same → i < length parts → ((d : Share) → get_or parts i d ≡ part) → part.node < length same → AreCountedAnew old new now (take i parts) same no_freer so_far no_freer_so_far → IsKeptFrom old new now part.node one other → AreCountedAnew old new now (take (i + 1) parts) same no_freer (set so_far part.node one) (set no_freer_so_far part.node other)
counted-more old new now parts i part same no_freer so_far no_freer_so_far one other equal below is there was kept = record {
  long = length-set so_far part.node one ∙ was.long;
  long_no_freer = length-set no_freer_so_far part.node other ∙ was.long_no_freer;
  each = λ node inside. elim (cases_eq node part.node) [
    | inl here ↦ inl (has node here, rw (here, get_or-set_same so_far part.node one 0 (omega (arith, there, was.long)), get_or-set_same no_freer_so_far part.node other 0 (omega (arith, there, was.long_no_freer, equal))) kept)
    | inr apart ↦ elim (was.each node inside) [
      | inl anew ↦ inl (stays node apart ∙ anew.0, rw (get_or-set_other so_far part.node node one 0 apart, get_or-set_other no_freer_so_far part.node node other 0 apart) anew.1)
      | inr left ↦ inr (stays node apart ∙ left.0, get_or-set_other so_far part.node node one 0 apart ∙ left.1, get_or-set_other no_freer_so_far part.node node other 0 apart ∙ left.2)
    ]
  ];
}
  where
    more : (node : ℕ) → has_part node (take (i + 1) parts) ≡ (has_part node (take i parts) || eqb node part.node)
    more node = has-more node parts i part below ∙ ap (λ (share : Share). has_part node (take i parts) || eqb node share.node) (is part)

    has : (node : ℕ) → node ≡ part.node → has_part node (take (i + 1) parts) ≡ true
    has node here = more node ∙ or_right (has_part node (take i parts)) (eqb node part.node) (eq-eqb node part.node here)

    or-false : (b : Bool) → (b || false) ≡ b
    or-false true = refl
    or-false false = refl

    stays : (node : ℕ) → node ≢ part.node → has_part node (take (i + 1) parts) ≡ has_part node (take i parts)
    stays node apart = more node ∙ ap (λ b. has_part node (take i parts) || b) (ne_eqb node part.node apart) ∙ or-false (has_part node (take i parts))

-- that of one that isn't
pub counted-past : (old new : ProfileView) (now : ℕ) (parts : List Share) (i : ℕ) (part : Share) (same no_freer so_far no_freer_so_far : List ℕ) → i < length parts → ((d : Share) → get_or parts i d ≡ part) → length same ≤ part.node → AreCountedAnew old new now (take i parts) same no_freer so_far no_freer_so_far → AreCountedAnew old new now (take (i + 1) parts) same no_freer so_far no_freer_so_far
counted-past old new now parts i part same no_freer so_far no_freer_so_far below is past was = record {
  long = was.long;
  long_no_freer = was.long_no_freer;
  each = λ node inside. elim (was.each node inside) [
    | inl anew ↦ inl (stays node inside ∙ anew.0, anew.1)
    | inr left ↦ inr (stays node inside ∙ left.0, left.1, left.2)
  ];
}
  where
    or-false : (b : Bool) → (b || false) ≡ b
    or-false true = refl
    or-false false = refl

    stays : (node : ℕ) → node < length same → has_part node (take (i + 1) parts) ≡ has_part node (take i parts)
    stays node inside =
        has-more node parts i part below
        ∙ ap (λ (share : Share). has_part node (take i parts) || eqb node share.node) (is part)
        ∙ ap (λ b. has_part node (take i parts) || b) (ne_eqb node part.node (λ here. omega (arith, here, past, inside)))
        ∙ or-false (has_part node (take i parts))

-- what is free in a profile, whose holds stand in another order
free-cpus-as : (one profile : ProfileView) (node second : ℕ) → profile.rooms ≡ one.rooms → IsPermutation one.holds profile.holds → free_cpus profile.rooms profile.holds node second ≡ free_cpus one.rooms one.holds node second
free-cpus-as one profile node second rooms moved =
    ap (λ some. free_cpus some profile.holds node second) rooms
    ∙ ap (λ held. (room_at one.rooms node).cpus - held) (sum_by-IsPermutation (λ (hold : Hold). cond (covers node second hold) hold.cpus 0) one.holds profile.holds moved)

free-mem-as : (one profile : ProfileView) (node second : ℕ) → profile.rooms ≡ one.rooms → IsPermutation one.holds profile.holds → free_mem profile.rooms profile.holds node second ≡ free_mem one.rooms one.holds node second
free-mem-as one profile node second rooms moved =
    ap (λ some. free_mem some profile.holds node second) rooms
    ∙ ap (λ held. (room_at one.rooms node).mem - held) (sum_by-IsPermutation (λ (hold : Hold). cond (covers node second hold) hold.mem 0) one.holds profile.holds moved)

-- both seconds of a node are those of what the profiles hold
kept-held : (old new old_profile new_profile : ProfileView) (now node same no_freer : ℕ) → old_profile.rooms ≡ old.rooms → IsPermutation old.holds old_profile.holds → new_profile.rooms ≡ new.rooms → IsPermutation new.holds new_profile.holds → IsKeptFrom old_profile new_profile now node same no_freer → IsKeptFrom old new now node same no_freer
kept-held old new old_profile new_profile now node same no_freer old_rooms old_moved new_rooms new_moved kept = record {
  order = kept.order;
  stays = λ known.
      let was = kept.stays known in
      record {
        room = sym (new_room) ∙ was.room ∙ old_room;
        cpus = λ second from below. sym (free-cpus-as new new_profile node second new_rooms new_moved) ∙ was.cpus second from below ∙ free-cpus-as old old_profile node second old_rooms old_moved;
        mem = λ second from below. sym (free-mem-as new new_profile node second new_rooms new_moved) ∙ was.mem second from below ∙ free-mem-as old old_profile node second old_rooms old_moved;
      };
  keeps = λ known.
      let was = kept.keeps known in
      record {
        room = sym (new_room) ∙ was.room ∙ old_room;
        cpus = λ second from below. omega (arith, was.cpus second from below, free-cpus-as new new_profile node second new_rooms new_moved, free-cpus-as old old_profile node second old_rooms old_moved);
        mem = λ second from below. omega (arith, was.mem second from below, free-mem-as new new_profile node second new_rooms new_moved, free-mem-as old old_profile node second old_rooms old_moved);
      };
  all = λ inside stays. kept.all (omega (arith, inside, ap (λ some. length some) old_rooms)) (record {
    room = new_room ∙ stays.room ∙ sym old_room;
    cpus = λ second from below. free-cpus-as new new_profile node second new_rooms new_moved ∙ stays.cpus second from below ∙ sym (free-cpus-as old old_profile node second old_rooms old_moved);
    mem = λ second from below. free-mem-as new new_profile node second new_rooms new_moved ∙ stays.mem second from below ∙ sym (free-mem-as old old_profile node second old_rooms old_moved);
  });
}
  where
    new_room : room_at new_profile.rooms node ≡ room_at new.rooms node
    new_room = ap (λ some. room_at some node) new_rooms

    old_room : room_at old_profile.rooms node ≡ room_at old.rooms node
    old_room = ap (λ some. room_at some node) old_rooms

pub counted-held : (old new old_profile new_profile : ProfileView) (now : ℕ) (parts : List Share) (same no_freer new_same new_no_freer : List ℕ) → old_profile.rooms ≡ old.rooms → IsPermutation old.holds old_profile.holds → new_profile.rooms ≡ new.rooms → IsPermutation new.holds new_profile.holds → AreCountedAnew old_profile new_profile now parts same no_freer new_same new_no_freer → AreCountedAnew old new now parts same no_freer new_same new_no_freer
counted-held old new old_profile new_profile now parts same no_freer new_same new_no_freer old_rooms old_moved new_rooms new_moved counted = record {
  long = counted.long;
  long_no_freer = counted.long_no_freer;
  each = λ node inside. elim (counted.each node inside) [
    | inl anew ↦ inl (anew.0, kept-held old new old_profile new_profile now node (get_or new_same node 0) (get_or new_no_freer node 0) old_rooms old_moved new_rooms new_moved anew.1)
    | inr left ↦ inr left
  ];
}
