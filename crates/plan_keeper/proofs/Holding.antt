-- Where the same is held of a node from a moment on, as much of it is free.
use Rattle.std.proofs.Common.{◌≡◌, ℕ, ◌-◌, ◌≤◌, true, false, ◌&&◌, cond, eqb, leb, ltb, List, [], ◌∷◌, arith, refl, ap, sym, ◌∙◌, inl, inr, sum_by}
use Rattle.std.proofs.lemmas.Bool.{cases_Bool, and_cases, and_left, and_right, le-leb, ltb-true, lt-ltb, false_from_ne_true}
use Rattle.std.proofs.lemmas.List.Sums.{sum_by-cons}
use Rattle.resource_profile.specs.declared.NodeRoom.{NodeRoom}
use Rattle.resource_profile.specs.declared.Hold.{Hold}
use Rattle.resource_profile.specs.Free.{room_at, covers}
use Rattle.backfill_planner.specs.Staying.{StaysFrom}
use Rattle.plan_keeper.specs.Holding.{hold_from, is_held_past, holds_from}

covers-from : (now node second : ℕ) (hold : Hold) → now ≤ second → covers node second (hold_from now hold) ≡ covers node second hold
covers-from now node second hold later = elim (cases_Bool (ltb hold.from now)) [
  | inl before ↦
      let here : leb now second ≡ true = le-leb now second later in
      let there : leb hold.from second ≡ true = le-leb hold.from second (omega (arith, later, ltb-true hold.from now before)) in
      rw (before, here, there) refl
  | inr not_before ↦ rw not_before refl
]

covers-past : (now node second : ℕ) (hold : Hold) → now ≤ second → is_held_past now node hold ≡ false → covers node second hold ≡ false
covers-past now node second hold later past = elim (and_cases (eqb hold.node node) (ltb now hold.until) past) [
  | inl other ↦ and_left (eqb hold.node node) (leb hold.from second && ltb second hold.until) other
  | inr over ↦
      let ended : ltb second hold.until ≡ false = false_from_ne_true (ltb second hold.until) (λ covered. let wrong = lt-now covered in absurd (let clash = sym over ∙ wrong in cc)) in
      and_right (eqb hold.node node) (leb hold.from second && ltb second hold.until) (and_right (leb hold.from second) (ltb second hold.until) ended)
]
  where
    lt-now : ltb second hold.until ≡ true → ltb now hold.until ≡ true
    lt-now covered = lt-ltb now hold.until (omega (arith, later, ltb-true second hold.until covered))

held-from : (amount : Hold → ℕ) → ((now : ℕ) (hold : Hold) → amount (hold_from now hold) ≡ amount hold) → (now node second : ℕ) → now ≤ second → (holds : List Hold) → sum_by (λ (hold : Hold). cond (covers node second hold) (amount hold) 0) (holds_from now node holds) ≡ sum_by (λ (hold : Hold). cond (covers node second hold) (amount hold) 0) holds
held-from amount same now node second later [] = refl
held-from amount same now node second later (hold ∷ holds) =
    let rest = held-from amount same now node second later holds in
    elim (cases_Bool (is_held_past now node hold)) [
      | inl is ↦
          let here : cond (covers node second (hold_from now hold)) (amount (hold_from now hold)) 0 ≡ cond (covers node second hold) (amount hold) 0 =
          ap (λ covered. cond covered (amount (hold_from now hold)) 0) (covers-from now node second hold later) ∙ ap (λ held. cond (covers node second hold) held 0) (same now hold) in
          rw is (omega (arith, sum_by-cons (λ (hold : Hold). cond (covers node second hold) (amount hold) 0) (hold_from now hold) (holds_from now node holds), sum_by-cons (λ (hold : Hold). cond (covers node second hold) (amount hold) 0) hold holds, rest, here))
      | inr past ↦
          let nothing : cond (covers node second hold) (amount hold) 0 ≡ 0 = ap (λ covered. cond covered (amount hold) 0) (covers-past now node second hold later past) in
          rw past (omega (arith, sum_by-cons (λ (hold : Hold). cond (covers node second hold) (amount hold) 0) hold holds, rest, nothing))
    ]

pub stays-held : (rooms : List NodeRoom) (holds : List Hold) (new_rooms : List NodeRoom) (new_holds : List Hold) (now node : ℕ) → room_at new_rooms node ≡ room_at rooms node → holds_from now node new_holds ≡ holds_from now node holds → StaysFrom rooms holds new_rooms new_holds now node
stays-held rooms holds new_rooms new_holds now node room same = record {
  room = room;
  cpus = λ second from below.
      ap (λ (room : NodeRoom). room.cpus - held (λ (hold : Hold). hold.cpus) second new_holds) room
      ∙ ap (λ held. (room_at rooms node).cpus - held) (alike (λ (hold : Hold). hold.cpus) (λ now hold. refl) second from);
  mem = λ second from below.
      ap (λ (room : NodeRoom). room.mem - held (λ (hold : Hold). hold.mem) second new_holds) room
      ∙ ap (λ held. (room_at rooms node).mem - held) (alike (λ (hold : Hold). hold.mem) (λ now hold. refl) second from);
}
  where
    held : (Hold → ℕ) → ℕ → List Hold → ℕ
    held amount second some = sum_by (λ (hold : Hold). cond (covers node second hold) (amount hold) 0) some

    alike : (amount : Hold → ℕ) → ((now : ℕ) (hold : Hold) → amount (hold_from now hold) ≡ amount hold) → (second : ℕ) → now ≤ second → held amount second new_holds ≡ held amount second holds
    alike amount kept second from = sym (held-from amount kept now node second from new_holds) ∙ ap (λ some. held amount second some) same ∙ held-from amount kept now node second from holds
