-- Holds that are taken away from others, one after the other.
use Rattle.std.proofs.Common.{◌≡◌, ℕ, ◌+◌, ◌≤◌, ◌<◌, suc, Bool, true, ◌&&◌, cond, eqb, List, [], ◌∷◌, length, take, get_or, sum_by, Contains, arith, refl, ap, ◌∙◌, inl, inr}
use Rattle.std.proofs.lemmas.Bool.{cases_Bool, and_parts, eqb-true, eq-eqb}
use Rattle.std.proofs.lemmas.List.Sums.{sum_by-cons, sum_by_more_le}
use Rattle.resource_profile.specs.declared.Hold.{Hold}
use Rattle.backfill_planner.specs.Walking.{AreAmong}

abbrev same : Hold → Hold → Bool
same one other =
    eqb one.node other.node && (eqb one.from other.from && (eqb one.until other.until && (eqb one.cpus other.cpus && eqb one.mem other.mem)))

same-itself : (one : Hold) → same one one ≡ true
same-itself one =
    let from = eq-eqb one.from one.from refl in
    let until = eq-eqb one.until one.until refl in
    let cpus = eq-eqb one.cpus one.cpus refl in
    rw (eq-eqb one.node one.node refl, from, until, cpus, eq-eqb one.mem one.mem refl) refl

same-is : (one other : Hold) → same one other ≡ true → one ≡ other
same-is one other is =
    let nodes = and_parts (eqb one.node other.node) (eqb one.from other.from && (eqb one.until other.until && (eqb one.cpus other.cpus && eqb one.mem other.mem))) is in
    let froms = and_parts (eqb one.from other.from) (eqb one.until other.until && (eqb one.cpus other.cpus && eqb one.mem other.mem)) nodes.1 in
    let untils = and_parts (eqb one.until other.until) (eqb one.cpus other.cpus && eqb one.mem other.mem) froms.1 in
    let amounts = and_parts (eqb one.cpus other.cpus) (eqb one.mem other.mem) untils.1 in
    ap (λ (n : ℕ). of n one.from one.until one.cpus one.mem) (eqb-true one.node other.node nodes.0)
    ∙ ap (λ (f : ℕ). of other.node f one.until one.cpus one.mem) (eqb-true one.from other.from froms.0)
    ∙ ap (λ (u : ℕ). of other.node other.from u one.cpus one.mem) (eqb-true one.until other.until untils.0)
    ∙ ap (λ (c : ℕ). of other.node other.from other.until c one.mem) (eqb-true one.cpus other.cpus amounts.0)
    ∙ ap (λ (m : ℕ). of other.node other.from other.until other.cpus m) (eqb-true one.mem other.mem amounts.1)
  where
    of : ℕ → ℕ → ℕ → ℕ → ℕ → Hold
    of n f u c m = record { node = n; from = f; until = u; cpus = c; mem = m }

abbrev once : Hold → Hold → ℕ
once hold one = cond (same one hold) 1 0

there : (holds : List Hold) (hold : Hold) → 1 ≤ sum_by (once hold) holds → Contains holds hold
there [] hold some = absurd (omega (arith, some))
there (one ∷ later) hold some = elim (cases_Bool (same one hold)) [
  | inl is ↦ (0, omega arith, same-is one hold is)
  | inr differs ↦
      let none : once hold one ≡ 0 = rw differs refl in
      let rest = there later hold (omega (arith, some, none, sum_by-cons (once hold) one later)) in
      (suc rest.0, omega (arith, rest.1), rest.2)
]

-- the next of the holds is still there
pub still-there : (holds all held : List Hold) (i : ℕ) (d : Hold) → AreAmong holds all → i < length holds → ((amount : Hold → ℕ) → sum_by amount all ≡ sum_by amount (take i holds) + sum_by amount held) → Contains held (get_or holds i d)
still-there holds all held i d among inside so_far =
    let hold = get_or holds i d in
    let mine : once hold hold ≡ 1 = rw (same-itself hold) refl in
    there held hold (omega (arith, mine, among.sums (once hold), so_far (once hold), sum_by_more_le (once hold) holds i d inside))
