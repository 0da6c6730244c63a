-- The least over a window, what covers a second, and which places are dealt to.
use Rattle.std.proofs.Common.{◌≡◌, ℕ, ◌+◌, ◌-◌, ◌≤◌, ◌<◌, zero, suc, min, List, [], ◌∷◌, length, true, ◌&&◌, eqb, ltb, leb, arith, refl, ap, inl, inr}
use Rattle.std.proofs.lemmas.Bool.{cases_lt, cases_eq, and_parts, and_from, eqb-true, eq-eqb, leb-true, le-leb, ltb-true, lt-ltb}
use Rattle.resource_profile.specs.declared.Hold.{Hold}
use Rattle.resource_profile.specs.Free.{covers, least_after, least_over}
use Rattle.resource_profile.specs.Sets.{capacity, dealt, places}

-- what is the least from a second on, for so many seconds more
after_is : (free : ℕ → ℕ) (from more : ℕ) → ((moment : ℕ) → from ≤ moment → moment ≤ from + more → least_after free from more ≤ free moment)
    × ((moment : ℕ) × (from ≤ moment) × (moment ≤ from + more) × (free moment ≡ least_after free from more))
unfolding least_after
after_is free from zero = (λ moment low high. let same : moment ≡ from = omega arith in rw same (omega arith), (from, omega arith, omega arith, refl))
after_is free from (suc more) =
    let rest = after_is free (from + 1) more in (
      λ moment from_low to_high. elim (cases_eq moment from) [
        | inl same ↦ rw same (omega arith)
        | inr apart ↦ let later = rest.0 moment (omega arith) (omega arith) in omega arith
      ],
      let at = rest.1 in
          elim (cases_lt (least_after free (from + 1) more) (free from)) [
            | inl below ↦ (at.0, omega (arith, at.1), omega (arith, at.2), omega (arith, at.3, below))
            | inr above ↦ (from, omega arith, omega arith, omega (arith, above))
          ],
    )

-- the least over a window is no more than what is free at a second of it
pub over_lower : (free : ℕ → ℕ) (from until moment : ℕ) → from ≤ moment → moment < until → least_over free from until ≤ free moment
over_lower free from until moment low high = (after_is free from (until - from - 1)).0 moment low (omega arith)

-- and it is free at one
pub over_reached : (free : ℕ → ℕ) (from until : ℕ) → from < until → (moment : ℕ) × (from ≤ moment) × (moment < until) × (free moment ≡ least_over free from until)
over_reached free from until window =
    let at = (after_is free from (until - from - 1)).1 in
    (at.0, at.1, omega (arith, at.2), at.3)

pub what_covers : (node moment : ℕ) (hold : Hold) → covers node moment hold ≡ true → (hold.node ≡ node) × (hold.from ≤ moment) × (moment < hold.until)
what_covers node moment hold e =
    let parts = and_parts (eqb hold.node node) (leb hold.from moment && ltb moment hold.until) e in
    let times = and_parts (leb hold.from moment) (ltb moment hold.until) parts.1 in
    (eqb-true hold.node node parts.0, leb-true hold.from moment times.0, ltb-true moment hold.until times.1)

pub covers_at : (node moment : ℕ) (hold : Hold) → hold.node ≡ node → hold.from ≤ moment → moment < hold.until → covers node moment hold ≡ true
covers_at node moment hold same low high =
    and_from (eqb hold.node node) (leb hold.from moment && ltb moment hold.until) (eq-eqb hold.node node same)
    (and_from (leb hold.from moment) (ltb moment hold.until) (le-leb hold.from moment low) (lt-ltb moment hold.until high))

pub dealt_places : (caps : List ℕ) (tasks : ℕ) (set : List ℕ) → places (dealt caps tasks set) ≡ set
dealt_places caps tasks [] = refl
dealt_places caps tasks (place ∷ later) = ap (λ rest. place ∷ rest) (dealt_places caps (tasks - min (capacity caps place) (tasks - length later)) later)
