-- What the places of a set can give, against what is held.
use Rattle.std.proofs.Common.{◌≡◌, ℕ, ◌+◌, ◌-◌, ◌*◌, ◌≤◌, ◌<◌, List, [], ◌∷◌, length, sum, sum_by, All, inl, inr, refl, ap, arith, get_or, drop, ltb, cond, true, false, suc, slice_index, set}
use Rattle.std.proofs.lemmas.Bool.{cases_lt, lt-ltb, le-ltb}
use Rattle.std.proofs.lemmas.List.{get_or_past, drop-drop}
use Rattle.std.proofs.lemmas.List.Sums.{sum_by-cons, sum_by-drop_more, sum_by-take-drop, sum_by-set}
use Rattle.std.proofs.lemmas.List.Elements.{All-head, All-tail}
use Rattle.resource_profile.specs.Sets.{capacity, IsRisingFrom}
use Rattle.resource_profile.specs.Holding.{held_count}

sum_by-drop-le : (f : ℕ → ℕ) (xs : List ℕ) (low high : ℕ) → low ≤ high → sum_by f (drop high xs) ≤ sum_by f (drop low xs)
sum_by-drop-le f xs low high below =
    let e : low + (high - low) ≡ high = omega arith in
    let d : drop (high - low) (drop low xs) ≡ drop high xs = rw (drop-drop, e) refl in
    omega (arith, ap (sum_by f) d, sum_by-take-drop f (drop low xs) (high - low))

-- the places of a set are among those that it may have, each once
pub sum_by-rising : (f : ℕ → ℕ) (xs : List ℕ) (low : ℕ) (places : List ℕ) → f 0 ≡ 0 → IsRisingFrom low places → sum_by (λ place. f (slice_index xs place)) places ≤ sum_by f (drop low xs)
sum_by-rising f xs low [] none rising = omega arith
sum_by-rising f xs low (place ∷ later) none rising =
    let rest = sum_by-rising f xs (place + 1) later none rising.1 in
    let first = sum_by-cons (λ p. f (slice_index xs p)) place later in
    let lower : low ≤ place = rising.0 in
    let all = sum_by-drop-le f xs low place lower in
    elim (cases_lt place (length xs)) [
      | inl inside ↦ omega (arith, rest, first, all, sum_by-drop_more f xs place 0 inside)
      | inr past ↦
          let nothing : f (slice_index xs place) ≡ 0 = rw (get_or_past xs place 0 past) none in
          let left = sum_by-drop-le f xs low (place + 1) (omega arith) in
          omega (arith, rest, first, nothing, left)
    ]

-- what each place gives is at most `least` and what the second list has above it
pub sum_by-rising_above : (caps held : List ℕ) (least low : ℕ) (places : List ℕ) → IsRisingFrom low places → ((place : ℕ) → low ≤ place → capacity caps place ≤ least + (slice_index held place - least)) → sum_by (λ place. capacity caps place) places ≤ length places * least + sum_by (λ place. slice_index held place - least) places
sum_by-rising_above caps held least low [] rising bound = omega arith
sum_by-rising_above caps held least low (place ∷ later) rising bound =
    let lower : low ≤ place = rising.0 in
    let rest = sum_by-rising_above caps held least (place + 1) later rising.1 (λ p h. bound p (omega arith)) in
    omega (arith, rest, bound place lower, sum_by-cons (λ p. capacity caps p) place later, sum_by-cons (λ p. slice_index held p - least) place later)

-- how one more place counts
pub held_count-cons_held : (tasks : ℕ) (held : List ℕ) → 1 ≤ tasks → held_count (tasks ∷ held) ≡ 1 + held_count held
held_count-cons_held tasks held giving =
    let holds : ltb 0 tasks ≡ true = lt-ltb 0 tasks giving in
    rw (sum_by-cons (λ (n : ℕ). cond (ltb 0 n) 1 0) tasks held, holds) refl

pub held_count-cons_empty : (tasks : ℕ) (held : List ℕ) → tasks ≡ 0 → held_count (tasks ∷ held) ≡ held_count held
held_count-cons_empty tasks held empty =
    let fails : ltb 0 tasks ≡ false = le-ltb 0 tasks (omega arith) in
    rw (sum_by-cons (λ (n : ℕ). cond (ltb 0 n) 1 0) tasks held, fails) (omega arith)

-- where each place that is held gives `least` at least
pub sum-held : (least : ℕ) (held : List ℕ) → ((place : ℕ) → 1 ≤ slice_index held place → least ≤ slice_index held place) → held_count held * least + sum_by (λ tasks. tasks - least) held ≤ sum held
sum-held least [] above = omega arith
sum-held least (tasks ∷ held) above =
    let rest = sum-held least held (λ place giving. above (suc place) giving) in
    let over = sum_by-cons (λ n. n - least) tasks held in
    let all = sum_by-cons (λ (n : ℕ). n) tasks held in
    elim (cases_lt 0 tasks) [
      | inl giving ↦
          let low : least ≤ tasks = above 0 giving in
          rw (held_count-cons_held tasks held giving) (omega (arith, rest, over, all))
      | inr empty ↦
          let none : tasks ≡ 0 = omega arith in
          rw (held_count-cons_empty tasks held none) (omega (arith, rest, over, all))
    ]

pub held_count-zero : (held : List ℕ) → held_count held ≡ 0 → sum held ≡ 0
held_count-zero [] none = refl
held_count-zero (tasks ∷ held) none =
    elim (cases_lt 0 tasks) [
      | inl giving ↦ absurd (omega (arith, none, held_count-cons_held tasks held giving))
      | inr empty ↦
          let nothing : tasks ≡ 0 = omega arith in
          omega (arith, sum_by-cons (λ (n : ℕ). n) tasks held, held_count-zero held (omega (arith, none, held_count-cons_empty tasks held nothing)))
    ]

-- how a write changes what is held
pub held_count-set_held : (held : List ℕ) (place tasks : ℕ) → place < length held → slice_index held place ≡ 0 → 1 ≤ tasks → held_count (set held place tasks) ≡ held_count held + 1
held_count-set_held held place tasks inside empty giving =
    let was : ltb 0 (get_or held place 0) ≡ false = le-ltb 0 (get_or held place 0) (omega arith) in
    let is : ltb 0 tasks ≡ true = lt-ltb 0 tasks giving in
    let change = rw (was, is) at (sum_by-set (λ (n : ℕ). cond (ltb 0 n) 1 0) held place tasks 0 inside) in
    omega (arith, change)

pub held_count-set_empty : (held : List ℕ) (place : ℕ) → place < length held → 1 ≤ slice_index held place → held_count (set held place 0) + 1 ≡ held_count held
held_count-set_empty held place inside giving =
    let was : ltb 0 (get_or held place 0) ≡ true = lt-ltb 0 (get_or held place 0) (omega arith) in
    let change = rw was at (sum_by-set (λ (n : ℕ). cond (ltb 0 n) 1 0) held place 0 0 inside) in
    omega (arith, change)

pub sum-set_empty : (held : List ℕ) (place : ℕ) → place < length held → sum (set held place 0) + slice_index held place ≡ sum held
sum-set_empty held place inside = omega (arith, sum_by-set (λ (n : ℕ). n) held place 0 0 inside)

-- what at most `room` later places can give, where the places that are held give `least` at least, and the others at most that
pub bound_above : (caps held : List ℕ) (least low : ℕ) (places : List ℕ) → IsRisingFrom low places → ((place : ℕ) → low ≤ place → capacity caps place ≤ least + (slice_index held place - least)) → ((place : ℕ) → 1 ≤ slice_index held place → least ≤ slice_index held place) → sum_by (λ place. capacity caps place) places + held_count held * least ≤ sum held + length places * least
bound_above caps held least low places rising bound above =
    let given = sum_by-rising_above caps held least low places rising bound in
    let extra = sum_by-rising (λ tasks. tasks - least) held low places (omega arith) rising in
    let whole = sum_by-drop-le (λ tasks. tasks - least) held 0 low (omega arith) in
    let kept = sum-held least held above in
    omega (arith, given, extra, whole, kept)

-- a set of places that are all held has no more places than are held
pub length-held : (held : List ℕ) (low : ℕ) (places : List ℕ) → IsRisingFrom low places → All (λ place. 1 ≤ slice_index held place) places → length places ≤ held_count held
length-held held low places rising giving =
    let counted = sum_by-rising (λ tasks. cond (ltb 0 tasks) 1 0) held low places refl rising in
    let whole = sum_by-drop-le (λ tasks. cond (ltb 0 tasks) 1 0) held 0 low (omega arith) in
    omega (arith, counted, whole, each_counts held places giving)
  where
    each_counts : (held places : List ℕ) → All (λ place. 1 ≤ slice_index held place) places → sum_by (λ place. cond (ltb 0 (slice_index held place)) 1 0) places ≡ length places
    each_counts held [] giving = refl
    each_counts held (place ∷ later) giving =
        let here : ltb 0 (slice_index held place) ≡ true = lt-ltb 0 (slice_index held place) (All-head (λ p. 1 ≤ slice_index held p) place later giving) in
        let rest = each_counts held later (All-tail (λ p. 1 ≤ slice_index held p) place later giving) in
        let first = sum_by-cons (λ (p : ℕ). cond (ltb 0 (slice_index held p)) 1 0) place later in
        rw (first, here) (omega (arith, rest))
