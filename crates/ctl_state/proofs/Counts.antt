-- How often a test holds in a list, and how a sum grows where one element changes.
use Rattle.std.proofs.Common.{◌≡◌, ℕ, suc, ◌+◌, ◌<◌, ◌≤◌, Bool, true, false, cond, eqb, List, [], ◌∷◌, length, map, filter, flat_map, get_or, sum_by, All, AllPairs, Any, Contains, arith, refl, ap, inl, inr}
use Rattle.std.specs.Prelude.{count_by}
use Rattle.std.proofs.lemmas.Bool.Decides.{nat_tests}
use Rattle.std.proofs.lemmas.Bool.{both_ways, cases_Bool, eq-eqb, ne_eqb}
use Rattle.std.proofs.lemmas.List.Elements.{All-head, All-tail, All-map, All-filter, All-contains, filter_passes}
use Rattle.std.proofs.lemmas.List.Folds.{map_fixed}
use Rattle.std.proofs.lemmas.List.Kept.{AllPairs-cons, AllPairs-filter}
use Rattle.std.proofs.lemmas.List.Sums.{sum_by-append, sum_by-cons, get_or-le-sum_by, length-filter}
use Rattle.ctl_state.proofs.Lists.{contains-cases}
use Rattle.list_lemmas.proofs.Pairs.{pairs-head, pairs-tail}
use Rattle.list_lemmas.proofs.Sums.{count-cons}

-- where a test counts, it holds of an element
pub Any-counted : {X : Type 0} (p : X → Bool) (xs : List X) → 1 ≤ count_by p xs → Any (λ x. p x ≡ true) xs
Any-counted p [] some = absurd (omega (arith, some))
Any-counted p (x ∷ xs) some = elim (cases_Bool (p x)) [
  | inl passes ↦ (0, x, omega arith, refl, passes)
  | inr fails ↦ let (k, y, below, is, passes) = Any-counted p xs (omega (arith, rw (count-cons p x xs, fails) at some)) in (suc k, y, omega (arith, below), is, passes)
]

-- a test that holds of one of each two at most counts once at most, and the other way round
pub count-once : {X : Type 0} (p : X → Bool) (xs : List X) → AllPairs (λ one other. p one ≡ true → p other ≡ false) xs → count_by p xs ≤ 1
count-once {X} p xs pairs = rw (← length-filter p xs) (one-most (filter p xs) (filter_passes p xs) (AllPairs-filter apart p xs pairs))
  where
    apart : X → X → Type 0
    apart one other = p one ≡ true → p other ≡ false

    one-most : (ys : List X) → All (λ y. p y ≡ true) ys → AllPairs apart ys → length ys ≤ 1
    one-most [] passes differ = omega arith
    one-most (y ∷ []) passes differ = omega arith
    one-most (y ∷ z ∷ ys) passes differ = absurd (both_ways (p z) (differ 0 1 y (omega arith) (omega arith) (passes 0 y (omega arith))) (passes 1 y (omega arith)))

pub pairs-counted : {X : Type 0} (p : X → Bool) (xs : List X) → count_by p xs ≤ 1 → AllPairs (λ one other. p one ≡ true → p other ≡ false) xs
pairs-counted p [] once = λ i j d before below. absurd (omega (arith, below))
pairs-counted p (x ∷ xs) once =
    AllPairs-cons (λ one other. p one ≡ true → p other ≡ false) x xs others (pairs-counted p xs (omega (arith, once, count-cons p x xs)))
  where
    others : All (λ y. p x ≡ true → p y ≡ false) xs
    others k d below passes =
        let two = get_or-le-sum_by (λ y. cond (p y) 1 0) xs k d below in
        let all = count-cons p x xs in
        grind (arith, nat_tests, once)

-- a sum grows by what the one element with a number gets, where the numbers rise and an element that passes has the number
pub sum-grown : {X : Type 0} (f : X → ℕ) (p : X → Bool) (change : X → X) (amount : X → ℕ) (number extra : ℕ) (xs : List X)
    → AllPairs (λ one other. f one < f other) xs → Contains (map f (filter p xs)) number → All (λ x. p x ≡ true → amount (change x) ≡ amount x + extra) xs
    → sum_by amount (map (λ x. cond (eqb (f x) number) (change x) x) xs) ≡ sum_by amount xs + extra
sum-grown f p change amount number extra [] rising has each = absurd (omega (arith, has.1))
sum-grown {X} f p change amount number extra (x ∷ xs) rising has each =
    let below : X → X → Type 0 = λ one other. f one < f other in
    let set : X → X = λ y. cond (eqb (f y) number) (change y) y in
    let grows : X → Type 0 = λ y. p y ≡ true → amount (change y) ≡ amount y + extra in
    let above = pairs-head below x xs rising in
    let before = sum_by-cons amount x xs in
    let after = sum_by-cons amount (set x) (map set xs) in
    elim (contains-cases f (p x) x (filter p xs) number has) [
      | inl here ↦
          let is : amount (set x) ≡ amount (change x) = rw (eq-eqb (f x) number here.1) refl in
          let fixed : map set xs ≡ xs = map_fixed set xs (λ k d within. rw (ne_eqb (f (get_or xs k d)) number (λ same. omega (arith, same, here.1, above k d within))) refl) in
          omega (arith, before, after, is, All-head grows x xs each here.0, ap (sum_by amount) fixed)
      | inr later ↦
          let less : f x < number = All-contains (λ n. f x < n) (map f (filter p xs)) number (All-map (λ n. f x < n) f (filter p xs) (All-filter p (below x) xs above)) later in
          let is : amount (set x) ≡ amount x = rw (ne_eqb (f x) number (λ same. omega (arith, same, less))) refl in
          omega (arith, before, after, is, sum-grown f p change amount number extra xs (pairs-tail below x xs rising) later (All-tail grows x xs each))
    ]

-- the sum over a joined list, by the lists that it is joined of
pub sum_by-flat_map : {X Y : Type 0} (f : Y → ℕ) (h : X → List Y) (xs : List X) → sum_by f (flat_map h xs) ≡ sum_by (λ x. sum_by f (h x)) xs
sum_by-flat_map f h [] = refl
sum_by-flat_map f h (x ∷ xs) = omega (arith, sum_by-append f (h x) (flat_map h xs), sum_by-cons (λ y. sum_by f (h y)) x xs, sum_by-flat_map f h xs)

-- a sum over elements that change grows by what each of them gets
pub sum-each : {X : Type 0} (f extra : X → ℕ) (change : X → X) (xs : List X)
    → All (λ x. f (change x) ≡ f x + extra x) xs
    → sum_by f (map change xs) ≡ sum_by f xs + sum_by extra xs
sum-each f extra change [] each = refl
sum-each f extra change (x ∷ xs) each = omega (
  arith,
  sum_by-cons f (change x) (map change xs),
  sum_by-cons f x xs,
  sum_by-cons extra x xs,
  All-head (λ y. f (change y) ≡ f y + extra y) x xs each,
  sum-each f extra change xs (All-tail (λ y. f (change y) ≡ f y + extra y) x xs each),
)
