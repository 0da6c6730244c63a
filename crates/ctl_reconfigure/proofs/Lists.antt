-- Lists whose members move: what counts and sums over them come to, and what is found in them.
use Rattle.std.proofs.Common.{◌≡◌, ℕ, zero, suc, ◌+◌, ◌<◌, ◌≤◌, Bool, true, false, cond, ltb, List, [], ◌∷◌, ◌++◌, length, map, flat_map, get_or, sum_by, All, AllPairs, Any, refl, ap, ◌∙◌, arith, inl, inr}
use Rattle.std.specs.Prelude.{count_by}
use Rattle.std.specs.List.{list_any}
use Rattle.std.proofs.lemmas.Bool.{cases_Bool, ltb-true, ltb-false}
use Rattle.std.proofs.lemmas.Bool.Decides.{nat_tests}
use Rattle.std.proofs.lemmas.List.{get_or-map, length-map, map-append}
use Rattle.std.proofs.lemmas.List.Elements.{All-cons, All-head, All-nil, All-tail}
use Rattle.std.proofs.lemmas.List.Sums.{sum_by-cons}
use Rattle.list_lemmas.proofs.Elements.{all-left, all-right}

-- a sum over members that moved is at most one over them as they were, where each counts at most as much
pub sum-moved : {X Y : Type 0} (f : X → Y) (g : Y → ℕ) (h : X → ℕ) (xs : List X) → All (λ x. g (f x) ≤ h x) xs
    → sum_by g (map f xs) ≤ sum_by h xs
sum-moved f g h [] less = omega arith
sum-moved f g h (x ∷ xs) less = omega (
  arith,
  sum_by-cons g (f x) (map f xs),
  sum_by-cons h x xs,
  All-head (λ y. g (f y) ≤ h y) x xs less,
  sum-moved f g h xs (All-tail (λ y. g (f y) ≤ h y) x xs less),
)

-- the same of counts
pub count-moved : {X Y : Type 0} (f : X → Y) (p : Y → Bool) (q : X → Bool) (xs : List X)
    → All (λ x. p (f x) ≡ true → q x ≡ true) xs
    → count_by p (map f xs) ≤ count_by q xs
count-moved {X} f p q xs only =
    sum-moved f (λ y. cond (p y) 1 0) (λ x. cond (q x) 1 0) xs (λ k d below. one (p (f (get_or xs k d))) (q (get_or xs k d)) (only k d below))
  where
    one : (b c : Bool) → (b ≡ true → c ≡ true) → cond b 1 0 ≤ cond c 1 0
    one true true then = omega arith
    one true false then = absurd (let never = then refl in cc)
    one false c then = omega arith

-- where a sum over them comes to something, a member counts
pub any-moved : {X Y : Type 0} (f : X → Y) (g : Y → ℕ) (xs : List X) → 1 ≤ sum_by g (map f xs) → Any (λ x. 1 ≤ g (f x)) xs
any-moved f g [] some = absurd (omega (arith, some))
any-moved f g (x ∷ xs) some = elim (cases_Bool (ltb 0 (g (f x)))) [
  | inl here ↦ (0, x, omega arith, refl, ltb-true 0 (g (f x)) here)
  | inr other ↦
      let rest : 1 ≤ sum_by g (map f xs) = omega (arith, some, sum_by-cons g (f x) (map f xs), ltb-false 0 (g (f x)) other) in
      let (k, y, below, is, counts) = any-moved f g xs rest in
      (suc k, y, omega (arith, below), is, counts)
]

-- what is joined of lists whose members moved is what was joined, moved
pub flat_map-moved : {X Y Z : Type 0} (f : Y → Z) (h : X → List Y) (xs : List X)
    → flat_map (λ x. map f (h x)) xs ≡ map f (flat_map h xs)
flat_map-moved f h [] = refl
flat_map-moved f h (x ∷ xs) = rw (map-append f (h x) (flat_map h xs), flat_map-moved f h xs) refl

-- what holds of each two by what a list's members become holds of each two that they become
pub pairs-mapped : {X Y : Type 0} (R : Y → Y → Type 0) (f : X → Y) (xs : List X)
    → AllPairs (λ one other. R (f one) (f other)) xs → AllPairs R (map f xs)
pairs-mapped R f xs pairs i j d before below =
    let inside : j < length xs = rw (length-map xs f) at below in
    let (x, at) = member xs i (omega (arith, before, inside)) in
    rw (get_or-map f xs i x d (omega (arith, before, inside)), get_or-map f xs j x d inside) (pairs i j x before inside)
  where
    member : {X : Type 0} (xs : List X) (i : ℕ) → i < length xs → (x : X) × (get_or xs i x ≡ x)
    member [] i inside = absurd (omega (arith, inside))
    member (x ∷ xs) zero inside = (x, refl)
    member (x ∷ xs) (suc i) inside = member xs i (omega (arith, inside))

-- what holds of each member of joined lists holds of each of every one of them
pub all-from_joined : {X Y : Type 0} (P : Y → Type 0) (h : X → List Y) (xs : List X) → All P (flat_map h xs)
    → All (λ x. All P (h x)) xs
all-from_joined P h [] all = All-nil (λ x. All P (h x))
all-from_joined P h (x ∷ xs) all =
    All-cons (λ x. All P (h x)) x xs (all-left P (h x) (flat_map h xs) all)
    (all-from_joined P h xs (all-right P (h x) (flat_map h xs) all))
