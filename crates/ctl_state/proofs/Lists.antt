-- Lists whose elements change, go or are added: what holds of each element and of each two, and what they contain.
use Rattle.std.proofs.Common.{◌≡◌, ℕ, zero, suc, ◌+◌, ◌<◌, Bool, true, false, cond, List, [], ◌∷◌, ◌++◌, length, map, filter, flat_map, take, get_or, All, AllPairs, Contains, Option, None, Some, ◌⊎◌, arith, refl, ap, append_assoc, ◌&&◌, inl, inr}
use Rattle.std.specs.Prelude.{filter_map, find, nat_eq}
use Rattle.std.specs.List.{cons_option}
use Rattle.std.specs.Option.{option_to_list}
use Rattle.std.proofs.lemmas.Bool.{cases_Bool, eqb-true}
use Rattle.std.proofs.lemmas.Bool.Decides.{nat_tests}
use Rattle.std.proofs.lemmas.List.{length-map, get_or-map, take_more}
use Rattle.std.proofs.lemmas.List.Concat.{get_or-flat_map}
use Rattle.std.proofs.lemmas.List.Elements.{All-nil, All-cons, All-head, All-tail, All-append, All-contains, All-filter, All-map, filter_map-append}
use Rattle.std.proofs.lemmas.List.Folds.{length-flat_map-take}
use Rattle.std.proofs.lemmas.List.Kept.{AllPairs-cons}
use Rattle.list_lemmas.proofs.Pairs.{pairs-head, pairs-tail}

-- what holds of each element of a joined list, by the lists that it is joined of
pub All-flat_map : {X Y : Type 0} (P : Y → Type 0) (h : X → List Y) (xs : List X) → All (λ x. All P (h x)) xs → All P (flat_map h xs)
All-flat_map P h [] each = All-nil P
All-flat_map P h (x ∷ xs) each = All-append P (h x) (flat_map h xs) (All-head (λ y. All P (h y)) x xs each) (All-flat_map P h xs (All-tail (λ y. All P (h y)) x xs each))

pub All-from_flat_map : {X Y : Type 0} (P : Y → Type 0) (h : X → List Y) (xs : List X) → All P (flat_map h xs) → All (λ x. All P (h x)) xs
All-from_flat_map P h xs all k d below j e inside =
    rw (get_or-flat_map h xs k j d e below inside) at (all (length (flat_map h (take k xs)) + j) e (omega (arith, inside, length-flat_map-take h xs k d below)))

-- nothing is joined of empty lists
pub flat_map-nothing : {X Y : Type 0} (h : X → List Y) (xs : List X) → All (λ x. h x ≡ []) xs → flat_map h xs ≡ []
flat_map-nothing h [] none = refl
flat_map-nothing h (x ∷ xs) none = rw (All-head (λ y. h y ≡ []) x xs none) (flat_map-nothing h xs (All-tail (λ y. h y ≡ []) x xs none))

-- what holds of each two by what a change leaves as it was holds of each two after it
pub pairs-kept : {X K : Type 0} (R : K → K → Type 0) (key : X → K) (change : X → X) (xs : List X)
    → All (λ x. key (change x) ≡ key x) xs
    → AllPairs (λ one other. R (key one) (key other)) xs
    → AllPairs (λ one other. R (key one) (key other)) (map change xs)
pairs-kept R key change xs same pairs i j d before below =
    let inside : j < length xs = rw (length-map xs change) at below in
    let earlier : i < length xs = omega (arith, before, inside) in
    rw (get_or-map change xs i d d earlier, get_or-map change xs j d d inside, same i d earlier, same j d inside)
    (pairs i j d before inside)

-- numbers that stay rise as they did
pub rising-kept : {X : Type 0} (f : X → ℕ) (change : X → X) (xs : List X) → All (λ x. f (change x) ≡ f x) xs → AllPairs (λ one other. f one < f other) xs
    → AllPairs (λ one other. f one < f other) (map change xs)
rising-kept f change xs same rising = pairs-kept (λ one other. one < other) f change xs same rising

-- what a list with an element kept or left out contains
pub contains-cases : {X : Type 0} (f : X → ℕ) (b : Bool) (x : X) (xs : List X) (y : ℕ) → Contains (map f (cond b (x ∷ xs) xs)) y → ((b ≡ true) × (f x ≡ y)) ⊎ Contains (map f xs) y
contains-cases f true x xs y (zero, within, is) = inl (refl, is)
contains-cases f true x xs y (suc k, within, is) = inr (k, omega (arith, within), is)
contains-cases f false x xs y has = inr has

pub contains-later : {X : Type 0} (f : X → ℕ) (b : Bool) (x : X) (xs : List X) (y : ℕ) → Contains (map f xs) y → Contains (map f (cond b (x ∷ xs) xs)) y
contains-later f true x xs y (k, within, is) = (suc k, omega (arith, within), is)
contains-later f false x xs y has = has

-- a number that was contained is contained after a change of elements with other numbers
pub contains-still : {X : Type 0} (f : X → ℕ) (p : X → Bool) (change : X → X) (y : ℕ) (xs : List X) → ((x : X) → f x ≡ y → change x ≡ x)
    → Contains (map f (filter p xs)) y → Contains (map f (filter p (map change xs))) y
contains-still f p change y [] stays has = has
contains-still f p change y (x ∷ xs) stays has = elim (contains-cases f (p x) x (filter p xs) y has) [
  | inl here ↦ rw (stays x here.1, here.0) (0, omega arith, here.1)
  | inr later ↦ contains-later f (p (change x)) (change x) (filter p (map change xs)) y (contains-still f p change y xs stays later)
]

-- a filter that keeps all, and one after another
pub filter-filter : {X : Type 0} (p q : X → Bool) (xs : List X) → filter q (filter p xs) ≡ filter (λ x. p x && q x) xs
filter-filter p q [] = refl
filter-filter p q (x ∷ xs) = grind (arith, nat_tests, filter-filter p q xs)

-- an element that a search finds, and that passes, is among those that pass
pub found-passes : {X : Type 0} (f : X → ℕ) (p : X → Bool) (y : ℕ) (xs : List X) (x : X)
    → find (λ x. nat_eq (f x) y) xs ≡ Some x → p x ≡ true
    → Contains (map f (filter p xs)) y
found-passes f p y [] x found passes = absurd (let never = found in cc)
found-passes f p y (z ∷ xs) x found passes = elim (cases_Bool (nat_eq (f z) y)) [
  | inl here ↦
      let is : z ≡ x = cc (rw here at found) in
      rw (is, passes) (0, omega arith, rw (← is) (eqb-true (f z) y here))
  | inr other ↦ contains-later f (p z) z (filter p xs) y (found-passes f p y xs x (rw other at found) passes)
]

-- where numbers rise and an element that passes has a number, whatever has the number passes
pub passes-with : {X : Type 0} (f : X → ℕ) (p : X → Bool) (y : ℕ) (xs : List X)
    → AllPairs (λ one other. f one < f other) xs → Contains (map f (filter p xs)) y
    → All (λ x. f x ≡ y → p x ≡ true) xs
passes-with f p y [] rising has = All-nil (λ x. f x ≡ y → p x ≡ true)
passes-with {X} f p y (x ∷ xs) rising has =
    let below : X → X → Type 0 = λ one other. f one < f other in
    let passes : X → Type 0 = λ z. f z ≡ y → p z ≡ true in
    let above = pairs-head below x xs rising in
    elim (contains-cases f (p x) x (filter p xs) y has) [
      | inl here ↦
          All-cons passes x xs (λ same. here.0) (λ k d within same. absurd (omega (arith, same, here.1, above k d within)))
      | inr later ↦
          let less : f x < y = All-contains (λ n. f x < n) (map f (filter p xs)) y
          (All-map (λ n. f x < n) f (filter p xs) (All-filter p (below x) xs above)) later in
          All-cons passes x xs (λ same. absurd (omega (arith, same, less)))
          (passes-with f p y xs (pairs-tail below x xs rising) later)
    ]
