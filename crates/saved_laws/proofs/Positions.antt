-- Places in lists: what is found there, and at which place something is found.
use Rattle.std.proofs.Common.{ℕ, ◌≡◌, ◌≢◌, ◌∙◌, ◌+◌, ◌<◌, zero, suc, Bool, true, false, cond, not, if◌then◌else◌, ltb, List, [], ◌∷◌, map, length, All, AllPairs, Some, None, bytes_eq, slice_get, refl, ap, sym, subst, arith, inl, inr}
use Rattle.std.specs.Prelude.{option_map}
use Rattle.std.specs.List.{position, position_or_len}
use Rattle.std.proofs.lemmas.Bool.{cases_Bool, le-ltb, lt-ltb, ltb-false, ltb-true, false_from_ne_true}
use Rattle.std.proofs.lemmas.List.{length-map}
use Rattle.std.proofs.lemmas.List.Elements.{All-cons, All-head, All-map, All-nil, All-tail}
use Rattle.std.proofs.lemmas.List.Kept.{AllPairs-cons}
use Rattle.list_lemmas.proofs.Pairs.{pairs-head, pairs-tail}
use Rattle.saved_laws.proofs.Named.{own_name}
use Rattle.ctl_reconfigure.proofs.NameLists.{bytes-same as same_name}

-- ---- what stands at a place

-- what holds of all holds of what stands at a place
pub all_at : {A : Type 0} (P : A → Type 0) (xs : List A) (k : ℕ) (x : A) → All P xs → slice_get xs k ≡ Some x → P x
all_at P [] k x all is = absurd (cc)
all_at P (y ∷ ys) zero x all is =
    let same : y ≡ x = cc in
    subst P same (All-head P y ys all)
all_at P (y ∷ ys) (suc k) x all is = all_at P ys k x (All-tail P y ys all) is

-- the place is within the list
pub within : {A : Type 0} (xs : List A) (k : ℕ) (x : A) → slice_get xs k ≡ Some x → k < length xs
within [] k x is = absurd (cc)
within (y ∷ ys) zero x is = omega arith
within (y ∷ ys) (suc k) x is = omega (arith, within ys k x is)

-- what stands at a place within the list
pub there : {A : Type 0} (xs : List A) (k : ℕ) → k < length xs → (x : A) × (slice_get xs k ≡ Some x)
there [] k below = absurd (omega (arith, below))
there (y ∷ ys) zero below = (y, refl)
there (y ∷ ys) (suc k) below = there ys k (omega (arith, below))

-- of two that stand apart the places differ
pub one_place : {A : Type 0} (R : A → A → Type 0) (xs : List A) → AllPairs R xs → (j k : ℕ) (y x : A)
    → slice_get xs j ≡ Some y → slice_get xs k ≡ Some x → ¬ R y x → ¬ R x y → j ≡ k
one_place R [] apart j k y x one other not back = absurd (cc)
one_place R (z ∷ zs) apart zero zero y x one other not back = refl
one_place R (z ∷ zs) apart zero (suc k) y x one other not back =
    let same : z ≡ y = cc in
    absurd (not (subst (λ z. R z x) same (all_at (R z) zs k x (pairs-head R z zs apart) other)))
one_place R (z ∷ zs) apart (suc j) zero y x one other not back =
    let same : z ≡ x = cc in
    absurd (back (subst (λ z. R z y) same (all_at (R z) zs j y (pairs-head R z zs apart) one)))
one_place R (z ∷ zs) apart (suc j) (suc k) y x one other not back =
    ap suc (one_place R zs (pairs-tail R z zs apart) j k y x one other not back)

-- ---- the first that passes

position-or-len-map : {A B : Type 0} (p : B → Bool) (f : A → B) (xs : List A)
    → position_or_len p (map f xs) ≡ position_or_len (λ x. p (f x)) xs
position-or-len-map p f [] = refl
position-or-len-map p f (x ∷ xs) = ap (λ (n : ℕ). cond (not (p (f x))) (1 + n) 0) (position-or-len-map p f xs)

pub position_map : {A B : Type 0} (p : B → Bool) (f : A → B) (xs : List A)
    → position p (map f xs) ≡ position (λ x. p (f x)) xs
position_map p f xs = rw (position-or-len-map p f xs, length-map) refl

by-first : (b : Bool) (n m : ℕ)
    → cond (ltb (cond (not b) (1 + n) 0) (suc m)) (Some (cond (not b) (1 + n) 0)) None
    ≡ (if b then Some 0 else option_map (λ k. 1 + k) (cond (ltb n m) (Some n) None))
by-first true n m = ap (λ (below : Bool). cond below (Some 0) None) (lt-ltb 0 (suc m) (omega arith))
by-first false n m = elim (cases_Bool (ltb n m)) [
  | inl below ↦
      ap (λ (is : Bool). cond is (Some (1 + n)) None) (lt-ltb (1 + n) (suc m) (omega (arith, ltb-true n m below)))
      ∙ ap (λ (is : Bool). option_map (λ k. 1 + k) (cond is (Some n) None)) (sym below)
  | inr past ↦
      ap (λ (is : Bool). cond is (Some (1 + n)) None) (le-ltb (1 + n) (suc m) (omega (arith, ltb-false n m past)))
      ∙ ap (λ (is : Bool). option_map (λ k. 1 + k) (cond is (Some n) None)) (sym past)
]

pub position-first : {A : Type 0} (p : A → Bool) (x : A) (xs : List A)
    → position p (x ∷ xs) ≡ (if p x then Some 0 else option_map (λ k. 1 + k) (position p xs))
position-first p x xs = by-first (p x) (position_or_len p xs) (length xs)

-- where only one passes, it is found at its place
pub position_only : {A : Type 0} (p : A → Bool) (xs : List A) (k : ℕ) (x : A) → slice_get xs k ≡ Some x → p x ≡ true
    → ((j : ℕ) (y : A) → slice_get xs j ≡ Some y → p y ≡ true → j ≡ k) → position p xs ≡ Some k
position_only p [] k x is passes only = absurd (cc)
position_only p (y ∷ ys) zero x is passes only =
    let same : y ≡ x = cc in
    position-first p y ys
    ∙ ap (λ (b : Bool). if b then Some 0 else option_map (λ k. 1 + k) (position p ys)) (ap p same ∙ passes)
position_only p (y ∷ ys) (suc k) x is passes only =
    let fails : p y ≡ false =
    false_from_ne_true (p y) (λ does. let zero-there = only 0 y refl does in absurd (omega (arith, zero-there))) in
    position-first p y ys
    ∙ ap (λ (b : Bool). if b then Some 0 else option_map (λ k. 1 + k) (position p ys)) fails
    ∙ ap (option_map (λ k. 1 + k))
    (position_only p ys k x is passes (λ j z at does. omega (arith, only (suc j) z at does)))
    ∙ ap Some (omega arith)

-- each is found by its name at its place, where names differ
pub position_named : {A : Type 0} (name : A → List ℕ) (xs : List A)
    → AllPairs (λ one other. name one ≢ name other) xs → (k : ℕ) (x : A) → slice_get xs k ≡ Some x
    → position (λ y. bytes_eq (name y) (name x)) xs ≡ Some k
position_named {A} name xs apart k x is =
    let Apart : A → A → Type 0 = λ one other. name one ≢ name other in
    position_only (λ y. bytes_eq (name y) (name x)) xs k x is (own_name (name x))
    (λ j y at same.
    let equal : name y ≡ name x = same_name (name y) (name x) same in
    one_place Apart xs apart j k y x at is (λ differ. differ equal) (λ differ. differ (sym equal)))

-- ---- pairs of a list that is made of another

pub pairs_map : {A B : Type 0} (R : B → B → Type 0) (f : A → B) (xs : List A)
    → AllPairs (λ one other. R (f one) (f other)) xs → AllPairs R (map f xs)
pairs_map R f [] pairs = λ i j d before below. absurd (omega (arith, below))
pairs_map {A} R f (x ∷ xs) pairs =
    let On : A → A → Type 0 = λ one other. R (f one) (f other) in
    AllPairs-cons R (f x) (map f xs) (All-map (R (f x)) f xs (pairs-head On x xs pairs))
    (pairs_map R f xs (pairs-tail On x xs pairs))

pub all_unmap : {A B : Type 0} (P : B → Type 0) (f : A → B) (xs : List A) → All P (map f xs) → All (λ x. P (f x)) xs
all_unmap {A} P f [] all = All-nil (λ (x : A). P (f x))
all_unmap {A} P f (x ∷ xs) all =
    All-cons (λ (x : A). P (f x)) x xs (All-head P (f x) (map f xs) all)
    (all_unmap P f xs (All-tail P (f x) (map f xs) all))

pub pairs_unmap : {A B : Type 0} (R : B → B → Type 0) (f : A → B) (xs : List A) → AllPairs R (map f xs)
    → AllPairs (λ one other. R (f one) (f other)) xs
pairs_unmap R f [] pairs = λ i j d before below. absurd (omega (arith, below))
pairs_unmap {A} R f (x ∷ xs) pairs =
    AllPairs-cons (λ (one other : A). R (f one) (f other)) x xs
    (all_unmap (R (f x)) f xs (pairs-head R (f x) (map f xs) pairs))
    (pairs_unmap R f xs (pairs-tail R (f x) (map f xs) pairs))
