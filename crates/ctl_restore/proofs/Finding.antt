-- The first that passes a test, with one more behind the others.
use Rattle.std.proofs.Common.{◌≡◌, ℕ, suc, ◌+◌, ◌<◌, ◌≤◌, Bool, true, false, cond, if◌then◌else◌, not, ltb, eqb, ◌&&◌, List, [], ◌∷◌, ◌++◌, length, take, get_or, bytes_eq, All, AllPairs, Option, Some, None, refl, sym, ap, ◌∙◌, arith, inl, inr}
use Rattle.std.specs.Prelude.{is_some}
use Rattle.std.specs.List.{position, position_or_len}
use Rattle.std.specs.Option.{option_or}
use Rattle.std.proofs.lemmas.Bool.Decides.{nat_tests}
use Rattle.std.proofs.lemmas.Bool.{cases_Bool}
use Rattle.std.proofs.lemmas.Slice.Eq.{bytes_eq-Decides}
use Rattle.std.proofs.lemmas.List.{length_push, length-take-le, take_more}
use Rattle.std.proofs.lemmas.List.Folds.{position_or_len_push}
use Rattle.std.proofs.lemmas.List.Kept.{AllPairs-cons}
use Rattle.std.proofs.lemmas.List.Elements.{All-cons}
use Rattle.std.proofs.lemmas.List.Sums.{prefix_len-le-length, fails_before_first}
use Rattle.list_lemmas.proofs.Pairs.{pairs-head}

-- the first that passes, with one more behind the others
position-more : {X : Type 0} (p : X → Bool) (xs : List X) (y : X) (count : ℕ) → length xs ≡ count
    → position p (xs ++ y ∷ []) ≡ option_or (position p xs) (if p y then Some count else None)
position-more p xs y count is =
    rw (← is, position_or_len_push p xs y, length_push xs y) (at (p y) (position_or_len p xs) (length xs)
    (prefix_len-le-length (λ x. not (p x)) xs)) where
      at : (b : Bool) (n m : ℕ) → n ≤ m
          → cond (ltb (cond (eqb n m) (m + cond b 0 1) n) (m + 1)) (Some (cond (eqb n m) (m + cond b 0 1) n)) None
          ≡ option_or (cond (ltb n m) (Some n) None) (cond b (Some m) None)
      at true n m within = grind (arith, nat_tests)
      at false n m within = grind (arith, nat_tests)

pub position-at : {X : Type 0} (p : X → Bool) (xs : List X) (place : ℕ) (x : X) → place < length xs
    → x ≡ get_or xs place x
    → position p (take (place + 1) xs) ≡ option_or (position p (take place xs)) (if p x then Some place else None)
position-at p xs place x inside is =
    ap (position p) (take_more xs place x inside ∙ ap (λ last. take place xs ++ last ∷ []) (sym is))
    ∙ position-more p (take place xs) x place (length-take-le place xs (omega (arith, inside)))

-- an element is put at its name, which none has before
pub first-more : {X : Type 0} (counts : X → Bool) (name_of : X → List ℕ) (xs : List X) (place : ℕ) (x : X)
    (name key : List ℕ) (was now : Option ℕ)
    → place < length xs → x ≡ get_or xs place x → counts x ≡ true → key ≡ name_of x
    → position (λ y. counts y && bytes_eq (name_of y) (name_of x)) (take place xs) ≡ None
    → was ≡ position (λ y. counts y && bytes_eq (name_of y) name) (take place xs)
    → now ≡ (if bytes_eq key name then Some place else was)
    → now ≡ position (λ y. counts y && bytes_eq (name_of y) name) (take (place + 1) xs)
first-more counts name_of xs place x name key was now inside is does same none before after =
    after ∙ ap (λ key. if bytes_eq key name then Some place else was) same
    ∙ at (bytes_eq (name_of x) name) refl
    ∙ sym (position-at (λ y. counts y && bytes_eq (name_of y) name) xs place x inside is
    ∙ ap (λ b. option_or (position (λ y. counts y && bytes_eq (name_of y) name) (take place xs)) (if b && bytes_eq (name_of x) name then Some place else None)) does)
  where
    at : (b : Bool) → bytes_eq (name_of x) name ≡ b
        → (if b then Some place else was)
        ≡ option_or (position (λ y. counts y && bytes_eq (name_of y) name) (take place xs)) (if b then Some place else None)
    at true has =
        sym (ap (λ found. option_or found (Some place))
        (ap (λ name. position (λ y. counts y && bytes_eq (name_of y) name) (take place xs)) (sym ((bytes_eq-Decides _ _).0 has)) ∙ none))
    at false has = before ∙ last (position (λ y. counts y && bytes_eq (name_of y) name) (take place xs)) where
      last : (o : Option ℕ) → o ≡ option_or o None
      last None = refl
      last (Some n) = refl

-- an element that counts for none of the names, or whose name one has before, changes nothing
pub first-same : {X : Type 0} (p : X → Bool) (xs : List X) (place : ℕ) (x : X)
    → place < length xs → x ≡ get_or xs place x
    → (p x ≡ true → is_some (position p (take place xs)) ≡ true)
    → position p (take place xs) ≡ position p (take (place + 1) xs)
first-same p xs place x inside is has = at (p x) (position p (take place xs)) has ∙ sym (position-at p xs place x inside is)
  where
    at : (b : Bool) (o : Option ℕ) → (b ≡ true → is_some o ≡ true) → o ≡ option_or o (if b then Some place else None)
    at true None has = absurd (let no = has refl in cc)
    at true (Some n) has = refl
    at false None has = refl
    at false (Some n) has = refl

-- where none is found, none passes
pub none-passes : {X : Type 0} (p : X → Bool) (xs : List X) → position p xs ≡ None → All (λ x. p x ≡ false) xs
none-passes p xs none k d inside = fails_before_first p xs k d (at (position_or_len p xs) (length xs) none inside) where
  at : (n m : ℕ) → cond (ltb n m) (Some n) None ≡ None → k < m → k < n
  at n m none inside = elim (cases_Bool (ltb n m)) as (λ _. k < n) [
    | inl below ↦ absurd (let no = rw below at none in cc)
    | inr past ↦ grind (arith, nat_tests)
  ]

one-more : (k : ℕ) → suc k + 1 ≡ suc (k + 1)
one-more k = omega arith

-- numbers each of which is above the one before rise
pub rises : {X : Type 0} (number : X → ℕ) (xs : List X)
    → ((k : ℕ) (d : X) → k + 1 < length xs → number (get_or xs k d) < number (get_or xs (k + 1) d))
    → AllPairs (λ one other. number one < number other) xs
rises number [] next = λ i j d before below. absurd (omega (arith, below))
rises number (x ∷ []) next = λ i j d before below. absurd (omega (arith, before, below))
rises {X} number (x ∷ y ∷ ys) next =
    let Below : X → X → Type 0 = λ one other. number one < number other in
    let rest : AllPairs Below (y ∷ ys) =
    rises number (y ∷ ys) (λ k d inside. rw (one-more k) at (next (suc k) d (omega (arith, inside)))) in
    let first : number x < number y = next 0 x (omega arith) in
    let above = pairs-head Below y ys rest in
    AllPairs-cons Below x (y ∷ ys) (All-cons (Below x) y ys first (λ k d inside. omega (arith, first, above k d inside))) rest
