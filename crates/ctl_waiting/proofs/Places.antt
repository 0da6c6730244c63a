-- The first place at which a test passes, in a list that one more stands behind.
use Rattle.std.proofs.Common.{◌≡◌, ℕ, suc, ◌+◌, Bool, true, false, cond, ltb, not, List, [], ◌∷◌, ◌++◌, length, inl, inr, Option, None, Some, refl, sym, ap, ◌∙◌, arith}
use Rattle.std.specs.Prelude.{All, position, option_map}
use Rattle.std.specs.List.{position_or_len}
use Rattle.std.proofs.lemmas.Bool.{cases_lt, lt-ltb, le-ltb}
use Rattle.std.proofs.lemmas.List.Elements.{All-head, All-tail}

position-cons : (p : ℕ → Bool) (x : ℕ) (xs : List ℕ)
    → position p (x ∷ xs) ≡ cond (p x) (Some 0) (option_map suc (position p xs))
position-cons p x xs = by_test (p x)
  where
    by_test : (b : Bool) → cond (ltb (cond (not b) (1 + position_or_len p xs) 0) (suc (length xs))) (Some (cond (not b) (1 + position_or_len p xs) 0)) None
        ≡ cond b (Some 0) (option_map suc (cond (ltb (position_or_len p xs) (length xs)) (Some (position_or_len p xs)) None))
    by_test true = rw (lt-ltb 0 (suc (length xs)) (omega arith)) refl
    by_test false = elim (cases_lt (position_or_len p xs) (length xs)) [
      | inl low ↦
          rw (lt-ltb (1 + position_or_len p xs) (suc (length xs)) (omega (arith, low)), lt-ltb (position_or_len p xs) (length xs) low)
          (ap Some (omega arith))
      | inr high ↦
          rw (le-ltb (1 + position_or_len p xs) (suc (length xs)) (omega (arith, high)), le-ltb (position_or_len p xs) (length xs) high) refl
    ]

pub position-none : (p : ℕ → Bool) (xs : List ℕ) → All (λ x. p x ≡ false) xs → position p xs ≡ None
position-none p [] all = refl
position-none p (x ∷ xs) all =
    let first : p x ≡ false = All-head (λ y. p y ≡ false) x xs all in
    let rest = position-none p xs (All-tail (λ y. p y ≡ false) x xs all) in
    position-cons p x xs ∙ rw (first, rest) refl

pub position-push_other : (p : ℕ → Bool) (xs : List ℕ) (y : ℕ) → p y ≡ false
    → position p (xs ++ y ∷ []) ≡ position p xs
position-push_other p [] y fails = position-cons p y [] ∙ rw fails refl
position-push_other p (x ∷ xs) y fails =
    position-cons p x (xs ++ y ∷ [])
    ∙ ap (λ (r : Option ℕ). cond (p x) (Some 0) (option_map suc r)) (position-push_other p xs y fails)
    ∙ sym (position-cons p x xs)

pub position-push_new : (p : ℕ → Bool) (xs : List ℕ) (y : ℕ) → All (λ x. p x ≡ false) xs → p y ≡ true
    → position p (xs ++ y ∷ []) ≡ Some (length xs)
position-push_new p [] y all passes = position-cons p y [] ∙ rw passes refl
position-push_new p (x ∷ xs) y all passes =
    let first : p x ≡ false = All-head (λ z. p z ≡ false) x xs all in
    let rest = position-push_new p xs y (All-tail (λ z. p z ≡ false) x xs all) passes in
    position-cons p x (xs ++ y ∷ []) ∙ rw (first, rest) refl
