-- The first that passes a test, behind some that don't; and what stands there.
use Rattle.std.proofs.Common.{◌≡◌, ℕ, zero, suc, ◌+◌, ◌≤◌, Bool, true, false, cond, ltb, List, [], ◌∷◌, length, take, drop, All, Option, Some, None, refl, ap, ◌∙◌, arith}
use Rattle.std.specs.Prelude.{find, option_map, option_and_then, slice_get}
use Rattle.std.specs.List.{position, position_or_len}
use Rattle.std.proofs.lemmas.Bool.{ltb-false}
use Rattle.std.proofs.lemmas.Bool.Decides.{nat_tests}
use Rattle.std.proofs.lemmas.List.{drop_all, take_all}
use Rattle.std.proofs.lemmas.List.Elements.{All-head, All-tail}
use Rattle.std.proofs.lemmas.List.Folds.{find_at}
use Rattle.std.proofs.lemmas.Option.{slice_get_past}

-- what is found stands at the first place
pub find-by-position : {X : Type 0} (p : X → Bool) (xs : List X)
    → find p xs ≡ option_and_then (slice_get xs) (position p xs)
find-by-position p xs = find_at p xs ∙ at (ltb (position_or_len p xs) (length xs)) refl where
  at : (b : Bool) → ltb (position_or_len p xs) (length xs) ≡ b
      → slice_get xs (position_or_len p xs)
      ≡ option_and_then (slice_get xs) (cond (ltb (position_or_len p xs) (length xs)) (Some (position_or_len p xs)) None)
  at true below = rw below refl
  at false past = rw past (slice_get_past xs (position_or_len p xs) (ltb-false (position_or_len p xs) (length xs) past))

-- behind one that fails
up : (n m : ℕ) (b : Bool) → ltb n m ≡ b → ltb (1 + n) (suc m) ≡ b
up n m true is = grind (arith, nat_tests, is)
up n m false is = grind (arith, nat_tests, is)

one-up : (n m : ℕ) (b : Bool) → ltb n m ≡ b
    → cond (ltb (1 + n) (suc m)) (Some (1 + n)) None ≡ option_map (λ k. 1 + k) (cond (ltb n m) (Some n) None)
one-up n m true is = rw (is, up n m true is) refl
one-up n m false is = rw (is, up n m false is) refl

one-on : {X : Type 0} (p : X → Bool) (x : X) (xs : List X) → p x ≡ false
    → position p (x ∷ xs) ≡ option_map (λ k. 1 + k) (position p xs)
one-on p x xs fails = rw fails (one-up (position_or_len p xs) (length xs) (ltb (position_or_len p xs) (length xs)) refl)

none-on : (o : Option ℕ) → o ≡ option_map (λ k. 0 + k) o
none-on None = refl
none-on (Some k) = ap Some (same k) where
  same : (k : ℕ) → k ≡ 0 + k
  same k = omega arith

more-on : (n : ℕ) (o : Option ℕ) → option_map (λ k. 1 + k) (option_map (λ k. n + k) o) ≡ option_map (λ k. suc n + k) o
more-on n None = refl
more-on n (Some k) = ap Some (same n k) where
  same : (n k : ℕ) → 1 + (n + k) ≡ suc n + k
  same n k = omega arith

-- behind some that fail
pub position-past : {X : Type 0} (p : X → Bool) (n : ℕ) (xs : List X) → n ≤ length xs
    → All (λ x. p x ≡ false) (take n xs) → position p xs ≡ option_map (λ k. n + k) (position p (drop n xs))
position-past p zero xs within none = none-on (position p xs)
position-past p (suc n) [] within none = absurd (omega (arith, within))
position-past p (suc n) (x ∷ xs) within none =
    one-on p x xs (All-head (λ x. p x ≡ false) x (take n xs) none)
    ∙ ap (option_map (λ k. 1 + k)) (position-past p n xs (omega (arith, within)) (All-tail (λ x. p x ≡ false) x (take n xs) none))
    ∙ more-on n (position p (drop n xs))

-- where none passes, none is found
pub none-found-at : {X : Type 0} (p : X → Bool) (xs : List X) → All (λ x. p x ≡ false) xs → position p xs ≡ None
none-found-at p xs none =
    position-past p (length xs) xs (omega arith) (rw (take_all (length xs) xs (omega arith)) none)
    ∙ ap (λ rest. option_map (λ k. length xs + k) (position p rest)) (drop_all (length xs) xs (omega arith))
