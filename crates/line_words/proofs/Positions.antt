-- No element fails a test exactly where there is no first that does.
use Rattle.std.proofs.Common.{ℕ, suc, ◌≡◌, ◌+◌, ◌≤◌, ◌&&◌, Bool, true, false, not, cond, ltb, map, List, [], ◌∷◌, length, Some, None, refl, ap, arith}
use Rattle.std.specs.List.{list_all, position, position_or_len}
use Rattle.std.proofs.lemmas.List.{length-map}
use Rattle.std.proofs.lemmas.Bool.Decides.{nat_tests}

step : (b rest : Bool) (n m : ℕ) → suc m ≤ cond (not (not b)) (1 + n) 0 → (m ≤ n → rest ≡ true) → (b && rest) ≡ true
step true rest n m h k = k (omega arith)
step false rest n m h k = absurd (omega arith)

full : {X : Type 0} (p : X → Bool) (xs : List X) → length xs ≤ position_or_len (λ x. not (p x)) xs → list_all p xs ≡ true
full p [] h = refl
full p (x ∷ xs) h = step (p x) (list_all p xs) (position_or_len (λ y. not (p y)) xs) (length xs) h (full p xs)

none : (n m : ℕ) → cond (ltb n m) (Some n) None ≡ None → m ≤ n
none n m h = grind (arith, nat_tests)

pub list_all-from_position : {X : Type 0} (p : X → Bool) (xs : List X) → position (λ x. not (p x)) xs ≡ None → list_all p xs ≡ true
list_all-from_position p xs h = full p xs (none (position_or_len (λ x. not (p x)) xs) (length xs) h)

whole-step : (b rest : Bool) (n m : ℕ) → (b && rest) ≡ true → (rest ≡ true → n ≡ m) → cond (not (not b)) (1 + n) 0 ≡ suc m
whole-step true rest n m h k = omega (arith, k h)
whole-step false rest n m h k = cc

whole : {X : Type 0} (p : X → Bool) (xs : List X) → list_all p xs ≡ true → position_or_len (λ x. not (p x)) xs ≡ length xs
whole p [] h = refl
whole p (x ∷ xs) h = whole-step (p x) (list_all p xs) (position_or_len (λ y. not (p y)) xs) (length xs) h (whole p xs)

passed : (n m : ℕ) → n ≡ m → cond (ltb n m) (Some n) None ≡ None
passed n m h = grind (arith, nat_tests)

pub position-from_list_all : {X : Type 0} (p : X → Bool) (xs : List X) → list_all p xs ≡ true → position (λ x. not (p x)) xs ≡ None
position-from_list_all p xs h = passed (position_or_len (λ x. not (p x)) xs) (length xs) (whole p xs h)

position_or_len-map : {X Y : Type 0} (p : Y → Bool) (f : X → Y) (xs : List X) → position_or_len p (map f xs) ≡ position_or_len (λ x. p (f x)) xs
position_or_len-map p f [] = refl
position_or_len-map p f (x ∷ xs) = ap (λ (n : ℕ). cond (not (p (f x))) (1 + n) 0) (position_or_len-map p f xs)

pub position-map : {X Y : Type 0} (p : Y → Bool) (f : X → Y) (xs : List X) → position p (map f xs) ≡ position (λ x. p (f x)) xs
position-map p f xs = rw (position_or_len-map p f xs, length-map) refl
