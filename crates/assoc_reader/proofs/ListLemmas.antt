-- Lists of which the last member is one more.
use Rattle.std.proofs.Common.{ℕ, zero, suc, ◌≡◌, ◌+◌, ◌<◌, ◌≤◌, Bool, true, false, not, cond, ◌||◌, if◌then◌else◌, ltb, eqb, List, [], ◌∷◌, ◌++◌, length, map, get_or, Option, Some, None, refl, ap, ◌∙◌, arith}
use Rattle.std.specs.List.{list_any, position, position_or_len, slice_get}
use Rattle.std.proofs.lemmas.Bool.Decides.{nat_tests}
use Rattle.std.proofs.lemmas.List.{length_push}
use Rattle.std.proofs.lemmas.List.Folds.{list_any-append, list_any_at, position_or_len_push}
use Rattle.std.proofs.lemmas.List.Sums.{prefix_len-le-length}

pub slice_get-before : {X : Type 0} (xs : List X) (y : X) (i : ℕ) → i < length xs → slice_get (xs ++ y ∷ []) i ≡ slice_get xs i
slice_get-before [] y i inside = absurd (omega arith)
slice_get-before (x ∷ xs) y zero inside = refl
slice_get-before (x ∷ xs) y (suc i) inside = slice_get-before xs y i (omega arith)

pub slice_get-last : {X : Type 0} (xs : List X) (y : X) (i : ℕ) → i ≡ length xs → slice_get (xs ++ y ∷ []) i ≡ Some y
slice_get-last [] y zero last = refl
slice_get-last [] y (suc i) last = absurd (omega arith)
slice_get-last (x ∷ xs) y zero last = absurd (omega arith)
slice_get-last (x ∷ xs) y (suc i) last = slice_get-last xs y i (omega arith)

pub slice_get-behind : {X : Type 0} (xs : List X) (y : X) (i : ℕ) → length xs < i → slice_get (xs ++ y ∷ []) i ≡ None
slice_get-behind [] y zero behind = absurd (omega arith)
slice_get-behind [] y (suc i) behind = refl
slice_get-behind (x ∷ xs) y zero behind = absurd (omega arith)
slice_get-behind (x ∷ xs) y (suc i) behind = slice_get-behind xs y i (omega arith)

-- the place of the first member that passes, where no other does if the last one does
pub position-push : {X : Type 0} (p : X → Bool) (xs : List X) (y : X) → (p y ≡ true → position p xs ≡ None) → position p (xs ++ y ∷ []) ≡ (if p y then Some (length xs) else position p xs)
position-push p xs y alone =
    rw (position_or_len_push p xs y, length_push xs y) (at (p y) (position_or_len p xs) (length xs) (prefix_len-le-length (λ x. not (p x)) xs) alone) where
      at : (b : Bool) (n m : ℕ) → n ≤ m → (b ≡ true → cond (ltb n m) (Some n) None ≡ None)
          → cond (ltb (cond (eqb n m) (m + cond b 0 1) n) (m + 1)) (Some (cond (eqb n m) (m + cond b 0 1) n)) None ≡ cond b (Some m) (cond (ltb n m) (Some n) None)
      at true n m within alone = grind (arith, nat_tests, alone refl)
      at false n m within alone = grind (arith, nat_tests)

pub list_any-push : {X : Type 0} (p : X → Bool) (xs : List X) (y : X) → list_any p (xs ++ y ∷ []) ≡ (list_any p xs || p y)
list_any-push p xs y = list_any-append p xs (y ∷ []) ∙ ap (λ (b : Bool). list_any p xs || b) (or-false (p y)) where
  or-false : (b : Bool) → (b || false) ≡ b
  or-false true = refl
  or-false false = refl

pub list_any-of : {X Y : Type 0} (p : Y → Bool) (f : X → Y) (xs : List X) → list_any p (map f xs) ≡ list_any (λ x. p (f x)) xs
list_any-of p f [] = refl
list_any-of p f (x ∷ xs) = ap (λ (b : Bool). p (f x) || b) (list_any-of p f xs)

-- a member fails a test that no member passes
pub fails-at : {X : Type 0} (p : X → Bool) (xs : List X) (k : ℕ) (d : X) → list_any p xs ≡ false → k < length xs → p (get_or xs k d) ≡ false
fails-at p xs k d none within = by_test (p (get_or xs k d)) refl where
  by_test : (t : Bool) → p (get_or xs k d) ≡ t → t ≡ false
  by_test true e = let some : list_any p xs ≡ true = list_any_at p xs k d within e in cc
  by_test false e = refl

-- no member passes a test that has no place
pub none-passes : {X : Type 0} (p : X → Bool) (xs : List X) → position p xs ≡ None → list_any p xs ≡ false
none-passes p [] none = refl
none-passes p (x ∷ xs) none = by_first (p x) refl (none-passes p xs) where
  never : (m : ℕ) → cond {A = Option ℕ} (ltb 0 (suc m)) (Some 0) None ≡ None → ⊥
  never m h = grind (arith, nat_tests)

  more : (n m : ℕ) → cond {A = Option ℕ} (ltb (1 + n) (suc m)) (Some (1 + n)) None ≡ None → cond {A = Option ℕ} (ltb n m) (Some n) None ≡ None
  more n m h = grind (arith, nat_tests)

  by_first : (t : Bool) → p x ≡ t → (position p xs ≡ None → list_any p xs ≡ false) → (t || list_any p xs) ≡ false
  by_first true e rest = absurd (never (length xs) (rw e at none))
  by_first false e rest = rest (more (position_or_len p xs) (length xs) (rw e at none))
