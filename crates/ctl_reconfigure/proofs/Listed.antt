-- Names that are listed, by the places of the list.
use Rattle.std.proofs.Common.{◌≡◌, ℕ, suc, ◌+◌, Bool, true, cond, ltb, List, [], ◌∷◌, length, bytes_eq, Option, Some, None, refl, ap, ◌∙◌, arith, inl, inr}
use Rattle.std.specs.Prelude.{is_some, position}
use Rattle.std.specs.List.{list_any, position_or_len}
use Rattle.std.proofs.lemmas.Bool.{cases_Bool}
use Rattle.std.proofs.lemmas.Bool.Decides.{nat_tests}
use Rattle.node_state.specs.Reservations.{has}

-- what passes stands somewhere
pub position-any : {X : Type 0} (p : X → Bool) (xs : List X) → is_some (position p xs) ≡ list_any p xs
position-any p [] = refl
position-any p (x ∷ xs) = elim (cases_Bool (p x)) [
  | inl here ↦ rw here (first (length xs))
  | inr other ↦ rw other (later (position_or_len p xs) (length xs) ∙ position-any p xs)
]
  where
    first : (m : ℕ) → is_some {T = ℕ} (cond (ltb 0 (suc m)) (Some 0) None) ≡ true
    first m = grind (arith, nat_tests)

    later : (n m : ℕ) → is_some (cond (ltb (1 + n) (suc m)) (Some (1 + n)) None) ≡ is_some (cond (ltb n m) (Some n) None)
    later n m = grind (arith, nat_tests)

pub listed : (names : List (List ℕ)) (name : List ℕ) (found : Option ℕ) → found ≡ position (bytes_eq name) names
    → is_some found ≡ has names name
listed names name found is = ap is_some is ∙ position-any (bytes_eq name) names
