-- A name among names, and one more of them.
use Rattle.std.proofs.Common.{ℕ, ◌≡◌, Bool, true, false, ◌||◌, if◌then◌else◌, List, [], ◌∷◌, ◌++◌, refl, ap, sym, ◌∙◌}
use Rattle.std.specs.Str.{bytes_eq}
use Rattle.std.proofs.lemmas.List.Folds.{list_any-append}
use Rattle.std.proofs.lemmas.Bool.Decides.{same_from_decides}
use Rattle.std.proofs.lemmas.Slice.Eq.{bytes_eq-Decides}
use Rattle.host_lists.specs.Hosts.{has}

bytes_eq-sym : (a b : List ℕ) → bytes_eq a b ≡ bytes_eq b a
bytes_eq-sym a b =
    same_from_decides (bytes_eq a b) (bytes_eq b a) (bytes_eq-Decides a b) (λ h. sym ((bytes_eq-Decides b a).0 h), λ h. (bytes_eq-Decides b a).1 (sym h))

has-push : (q : List ℕ) (names : List (List ℕ)) (name : List ℕ) → has q (names ++ name ∷ []) ≡ (has q names || bytes_eq q name)
has-push q names name = list_any-append (bytes_eq q) names (name ∷ []) ∙ ap (λ (t : Bool). has q names || t) (or_false (bytes_eq q name)) where
  or_false : (t : Bool) → (t || false) ≡ t
  or_false true = refl
  or_false false = refl

pub has-insert : (q name : List ℕ) (names : List (List ℕ)) (was now : Bool) → was ≡ has q names → now ≡ (if bytes_eq name q then true else was) → now ≡ has q (names ++ name ∷ [])
has-insert q name names was now h k = k ∙ (rw (h, bytes_eq-sym name q) (swapped (bytes_eq q name) (has q names)) ∙ sym (has-push q names name)) where
  swapped : (a b : Bool) → (if a then true else b) ≡ (b || a)
  swapped true true = refl
  swapped true false = refl
  swapped false true = refl
  swapped false false = refl
