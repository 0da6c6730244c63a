-- Whether a member of a list is found among those that a test finds.
use Rattle.std.proofs.Common.{◌≡◌, Bool, List, [], ◌∷◌, filter, refl, sym, ap, ◌∙◌, inl, inr}
use Rattle.std.specs.List.{list_any}
use Rattle.std.proofs.lemmas.Bool.{cases_Bool}

any_filter : {X : Type 0} (p : X → Bool) (xs : List X) → list_any p (filter p xs) ≡ list_any p xs
any_filter p [] = refl
any_filter p (x ∷ xs) = elim (cases_Bool (p x)) [
  | inl passes ↦ rw (passes, passes) refl
  | inr fails ↦ rw fails (any_filter p xs)
]

pub any_named : {X : Type 0} (p : X → Bool) (some all : List X) → filter p some ≡ filter p all
    → list_any p some ≡ list_any p all
any_named p some all same = sym (any_filter p some) ∙ ap (list_any p) same ∙ any_filter p all
