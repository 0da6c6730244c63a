-- Words found by a label, as they are kept and as their bytes.
use Rattle.std.proofs.Common.{◌≡◌, ℕ, Bool, true, false, List, [], ◌∷◌, map, Some, if◌then◌else◌, refl, ap, sym, ◌∙◌}
use Rattle.std.specs.Prelude.{find, nat_eq, Option, option_map, String, string_bytes}
use Rattle.std.specs.List.{starts_with}
use Rattle.std.specs.declared.alloc.Global.{Global}
use Rattle.slurmd_link.specs.Asked.{word_of}

-- in a list of changed elements, the change of what is found by its change
find-map : {A B : Type 0} (p : B → Bool) (f : A → B) (xs : List A) → find p (map f xs) ≡ option_map f (find (λ x. p (f x)) xs)
find-map p f [] = refl
find-map p f (x ∷ xs) =
    elim (p (f x)) as (λ b. (if b then Some (f x) else find p (map f xs)) ≡ option_map f (if b then Some x else find (λ y. p (f y)) xs)) [
      | true ↦ refl
      | false ↦ find-map p f xs
    ]

pub word_found : (words : List (String Global)) (label : List ℕ) (found : Option (String Global))
    → found ≡ find (λ word. starts_with nat_eq (string_bytes word) label) words
    → word_of label (map string_bytes words) ≡ option_map string_bytes found
word_found words label found is =
    find-map (λ text. starts_with nat_eq text label) string_bytes words ∙ ap (option_map string_bytes) (sym is)
