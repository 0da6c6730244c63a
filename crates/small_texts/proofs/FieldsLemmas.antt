-- A text cut at its first separator.
use Rattle.std.proofs.Common.{refl, nat_lt, cond, ◌≤◌, ◌≡◌, ◌==◌, ℕ, ◌+◌, ◌-◌, ◌<◌, List, [], ◌∷◌, length, take, drop, Some, None, position, refl, sym, ap, ◌∙◌, arith, take_all}
use Rattle.std.proofs.lemmas.List.Splits.{slice_split_first, slice_split_none, length-slice_split}
use Rattle.std.proofs.lemmas.List.{length-drop}
use Rattle.std.proofs.lemmas.List.Quantifiers.{position-Some}
use Rattle.std.proofs.lemmas.Bool.{ltb-true}
use Rattle.std.proofs.lemmas.Bool.Decides.{nat_tests}
use Rattle.std.proofs.lemmas.List.Sums.{fails_before_first}
use Rattle.std.proofs.lemmas.Option.{cond_some}
use Rattle.small_texts.specs.Fields.{fields}

-- the first separator stands at this place
pub cut_at : (separator : ℕ) (text : List ℕ) (at : ℕ) → position (λ b. b == separator) text ≡ Some at → fields separator text ≡ take at text ∷ fields separator (take (length text - (at + 1)) (drop (at + 1) text))
cut_at separator text at found =
    let first = cond_some _ _ _ found in
    let inside : at < length text = (position-Some (λ b. b == separator) text at 0 found).0 in
    let rest : take (length text - (at + 1)) (drop (at + 1) text) ≡ drop (at + 1) text =
    take_all _ _ (omega (arith, length-drop (at + 1) text)) in
    slice_split_first (λ b. b == separator) text 0 (ltb-true _ _ first.0)
    ∙ ap (λ n. take n text ∷ fields separator (drop (n + 1) text)) first.1
    ∙ ap (λ r. take at text ∷ fields separator r) (sym rest)

to_the_end : (n m : ℕ) → cond (nat_lt n m) (Some n) None ≡ None → m ≤ n
to_the_end n m e = grind (arith, nat_tests)

-- and nowhere
pub cut_nowhere : (separator : ℕ) (text : List ℕ) → position (λ b. b == separator) text ≡ None → fields separator text ≡ text ∷ []
cut_nowhere separator text none =
    slice_split_none (λ b. b == separator) text
    (λ k d inside. fails_before_first (λ b. b == separator) text k d (omega (arith, to_the_end _ _ none)))

-- a text has a field
has_field : (separator : ℕ) (text : List ℕ) → (field : List ℕ) × (others : List (List ℕ)) × (fields separator text ≡ field ∷ others)
has_field separator text =
    shape (fields separator text) (omega (arith, length-slice_split (λ b. b == separator) text))
  where
    shape : (parts : List (List ℕ)) → 0 < length parts → (field : List ℕ) × (others : List (List ℕ)) × (parts ≡ field ∷ others)
    shape [] some = absurd (omega arith)
    shape (field ∷ others) some = (field, others, refl)

-- behind three separators stands a fourth field
pub fourth_field : (separator : ℕ) (text rest a b c : List ℕ) → fields separator text ≡ a ∷ b ∷ c ∷ fields separator rest → (a b c d : List ℕ) × (others : List (List ℕ)) × (fields separator text ≡ a ∷ b ∷ c ∷ d ∷ others)
fourth_field separator text rest a b c cut =
    let fourth = has_field separator rest in
    (a, b, c, fourth.0, fourth.1, cut ∙ ap (λ parts. a ∷ b ∷ c ∷ parts) fourth.2)
