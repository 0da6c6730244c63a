-- An item by its word and what follows the colon, and a single item.
use Rattle.std.proofs.Common.{ℕ, ◌≡◌, ◌<◌, ◌≤◌, ◌==◌, ◌||◌, Bool, true, false, if◌then◌else◌, List, [], ◌∷◌, length, map, Some, refl, arith}
use Rattle.std.specs.List.{list_any, filter}
use Rattle.std.proofs.lemmas.Bool.{false_from_ne_true, false≢true}
use Rattle.std.proofs.lemmas.List.{length-map}
use Rattle.std.proofs.lemmas.List.Splits.{length-slice_split}
use Rattle.std.proofs.lemmas.List.Sums.{length-filter}
use Rattle.small_texts.specs.Fields.{fields}
use Rattle.plain_data.specs.declared.dependency.DepItem.{DepItem}
use Rattle.sbatch_reader.specs.Dependency.{item_of, item_naming, item_in, is_any, items_in}
use Rattle.text_values.specs.Lists.{parts_in}
use Rattle.sbatch_reader.proofs.PartLemmas.{length-all_some}

with_some : (word : List ℕ) (ids : List (List ℕ)) → 0 < length ids → item_of (word ∷ ids) ≡ item_naming word ids
unfolding item_of
with_some word [] some = absurd (omega arith)
with_some word (id ∷ ids) some = refl

pub item_of-named : (word text : List ℕ) → item_of (word ∷ fields 58 text) ≡ item_naming word (fields 58 text)
item_of-named word text = with_some word (fields 58 text) (omega (arith, length-slice_split (λ b. b == 58) text))

pub ruleset item_steps = (item_of-named)

one_passes : {X : Type 0} (p : X → Bool) (x : X) (xs : List X) (b : Bool) → (list_any p xs ≡ true → 1 ≤ length (filter p xs)) → (b || list_any p xs) ≡ true → 1 ≤ length (if b then x ∷ filter p xs else filter p xs)
one_passes p x xs true others some = omega arith
one_passes p x xs false others some = others some

some_pass : {X : Type 0} (p : X → Bool) (xs : List X) → list_any p xs ≡ true → 1 ≤ length (filter p xs)
some_pass p [] some = absurd (false≢true some)
some_pass p (x ∷ xs) some = one_passes p x xs (p x) (some_pass p xs) some

-- where items are joined by question marks, they are two or more
pub one_is_needed : (text : List ℕ) (items : List DepItem) → items_in text ≡ Some items → length items ≡ 1 → is_any text ≡ false
one_is_needed text items read one =
    false_from_ne_true (is_any text) (λ (any : is_any text ≡ true).
    let joined : parts_in item_in 63 text ≡ Some items = rw any at read in
    absurd (omega (arith, length-all_some (map item_in (fields 63 text)) items joined, length-map (fields 63 text) item_in, length-slice_split (λ b. b == 63) text, length-filter (λ b. b == 63) text, some_pass (λ b. b == 63) text any)))
