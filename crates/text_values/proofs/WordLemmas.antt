-- Words read from the left.
use Rattle.std.proofs.Common.{ℕ, ◌≡◌, ◌+◌, ◌<◌, List, [], ◌∷◌, drop, length, get_or, Option, Some, None, MatchOption, ap, sym, ◌∙◌, add-one, Bor}
use Rattle.std.specs.Option.{option_copied}
use Rattle.std.specs.List.{slice_get}
use Rattle.std.proofs.Math.Seq.{drop-cons}
use Rattle.std.proofs.lemmas.Option.{slice_get_within, get_or_from_slice_get, slice_get-get_or}

pub drop-word : (words : List (List ℕ)) (place : ℕ) (word : List ℕ) → slice_get words place ≡ Some word → drop place words ≡ word ∷ drop (place + 1) words
drop-word words place word at =
    let cut : drop place words ≡ get_or words place word ∷ drop (place + 1) words = rw add-one (drop-cons words place word (slice_get_within words place word at)) in
    cut ∙ ap (λ (w : List ℕ). w ∷ drop (place + 1) words) (get_or_from_slice_get words place word word at)

-- the word at a place that there is
pub word_there : (words : List (List ℕ)) (place : ℕ) (found : Option (Bor (List ℕ))) → option_copied found ≡ slice_get words place → place < length words → MatchOption found (drop place words ≡ []) (λ word. drop place words ≡ word.now ∷ drop (place + 1) words)
word_there words place None at within =
    let some : slice_get words place ≡ Some (get_or words place []) = slice_get-get_or words place [] within in
    cc
word_there words place (Some word) at within = drop-word words place word.now (sym at)
