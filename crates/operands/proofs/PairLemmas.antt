-- What the word at a place says, before those behind it.
use Rattle.std.proofs.Common.{ℕ, ◌≡◌, ◌+◌, ◌<◌, List, ◌∷◌, length, get_or, drop, Some, Ok, Err, ap, ◌∙◌, add-one, slice_get, refl}
use Rattle.std.proofs.Math.Seq.{drop-cons}
use Rattle.std.proofs.lemmas.Option.{slice_get_within, get_or_from_slice_get}
use Rattle.operands.specs.BadWord.{bad, at_word}
use Rattle.operands.specs.Pairs.{Adding, pair_of, pair_added, pairs_say}
use Rattle.text_values.specs.declared.word_refusal.WordKind.{WordKind}
use Rattle.text_values.specs.Steps.{◌>>=◌}

-- the word at a place and what follows it
pub drop_at : (words : List (List ℕ)) (place : ℕ) (word : List ℕ)
    → slice_get words place ≡ Some word → drop place words ≡ word ∷ drop (place + 1) words
drop_at words place word at =
    let within : place < length words = slice_get_within words place word at in
    let cut : drop place words ≡ get_or words place word ∷ drop (place + 1) words =
    rw add-one (drop-cons words place word within) in
    let here : get_or words place word ≡ word = get_or_from_slice_get words place word word at in
    cut ∙ ap (λ (w : List ℕ). w ∷ drop (place + 1) words) here

pub pairs_more : {S : Type 0} (add : Adding S) (said more : S) (words : List (List ℕ)) (place : ℕ) (word : List ℕ)
    → slice_get words place ≡ Some word → pair_added add said (pair_of word) ≡ Ok more
    → pairs_say add (place + 1) said (drop place words) ≡ pairs_say add (place + 1 + 1) more (drop (place + 1) words)
pairs_more add said more words place word at added =
    ap (pairs_say add (place + 1) said) (drop_at words place word at)
    ∙ ap (λ one. at_word (place + 1) one >>= λ next. pairs_say add (place + 1 + 1) next (drop (place + 1) words)) added

pub pairs_bad : {S : Type 0} (add : Adding S) (said : S) (words : List (List ℕ)) (place : ℕ) (word : List ℕ)
    (kind : WordKind) → slice_get words place ≡ Some word → pair_added add said (pair_of word) ≡ Err kind
    → pairs_say add (place + 1) said (drop place words) ≡ bad (place + 1) kind
pairs_bad add said words place word kind at added =
    ap (pairs_say add (place + 1) said) (drop_at words place word at)
    ∙ ap (λ one. at_word (place + 1) one >>= λ next. pairs_say add (place + 1 + 1) next (drop (place + 1) words)) added
