-- The form that the word at a place tells, before those behind it.
use Rattle.std.proofs.Common.{ℕ, ◌≡◌, ◌+◌, ◌<◌, List, ◌∷◌, length, get_or, drop, Some, None, ap, ◌∙◌, add-one, slice_get}
use Rattle.std.proofs.Math.Seq.{drop-cons}
use Rattle.std.proofs.lemmas.Option.{slice_get_within, get_or_from_slice_get}
use Rattle.std.specs.Option.{option_or}
use Rattle.operands.specs.Pairs.{pair_of}
use Rattle.scontrol_words.specs.Updating.{form_in, form_of_pair}
use Rattle.scontrol_words.specs.declared.updating.Form.{Form}

pub form_at : (words : List (List ℕ)) (place : ℕ) (word : List ℕ) → slice_get words place ≡ Some word
    → form_in (drop place words) ≡ option_or (form_of_pair (pair_of word)) (form_in (drop (place + 1) words))
form_at words place word at =
    let within : place < length words = slice_get_within words place word at in
    let cut : drop place words ≡ get_or words place word ∷ drop (place + 1) words =
    rw add-one (drop-cons words place word within) in
    let here : get_or words place word ≡ word = get_or_from_slice_get words place word word at in
    ap form_in (cut ∙ ap (λ (w : List ℕ). w ∷ drop (place + 1) words) here)

pub form_found : (words : List (List ℕ)) (place : ℕ) (word : List ℕ) (form : Form)
    → slice_get words place ≡ Some word → form_of_pair (pair_of word) ≡ Some form
    → form_in (drop place words) ≡ Some form
form_found words place word form at found =
    form_at words place word at ∙ ap (λ one. option_or one (form_in (drop (place + 1) words))) found

pub form_passed : (words : List (List ℕ)) (place : ℕ) (word : List ℕ)
    → slice_get words place ≡ Some word → form_of_pair (pair_of word) ≡ None
    → form_in (drop place words) ≡ form_in (drop (place + 1) words)
form_passed words place word at none =
    form_at words place word at ∙ ap (λ one. option_or one (form_in (drop (place + 1) words))) none
