-- Words of a line, from a place on.
use Rattle.std.proofs.Common.{◌≡◌, ◌&&◌, ℕ, zero, suc, ◌+◌, ◌-◌, ◌<◌, ◌≤◌, Bool, true, false, List, [], ◌∷◌, ◌++◌, length, take, drop, Option, Some, None, get_or, refl, sym, ap, ◌∙◌, arith}
use Rattle.std.specs.Prelude.{slice_get}
use Rattle.std.specs.List.{list_all}
use Rattle.std.proofs.lemmas.List.{take_more, get_or-drop, length-drop}
use Rattle.std.proofs.lemmas.Option.{get_or_from_slice_get, slice_get-get_or}
use Rattle.line_words.specs.Words.{are_words, is_word_byte}

first : (a b : Bool) → a && b ≡ true → a ≡ true
first true b e = refl
first false b e = absurd (cc)

rest : (a b : Bool) → a && b ≡ true → b ≡ true
rest true b e = e
rest false b e = absurd (cc)

good_at : (words : List (List ℕ)) (k : ℕ) → are_words words ≡ true → k < length words
    → list_all is_word_byte (get_or words k []) ≡ true
good_at [] k all within = absurd (omega arith)
good_at (word ∷ words) zero all within = first _ _ all
good_at (word ∷ words) (suc k) all within = good_at words k (rest _ _ all) (omega arith)

-- a word among good ones is good
pub good_word : (words : List (List ℕ)) (k : ℕ) (word : List ℕ) → are_words words ≡ true → k < length words
    → Some word ≡ slice_get words k → list_all is_word_byte word ≡ true
good_word words k word all within found =
    let is : get_or words k [] ≡ word = get_or_from_slice_get words k word [] (sym found) in
    ap (list_all is_word_byte) (sym is) ∙ good_at words k all within

-- one word more
pub one_more : (words : List (List ℕ)) (skipped place : ℕ) (word : List ℕ) → skipped ≤ place → place < length words
    → slice_get words place ≡ Some word
    → take (place + 1 - skipped) (drop skipped words) ≡ take (place - skipped) (drop skipped words) ++ word ∷ []
one_more words skipped place word low within found =
    let e : place + 1 - skipped ≡ (place - skipped) + 1 = omega arith in
    let at : skipped + (place - skipped) ≡ place = omega arith in
    let few : place - skipped < length (drop skipped words) = simp length-drop (omega arith) in
    let read : get_or (drop skipped words) (place - skipped) [] ≡ word =
    get_or-drop skipped words (place - skipped) []
    ∙ ap (λ i. get_or words i []) at ∙ get_or_from_slice_get words place word [] found in
    ap (λ n. take n (drop skipped words)) e ∙ take_more (drop skipped words) (place - skipped) [] few
    ∙ ap (λ w. take (place - skipped) (drop skipped words) ++ w ∷ []) read

-- no word is lacking at a place within
pub never_none : (words : List (List ℕ)) (k : ℕ) → k < length words → None ≡ slice_get words k → ⊥
never_none words k within none = let some : slice_get words k ≡ Some (get_or words k []) = slice_get-get_or words k [] within in cc
