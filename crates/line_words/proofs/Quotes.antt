-- A line that words were written on is split into them.
use Rattle.std.proofs.Common.{ℕ, suc, ◌≡◌, ◌||◌, ◌==◌, if◌then◌else◌, Bool, true, false, None, nat_lt, List, [], ◌∷◌, ◌++◌, length, flat_map, sym, refl, ap, ◌∙◌, subst, eqb-true}
use Rattle.std.specs.List.{list_all}
use Rattle.std.proofs.lemmas.List.{append-nil}
use Rattle.std.proofs.lemmas.List.Folds.{list_all-append}
use Rattle.line_words.specs.Words.{is_word_byte, are_words, is_bare_byte, is_bare, mode_outside, mode_after, opens, may_end, prepend, words_from, words_in, open_from, open_place, first_bad, double_quoted, quoted, quoted_words}
use Rattle.line_words.specs.declared.words.Mode.{Mode}
use Rattle.line_words.specs.declared.words.Mode.TheVariants.{Between, Plain, Double}
use Rattle.line_words.proofs.Positions.{position-from_list_all}
use Rattle.line_words.proofs.WordLemmas.{prepend-prepend, prepend-nil, both-left, both-right}

-- where a line stands behind a text
abbrev end_mode : Mode → List ℕ → Mode
end_mode mode [] = mode
end_mode mode (b ∷ text) = end_mode (mode_after mode b) text

open_from-None : (text : List ℕ) (mode : Mode) (opened place : ℕ) → may_end (end_mode mode text) ≡ true → open_from mode opened place text ≡ None
open_from-None [] mode opened place h = rw h refl
open_from-None (b ∷ text) mode opened place h = open_from-None text (mode_after mode b) (if opens mode b then place else opened) (suc place) h

-- what a byte of a bare word does
bare-not : (b c : ℕ) → is_bare_byte b ≡ true → is_bare_byte c ≡ false → (b == c) ≡ false
bare-not b c h k = by_test (b == c) refl where
  by_test : (t : Bool) → (b == c) ≡ t → t ≡ false
  by_test true e = subst (λ (x : ℕ). is_bare_byte x ≡ true → true ≡ false) (sym (eqb-true b c e)) (λ (g : is_bare_byte c ≡ true). sym g ∙ k) h
  by_test false e = refl

record IsBare (b : ℕ) : Type 0 where
  blank : (b == 32) ≡ false
  tab : (b == 9) ≡ false
  single : (b == 39) ≡ false
  double : (b == 34) ≡ false
  backslash : (b == 92) ≡ false

bare : (b : ℕ) → is_bare_byte b ≡ true → IsBare b
bare b h = record {
  blank = bare-not b 32 h refl;
  tab = bare-not b 9 h refl;
  single = bare-not b 39 h refl;
  double = bare-not b 34 h refl;
  backslash = bare-not b 92 h refl;
}

plain : (b : ℕ) → IsBare b → mode_outside b ≡ Plain
plain b one = simp (one.blank, one.tab, one.single, one.double, one.backslash)

-- a text gives the bytes of a word and leaves the line outside quotes
record Gives (from : Mode) (text word rest : List ℕ) : Type 0 where
  words : words_from from (text ++ rest) ≡ prepend word (words_from Plain rest)
  ends : end_mode from (text ++ rest) ≡ end_mode Plain rest

bare_from_plain : (word rest : List ℕ) → list_all is_bare_byte word ≡ true → Gives Plain word word rest
bare_from_plain [] rest h = record { words = sym (prepend-nil (words_from Plain rest)); ends = refl }
bare_from_plain (b ∷ word) rest h =
    let one : IsBare b = bare b (both-left (is_bare_byte b) (list_all is_bare_byte word) h) in
    let more : Gives Plain word word rest = bare_from_plain word rest (both-right (is_bare_byte b) (list_all is_bare_byte word) h) in
    record {
      words = simp (one.blank, one.tab, one.single, one.double, one.backslash, more.words) (prepend-prepend (b ∷ []) word (words_from Plain rest));
      ends = ap (λ (mode : Mode). end_mode mode (word ++ rest)) (plain b one) ∙ more.ends;
    }

bare_from_between : (word rest : List ℕ) → is_bare word ≡ true → Gives Between word word rest
bare_from_between [] rest h = cc
bare_from_between (b ∷ word) rest h =
    let all : list_all is_bare_byte (b ∷ word) ≡ true = both-right (nat_lt 0 (length (b ∷ word))) (list_all is_bare_byte (b ∷ word)) h in
    let one : IsBare b = bare b (both-left (is_bare_byte b) (list_all is_bare_byte word) all) in
    let more : Gives Plain word word rest = bare_from_plain word rest (both-right (is_bare_byte b) (list_all is_bare_byte word) all) in
    record {
      words = simp (one.blank, one.tab, one.single, one.double, one.backslash, more.words) (prepend-prepend (b ∷ []) word (words_from Plain rest));
      ends = ap (λ (mode : Mode). end_mode mode (word ++ rest)) (plain b one) ∙ more.ends;
    }

-- one byte within double quotes
quoted_byte : (b : ℕ) (inside word rest : List ℕ) → Gives Double (inside ++ 34 ∷ []) word rest → Gives Double ((double_quoted b ++ inside) ++ 34 ∷ []) (b ∷ word) rest
quoted_byte b inside word rest more = by_mark (b == 34) (b == 92) refl refl where
  by_mark : (q k : Bool) → (b == 34) ≡ q → (b == 92) ≡ k → Gives Double ((double_quoted b ++ inside) ++ 34 ∷ []) (b ∷ word) rest
  by_mark true k e f = record {
    words = simp (e, more.words) (ap (λ (ws : List (List ℕ)). prepend [] ws) (prepend-prepend (b ∷ []) word (words_from Plain rest)) ∙ prepend-nil (prepend (b ∷ word) (words_from Plain rest)));
    ends = simp (e, more.ends);
  }
  by_mark false true e f = record {
    words = simp (e, f, more.words) (ap (λ (ws : List (List ℕ)). prepend [] ws) (prepend-prepend (b ∷ []) word (words_from Plain rest)) ∙ prepend-nil (prepend (b ∷ word) (words_from Plain rest)));
    ends = simp (e, f, more.ends);
  }
  by_mark false false e f = record {
    words = simp (e, f, more.words) (prepend-prepend (b ∷ []) word (words_from Plain rest));
    ends = simp (e, f, more.ends);
  }

quoted_inside : (word rest : List ℕ) → Gives Double (flat_map double_quoted word ++ 34 ∷ []) word rest
quoted_inside [] rest = record { words = refl; ends = refl }
quoted_inside (b ∷ word) rest = quoted_byte b (flat_map double_quoted word) word rest (quoted_inside word rest)

quoted_gives : (word rest : List ℕ) → Gives Between (quoted word) word rest
unfolding quoted
quoted_gives word rest = by_bare (is_bare word) refl where
  within : Gives Double (flat_map double_quoted word ++ 34 ∷ []) word rest
  within = quoted_inside word rest

  by_bare : (t : Bool) → is_bare word ≡ t → Gives Between (if t then word else 34 ∷ flat_map double_quoted word ++ 34 ∷ []) word rest
  by_bare true e = bare_from_between word rest e
  by_bare false e = record {
    words = ap (λ (ws : List (List ℕ)). prepend [] ws) within.words ∙ prepend-nil (prepend word (words_from Plain rest));
    ends = within.ends;
  }

-- the words behind the first
words_from-others : (words : List (List ℕ)) → words_from Plain (flat_map (λ w. 32 ∷ quoted w) words) ≡ [] ∷ words
words_from-others [] = refl
words_from-others (word ∷ words) =
    let rest : List ℕ = flat_map (λ w. 32 ∷ quoted w) words in
    let here : words_from Between (quoted word ++ rest) ≡ prepend word (words_from Plain rest) = (quoted_gives word rest).words in
    ap (λ (ws : List (List ℕ)). [] ∷ ws) (here ∙ (ap (λ (ws : List (List ℕ)). prepend word ws) (words_from-others words) ∙ ap (λ (w : List ℕ). w ∷ words) (append-nil word)))

end_mode-others : (words : List (List ℕ)) → end_mode Plain (flat_map (λ w. 32 ∷ quoted w) words) ≡ Plain
end_mode-others [] = refl
end_mode-others (word ∷ words) = (quoted_gives word (flat_map (λ w. 32 ∷ quoted w) words)).ends ∙ end_mode-others words

pub words_in-quoted_words : (words : List (List ℕ)) → words_in (quoted_words words) ≡ words
unfolding words_in quoted_words
words_in-quoted_words [] = refl
words_in-quoted_words (word ∷ words) =
    (quoted_gives word (flat_map (λ w. 32 ∷ quoted w) words)).words ∙ (ap (λ (ws : List (List ℕ)). prepend word ws) (words_from-others words) ∙ ap (λ (w : List ℕ). w ∷ words) (append-nil word))

open_place-quoted_words : (words : List (List ℕ)) → open_place (quoted_words words) ≡ None
unfolding open_place quoted_words
open_place-quoted_words [] = refl
open_place-quoted_words (word ∷ words) =
    open_from-None (quoted_words (word ∷ words)) Between 0 0 (ap may_end ((quoted_gives word (flat_map (λ w. 32 ∷ quoted w) words)).ends ∙ end_mode-others words))

quoted_byte-good : (b : ℕ) → is_word_byte b ≡ true → list_all is_word_byte (double_quoted b) ≡ true
quoted_byte-good b h = by_mark (b == 34 || b == 92) where
  by_mark : (t : Bool) → list_all is_word_byte (if t then 92 ∷ b ∷ [] else b ∷ []) ≡ true
  by_mark true = rw h refl
  by_mark false = rw h refl

joined-good : (xs ys : List ℕ) → list_all is_word_byte xs ≡ true → list_all is_word_byte ys ≡ true → list_all is_word_byte (xs ++ ys) ≡ true
joined-good xs ys h k = list_all-append is_word_byte xs ys ∙ rw (h, k) refl

quoted_inside-good : (word : List ℕ) → list_all is_word_byte word ≡ true → list_all is_word_byte (flat_map double_quoted word) ≡ true
quoted_inside-good [] h = refl
quoted_inside-good (b ∷ word) h =
    joined-good (double_quoted b) (flat_map double_quoted word) (quoted_byte-good b (both-left (is_word_byte b) (list_all is_word_byte word) h)) (quoted_inside-good word (both-right (is_word_byte b) (list_all is_word_byte word) h))

quoted-good : (word : List ℕ) → list_all is_word_byte word ≡ true → list_all is_word_byte (quoted word) ≡ true
unfolding quoted
quoted-good word h = by_bare (is_bare word) where
  by_bare : (t : Bool) → list_all is_word_byte (if t then word else 34 ∷ flat_map double_quoted word ++ 34 ∷ []) ≡ true
  by_bare true = h
  by_bare false = joined-good (flat_map double_quoted word) (34 ∷ []) (quoted_inside-good word h) refl

others-good : (words : List (List ℕ)) → are_words words ≡ true → list_all is_word_byte (flat_map (λ w. 32 ∷ quoted w) words) ≡ true
others-good [] h = refl
others-good (word ∷ words) h =
    joined-good (quoted word) (flat_map (λ w. 32 ∷ quoted w) words) (quoted-good word (both-left (list_all is_word_byte word) (are_words words) h)) (others-good words (both-right (list_all is_word_byte word) (are_words words) h))

quoted_words-good : (words : List (List ℕ)) → are_words words ≡ true → list_all is_word_byte (quoted_words words) ≡ true
unfolding quoted_words
quoted_words-good [] h = refl
quoted_words-good (word ∷ words) h =
    joined-good (quoted word) (flat_map (λ w. 32 ∷ quoted w) words) (quoted-good word (both-left (list_all is_word_byte word) (are_words words) h)) (others-good words (both-right (list_all is_word_byte word) (are_words words) h))

-- a line that words were written on has no bad place, and its words are these
pub first_bad-quoted_words : (words : List (List ℕ)) → are_words words ≡ true → first_bad (quoted_words words) ≡ None
unfolding first_bad
first_bad-quoted_words words h =
    rw (position-from_list_all is_word_byte (quoted_words words) (quoted_words-good words h), open_place-quoted_words words) refl

pub ruleset quoting = (words_in-quoted_words, first_bad-quoted_words)
