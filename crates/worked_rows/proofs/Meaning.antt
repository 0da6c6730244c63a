-- What is read of pieces, words and sentences is what they mean.
use Rattle.std.proofs.Common.{ℕ, ◌≡◌, ◌≢◌, ◌==◌, not, true, false, None, List, [], ◌∷◌, ◌++◌, map, flat_map, refl, sym, ap, ◌∙◌, append_assoc}
use Rattle.std.specs.List.{list_all}
use Rattle.std.proofs.lemmas.List.{append-nil}
use Rattle.line_words.specs.Words.{is_blank, may_end, prepend, words_from, words_in, open_place}
use Rattle.worked_rows.specs.Sentences.{Item, Itself, Marked, Both, Piece, Bare, Escaped, Single, Double, Word, Sentence, IsWord, AreWords, IsSentence, is_marked, is_item, is_piece, item_written, item_meant, piece_written, piece_meant, pieces_written, words_written, word_meant, sentence_written}
use Rattle.worked_rows.proofs.Modes.{Mode, between, within, in_single, in_double, end_mode, not-true, neither-left, neither-right, blank, IsBlank, bare, IsBare, closed}
use Rattle.line_words.proofs.WordLemmas.{both-left, both-right, prepend-prepend, prepend-nil}

-- a text gives the bytes of a word and leaves the line outside quotes
record Gives (from : Mode) (text word rest : List ℕ) : Type 0 where
  words : words_from from (text ++ rest) ≡ prepend word (words_from within rest)
  ends : end_mode from (text ++ rest) ≡ end_mode within rest

-- ---- within quotes

within_single : (bytes rest : List ℕ) → list_all (λ b. not (b == 39)) bytes ≡ true
    → Gives in_single (bytes ++ 39 ∷ []) bytes rest
within_single [] rest h = record { words = refl; ends = refl }
within_single (b ∷ bytes) rest h =
    let other : (b == 39) ≡ false = not-true (b == 39)
    (both-left (not (b == 39)) (list_all (λ c. not (c == 39)) bytes) h) in
    let more : Gives in_single (bytes ++ 39 ∷ []) bytes rest =
    within_single bytes rest (both-right (not (b == 39)) (list_all (λ c. not (c == 39)) bytes) h) in
    record {
      words = simp (other, more.words) (prepend-prepend (b ∷ []) bytes (words_from within rest));
      ends = ap (λ (mode : Mode). end_mode mode ((bytes ++ 39 ∷ []) ++ rest)) (rw other refl) ∙ more.ends;
    }

-- a byte that a backslash doesn't mark is neither a double quote nor a backslash
record IsPlain (b : ℕ) : Type 0 where
  quote : (b == 34) ≡ false
  slash : (b == 92) ≡ false

not_marked : (b : ℕ) → not (is_marked b) ≡ true → IsPlain b
not_marked b h =
    let none : is_marked b ≡ false = not-true (is_marked b) h in
    record { quote = neither-left (b == 34) (b == 92) none; slash = neither-right (b == 34) (b == 92) none }

after_item : (item : Item) (inside word rest : List ℕ) → is_item item ≡ true
    → Gives in_double (inside ++ 34 ∷ []) word rest
    → Gives in_double ((item_written item ++ inside) ++ 34 ∷ []) (item_meant item ++ word) rest
after_item (Itself b) inside word rest h more =
    let one : IsPlain b = not_marked b h in
    record {
      words = simp (one.quote, one.slash, more.words) (prepend-prepend (b ∷ []) word (words_from within rest));
      ends = simp (one.quote, one.slash, more.ends);
    }
after_item (Marked b) inside word rest h more = record {
  words = ap (prepend []) (simp (h, more.words) (prepend-prepend (b ∷ []) word (words_from within rest)))
      ∙ prepend-nil (prepend (b ∷ word) (words_from within rest));
  ends = more.ends;
}
after_item (Both b) inside word rest h more =
    let none : is_marked b ≡ false = not-true (is_marked b) h in
    record {
      words = ap (prepend []) (simp (none, more.words) (prepend-prepend (92 ∷ b ∷ []) word (words_from within rest)))
          ∙ prepend-nil (prepend (92 ∷ b ∷ word) (words_from within rest));
      ends = more.ends;
    }

within_double : (items : List Item) (rest : List ℕ) → list_all is_item items ≡ true
    → Gives in_double (flat_map item_written items ++ 34 ∷ []) (flat_map item_meant items) rest
within_double [] rest h = record { words = refl; ends = refl }
within_double (item ∷ items) rest h =
    after_item item (flat_map item_written items) (flat_map item_meant items) rest
    (both-left (is_item item) (list_all is_item items) h)
    (within_double items rest (both-right (is_item item) (list_all is_item items) h))

-- ---- pieces

piece-between : (p : Piece) (rest : List ℕ) → is_piece p ≡ true → Gives between (piece_written p) (piece_meant p) rest
piece-between (Bare b) rest h =
    let one : IsBare b = bare b (not-true _ h) in
    record { words = rw (one.adds, one.outside) refl; ends = ap (λ (mode : Mode). end_mode mode rest) one.outside }
piece-between (Escaped b) rest h =
    record { words = prepend-nil (prepend (b ∷ []) (words_from within rest)); ends = refl }
piece-between (Single bytes) rest h =
    let inside : Gives in_single (bytes ++ 39 ∷ []) bytes rest = within_single bytes rest h in
    record {
      words = ap (prepend []) inside.words ∙ prepend-nil (prepend bytes (words_from within rest));
      ends = inside.ends;
    }
piece-between (Double items) rest h =
    let inside : Gives in_double (flat_map item_written items ++ 34 ∷ []) (flat_map item_meant items) rest =
    within_double items rest h in
    record {
      words = ap (prepend []) inside.words
          ∙ prepend-nil (prepend (flat_map item_meant items) (words_from within rest));
      ends = inside.ends;
    }

-- within a word a piece does the same
piece-within : (p : Piece) (rest : List ℕ) → is_piece p ≡ true → Gives within (piece_written p) (piece_meant p) rest
piece-within (Bare b) rest h =
    let one : IsBare b = bare b (not-true _ h) in
    record {
      words = rw (one.adds, one.outside, one.blank) refl;
      ends = ap (λ (mode : Mode). end_mode mode rest) one.outside;
    }
piece-within (Escaped b) rest h =
    let same : Gives between (piece_written (Escaped b)) (b ∷ []) rest = piece-between (Escaped b) rest h in
    record { words = same.words; ends = same.ends }
piece-within (Single bytes) rest h =
    let same : Gives between (piece_written (Single bytes)) bytes rest = piece-between (Single bytes) rest h in
    record { words = same.words; ends = same.ends }
piece-within (Double items) rest h =
    let same : Gives between (piece_written (Double items)) (piece_meant (Double items)) rest =
    piece-between (Double items) rest h in
    record { words = same.words; ends = same.ends }

-- a piece before others, of which there may be none
joined : (from : Mode) (p : Piece) (ps : List Piece) (rest : List ℕ)
    → Gives from (piece_written p) (piece_meant p) (pieces_written ps ++ rest)
    → Gives within (pieces_written ps) (flat_map piece_meant ps) rest
    → Gives from (pieces_written (p ∷ ps)) (flat_map piece_meant (p ∷ ps)) rest
joined from p ps rest first more =
    let same : pieces_written (p ∷ ps) ++ rest ≡ piece_written p ++ (pieces_written ps ++ rest) =
    append_assoc (piece_written p) (pieces_written ps) rest in
    record {
      words = ap (words_from from) same
          ∙ (first.words ∙ (ap (prepend (piece_meant p)) more.words ∙ prepend-prepend (piece_meant p)
          (flat_map piece_meant ps) (words_from within rest)));
      ends = ap (end_mode from) same ∙ (first.ends ∙ more.ends);
    }

others : (ps : List Piece) (rest : List ℕ) → list_all is_piece ps ≡ true
    → Gives within (pieces_written ps) (flat_map piece_meant ps) rest
others [] rest h = record { words = sym (prepend-nil (words_from within rest)); ends = refl }
others (p ∷ ps) rest h =
    joined within p ps rest (piece-within p (pieces_written ps ++ rest)
    (both-left (is_piece p) (list_all is_piece ps) h))
    (others ps rest (both-right (is_piece p) (list_all is_piece ps) h))

pieces : (ps : List Piece) (rest : List ℕ) → ps ≢ [] → list_all is_piece ps ≡ true
    → Gives between (pieces_written ps) (flat_map piece_meant ps) rest
pieces [] rest some h = absurd (some refl)
pieces (p ∷ ps) rest some h =
    joined between p ps rest (piece-between p (pieces_written ps ++ rest)
    (both-left (is_piece p) (list_all is_piece ps) h))
    (others ps rest (both-right (is_piece p) (list_all is_piece ps) h))

-- ---- blanks

-- blanks between words add nothing
record Skips (text rest : List ℕ) : Type 0 where
  words : words_from between (text ++ rest) ≡ words_from between rest
  ends : end_mode between (text ++ rest) ≡ end_mode between rest

skipped : (bs rest : List ℕ) → list_all is_blank bs ≡ true → Skips bs rest
skipped [] rest h = record { words = refl; ends = refl }
skipped (b ∷ bs) rest h =
    let one : IsBlank b = blank b (both-left (is_blank b) (list_all is_blank bs) h) in
    let more : Skips bs rest = skipped bs rest (both-right (is_blank b) (list_all is_blank bs) h) in
    record {
      words = rw (one.adds, one.outside) (prepend-nil (words_from between (bs ++ rest)) ∙ more.words);
      ends = ap (λ (mode : Mode). end_mode mode (bs ++ rest)) one.outside ∙ more.ends;
    }

-- blanks behind a word end it
record Ends (text rest : List ℕ) : Type 0 where
  words : words_from within (text ++ rest) ≡ [] ∷ words_from between rest
  ends : end_mode within (text ++ rest) ≡ end_mode between rest

ended : (bs rest : List ℕ) → bs ≢ [] → list_all is_blank bs ≡ true → Ends bs rest
ended [] rest some h = absurd (some refl)
ended (b ∷ bs) rest some h =
    let here : is_blank b ≡ true = both-left (is_blank b) (list_all is_blank bs) h in
    let more : Skips bs rest = skipped bs rest (both-right (is_blank b) (list_all is_blank bs) h) in
    record {
      words = rw here (ap (λ (ws : List (List ℕ)). [] ∷ ws) more.words);
      ends = ap (λ (mode : Mode). end_mode mode (bs ++ rest)) (blank b here).outside ∙ more.ends;
    }

-- ---- words

record Means (words : List Word) : Type 0 where
  read : words_from between (words_written words) ≡ map word_meant words
  ends : may_end (end_mode between (words_written words)) ≡ true

-- a word and its blanks before others
word-then : (word : Word) (words : List Word) → IsWord word → word.blanks ≢ [] → Means words → Means (word ∷ words)
word-then word words is some more =
    let rest : List ℕ = words_written words in
    let same : words_written (word ∷ words) ≡ pieces_written word.pieces ++ (word.blanks ++ rest) =
    append_assoc (pieces_written word.pieces) word.blanks rest in
    let front : Gives between (pieces_written word.pieces) (word_meant word) (word.blanks ++ rest) =
    pieces word.pieces (word.blanks ++ rest) is.some is.pieces in
    let back : Ends word.blanks rest = ended word.blanks rest some is.blanks in
    record {
      read = ap (words_from between) same
          ∙ (front.words
          ∙ (ap (prepend (word_meant word)) (back.words ∙ ap (λ (ws : List (List ℕ)). [] ∷ ws) more.read)
          ∙ ap (λ (w : List ℕ). w ∷ map word_meant words) (append-nil (word_meant word))));
      ends = ap may_end (ap (end_mode between) same ∙ (front.ends ∙ back.ends)) ∙ more.ends;
    }

-- a word at the end of the line
word-last : (word : Word) → IsWord word → word.blanks ≡ [] → Means (word ∷ [])
word-last word is none =
    let front : Gives between (pieces_written word.pieces) (word_meant word) [] =
    pieces word.pieces [] is.some is.pieces in
    let same : words_written (word ∷ []) ≡ pieces_written word.pieces ++ [] =
    ap (λ (bs : List ℕ). (pieces_written word.pieces ++ bs) ++ []) none ∙ ap (λ (text : List ℕ). text ++ [])
    (append-nil (pieces_written word.pieces)) in
    record {
      read = ap (words_from between) same ∙ (front.words ∙ ap (λ (w : List ℕ). w ∷ []) (append-nil (word_meant word)));
      ends = ap may_end (ap (end_mode between) same ∙ front.ends);
    }

one_more : (word : Word) (words : List Word) → IsWord word → (words ≢ [] → word.blanks ≢ []) → Means words
    → (blanks : List ℕ) → word.blanks ≡ blanks → Means (word ∷ words)
one_more word words is apart more (b ∷ bs) e =
    word-then word words is (λ none. let clash : b ∷ bs ≡ [] = sym e ∙ none in cc) more
one_more word [] is apart more [] e = word-last word is e
one_more word (next ∷ words) is apart more [] e = absurd (apart (λ none. let clash : next ∷ words ≡ [] = none in cc) e)

in_a_row : (words : List Word) → AreWords words → Means words
in_a_row [] are = record { read = refl; ends = refl }
in_a_row (word ∷ words) are = one_more word words are.0 are.1 (in_a_row words are.2) word.blanks refl

pub words-are_meant : (sentence : Sentence) → IsSentence sentence
    → words_in (sentence_written sentence) ≡ map word_meant sentence.words
unfolding words_in
words-are_meant sentence is = (skipped sentence.blanks (words_written sentence.words) is.blanks).words
    ∙ (in_a_row sentence.words is.words).read

pub nothing-stays_open : (sentence : Sentence) → IsSentence sentence → open_place (sentence_written sentence) ≡ None
nothing-stays_open sentence is =
    closed (sentence_written sentence)
    (ap may_end (skipped sentence.blanks (words_written sentence.words) is.blanks).ends
    ∙ (in_a_row sentence.words is.words).ends)
