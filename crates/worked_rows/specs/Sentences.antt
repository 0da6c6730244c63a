-- Words as one writes them on a line, piece by piece: "Quoting" in sh(1). 34 is ", 39 is ' and 92 is \.
use Rattle.std.specs.Prelude.{ℕ, ◌≡◌, ◌≢◌, Bool, not, true, ◌||◌, ◌==◌, None, List, [], ◌∷◌, ◌++◌, map, flat_map}
use Rattle.std.specs.List.{list_all}
use Rattle.std.specs.Str.{byte}
use Rattle.line_words.specs.Words.{is_blank, words_in, open_place}

-- a double quote or a backslash, before which a backslash within double quotes is a mark
abbrev pub is_marked : ℕ → Bool
is_marked b = b == byte "\"" || b == byte "\\"

-- what stands within double quotes: a byte for itself; a backslash that marks the next byte; a backslash before a byte
-- that it doesn't mark, where both stand for themselves
pub data Item : Type 0 where
  Itself : ℕ → Item
  Marked : ℕ → Item
  Both : ℕ → Item

abbrev pub is_item : Item → Bool
is_item (Itself b) = not (is_marked b)
is_item (Marked b) = is_marked b
is_item (Both b) = not (is_marked b)

abbrev pub item_written : Item → List ℕ
item_written (Itself b) = b ∷ []
item_written (Marked b) = byte "\\" ∷ b ∷ []
item_written (Both b) = byte "\\" ∷ b ∷ []

abbrev pub item_meant : Item → List ℕ
item_meant (Itself b) = b ∷ []
item_meant (Marked b) = b ∷ []
item_meant (Both b) = byte "\\" ∷ b ∷ []

-- a piece of a word: a byte by itself; a byte behind a backslash; what stands within single or double quotes
pub data Piece : Type 0 where
  Bare : ℕ → Piece
  Escaped : ℕ → Piece
  Single : List ℕ → Piece
  Double : List Item → Piece

-- a byte by itself is no blank, quote or backslash; there is no way to have a single quote within single quotes
abbrev pub is_piece : Piece → Bool
is_piece (Bare b) = not (is_blank b || (b == byte "'" || b == byte "\"" || b == byte "\\"))
is_piece (Escaped b) = true
is_piece (Single bytes) = list_all (λ b. not (b == byte "'")) bytes
is_piece (Double items) = list_all is_item items

abbrev pub piece_written : Piece → List ℕ
piece_written (Bare b) = b ∷ []
piece_written (Escaped b) = byte "\\" ∷ b ∷ []
piece_written (Single bytes) = byte "'" ∷ bytes ++ byte "'" ∷ []
piece_written (Double items) = byte "\"" ∷ flat_map item_written items ++ byte "\"" ∷ []

abbrev pub piece_meant : Piece → List ℕ
piece_meant (Bare b) = b ∷ []
piece_meant (Escaped b) = b ∷ []
piece_meant (Single bytes) = bytes
piece_meant (Double items) = flat_map item_meant items

-- a word, and the blanks behind it
pub record Word : Type 0 where
  pub pieces : List Piece
  pub blanks : List ℕ

-- a word has a piece at least, which may be empty quotes
pub record IsWord (word : Word) : Type 0 where
  pub some : word.pieces ≢ []
  pub pieces : list_all is_piece word.pieces ≡ true
  pub blanks : list_all is_blank word.blanks ≡ true

-- words in a row, with a blank or more between two
abbrev pub AreWords : List Word → Type 0
AreWords [] = Unit {0}
AreWords (word ∷ words) = IsWord word × (words ≢ [] → word.blanks ≢ []) × AreWords words

-- blanks, and then words
pub record Sentence : Type 0 where
  pub blanks : List ℕ
  pub words : List Word

pub record IsSentence (sentence : Sentence) : Type 0 where
  pub blanks : list_all is_blank sentence.blanks ≡ true
  pub words : AreWords sentence.words

abbrev pub pieces_written : List Piece → List ℕ
pieces_written pieces = flat_map piece_written pieces

abbrev pub words_written : List Word → List ℕ
words_written words = flat_map (λ word. pieces_written word.pieces ++ word.blanks) words

-- the line on which a sentence stands
abbrev pub sentence_written : Sentence → List ℕ
sentence_written sentence = sentence.blanks ++ words_written sentence.words

abbrev pub word_meant : Word → List ℕ
word_meant word = flat_map piece_meant word.pieces

-- The words of a sentence's line are what its words mean,
abbrev pub WordsAreMeant : Type 0
WordsAreMeant = (sentence : Sentence) → IsSentence sentence
    → words_in (sentence_written sentence) ≡ map word_meant sentence.words

-- nothing is open at its end,
abbrev pub NothingStaysOpen : Type 0
NothingStaysOpen = (sentence : Sentence) → IsSentence sentence → open_place (sentence_written sentence) ≡ None

-- and each line at whose end nothing is open is the line of a sentence.
abbrev pub EachClosedLine : Type 0
EachClosedLine = (line : List ℕ) → open_place line ≡ None
    → (sentence : Sentence) × IsSentence sentence × (sentence_written sentence ≡ line)
