-- How a line is split into words, and how words are written on a line.
use Rattle.std.specs.Prelude.{ℕ, suc, min, Bool, true, false, not, ◌&&◌, ◌||◌, ◌==◌, if◌then◌else◌, Option, Some, None, List, [], ◌∷◌, ◌++◌, length, nat_lt, position, flat_map, codes}
use Rattle.std.specs.Str.{byte}
use Rattle.std.specs.Char.{is_ascii_alphanumeric}
use Rattle.std.specs.List.{list_all, list_any}
use Rattle.small_texts.specs.Name.{is_printable}
use Rattle.line_words.specs.declared.words.Mode.{Mode}
use Rattle.line_words.specs.declared.words.Mode.TheVariants.{Between, Plain, Escaped, Single, Double, DoubleEscaped}

-- what a word is made of
abbrev pub is_word_byte : ℕ → Bool
is_word_byte b = is_printable b || b == byte "\t"

abbrev pub are_words : List (List ℕ) → Bool
are_words words = list_all (list_all is_word_byte) words

-- blanks and tabs separate words
abbrev pub is_blank : ℕ → Bool
is_blank b = b == byte " " || b == byte "\t"

-- where a line stands behind a byte outside quotes
abbrev pub mode_outside : ℕ → Mode
mode_outside b =
    if is_blank b
    then Between
    else (if b == byte "'" then Single
    else (if b == byte "\"" then Double else (if b == byte "\\" then Escaped else Plain)))

-- where a line stands behind a byte
abbrev pub mode_after : Mode → ℕ → Mode
mode_after Between b = mode_outside b
mode_after Plain b = mode_outside b
mode_after Escaped b = Plain
mode_after Single b = if b == byte "'" then Plain else Single
mode_after Double b = if b == byte "\"" then Plain else (if b == byte "\\" then DoubleEscaped else Double)
mode_after DoubleEscaped b = Double

abbrev pub written_outside : ℕ → List ℕ
written_outside b = if is_blank b || (b == byte "'" || b == byte "\"" || b == byte "\\") then [] else b ∷ []

-- what a byte adds to its word
abbrev pub written : Mode → ℕ → List ℕ
written Between b = written_outside b
written Plain b = written_outside b
written Escaped b = b ∷ []
written Single b = if b == byte "'" then [] else b ∷ []
written Double b = if b == byte "\"" || b == byte "\\" then [] else b ∷ []
written DoubleEscaped b = if b == byte "\"" || b == byte "\\" then b ∷ [] else byte "\\" ∷ b ∷ []

-- whether a word ends before the byte
abbrev pub ends_word : Mode → ℕ → Bool
ends_word Plain b = is_blank b
ends_word _ b = false

-- the bytes in front of the first word
abbrev pub prepend : List ℕ → List (List ℕ) → List (List ℕ)
prepend bytes [] = []
prepend bytes (word ∷ words) = (bytes ++ word) ∷ words

-- the words of what is left of a line; within a word the first is what is left of that word
abbrev pub words_from : Mode → List ℕ → List (List ℕ)
words_from Between [] = []
words_from _ [] = [] ∷ []
words_from mode (b ∷ text) =
    if ends_word mode b
    then [] ∷ words_from Between text
    else prepend (written mode b) (words_from (mode_after mode b) text)

-- the words of a line
unfoldable pub words_in : List ℕ → List (List ℕ)
words_in line = words_from Between line

-- whether a byte begins a comment: a # where a word would begin
abbrev pub begins_comment : Mode → ℕ → Bool
begins_comment Between b = b == byte "#"
begins_comment _ b = false

-- what stands before a comment in what is left of a line
abbrev pub before_comment_from : Mode → List ℕ → List ℕ
before_comment_from mode [] = []
before_comment_from mode (b ∷ text) =
    if begins_comment mode b then [] else b ∷ before_comment_from (mode_after mode b) text

-- what stands before a comment, which goes on to the line's end
unfoldable pub before_comment : List ℕ → List ℕ
before_comment line = before_comment_from Between line

-- whether a byte opens a quote, or is a backslash outside quotes
abbrev pub opens : Mode → ℕ → Bool
opens Between b = b == byte "'" || b == byte "\"" || b == byte "\\"
opens Plain b = b == byte "'" || b == byte "\"" || b == byte "\\"
opens _ b = false

-- whether a line may end
abbrev pub may_end : Mode → Bool
may_end Between = true
may_end Plain = true
may_end _ = false

-- the place of a quote that isn't closed or of a backslash at the end, where what is left of a line begins at a place,
-- and the last quote or backslash that opened stands at another
abbrev pub open_from : Mode → ℕ → ℕ → List ℕ → Option ℕ
open_from mode opened place [] = if may_end mode then None else Some opened
open_from mode opened place (b ∷ text) =
    open_from (mode_after mode b) (if opens mode b then place else opened) (suc place) text

-- the quote that isn't closed, or the backslash at the end
unfoldable pub open_place : List ℕ → Option ℕ
open_place line = open_from Between 0 0 line

abbrev pub earlier : Option ℕ → Option ℕ → Option ℕ
earlier None b = b
earlier (Some a) None = Some a
earlier (Some a) (Some b) = Some (min a b)

-- the first place at which a line is no list of words
unfoldable pub first_bad : List ℕ → Option ℕ
first_bad line = earlier (position (λ b. not (is_word_byte b)) line) (open_place line)

-- the first word that has another byte
unfoldable pub first_bad_word : List (List ℕ) → Option ℕ
first_bad_word words = position (λ word. not (list_all is_word_byte word)) words

-- what a word that stands without quotes may have: letters, digits and _ - . , = : / + % @ [ ] & | ?
abbrev pub is_bare_byte : ℕ → Bool
is_bare_byte b = is_ascii_alphanumeric b || list_any (λ c. c == b) bare_marks where
  bare_marks : List ℕ
  bare_marks = codes "_-.,=:/+%@[]&|?"

-- whether a word stands without quotes
abbrev pub is_bare : List ℕ → Bool
is_bare word = nat_lt 0 (length word) && list_all is_bare_byte word

-- a byte within double quotes
abbrev pub double_quoted : ℕ → List ℕ
double_quoted b = if b == byte "\"" || b == byte "\\" then byte "\\" ∷ b ∷ [] else b ∷ []

-- how a word is written
unfoldable pub quoted : List ℕ → List ℕ
quoted word = if is_bare word then word else byte "\"" ∷ flat_map double_quoted word ++ byte "\"" ∷ []

-- how words are written: one blank between two neighbours
unfoldable pub quoted_words : List (List ℕ) → List ℕ
quoted_words [] = []
quoted_words (word ∷ words) = quoted word ++ flat_map (λ w. byte " " ∷ quoted w) words
