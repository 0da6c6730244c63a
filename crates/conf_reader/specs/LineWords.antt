-- The words of a logical line.
use Rattle.std.specs.Prelude.{ℕ, Bool, false, not, ◌&&◌, ◌||◌, ◌==◌, nat_lt, if◌then◌else◌, List, [], ◌∷◌, length, map, filter, take_while}
use Rattle.std.specs.List.{slice_split}
use Rattle.std.specs.Str.{byte}

-- a byte of a line, and whether a double quote is open before it
pub record Marked : Type 0 where
  pub byte : ℕ
  pub quoted : Bool

abbrev pub quoted_behind : Bool → ℕ → Bool
quoted_behind quoted b = if b == byte "\"" then not quoted else quoted

-- the bytes of what is left of a line
abbrev pub marked : Bool → List ℕ → List Marked
marked quoted [] = []
marked quoted (b ∷ line) = record { byte = b; quoted = quoted } ∷ marked (quoted_behind quoted b) line

-- blanks and tabs separate words
abbrev pub is_blank : ℕ → Bool
is_blank b = b == byte " " || b == byte "\t"

-- where they are not quoted
abbrev pub is_gap : Marked → Bool
is_gap m = not m.quoted && is_blank m.byte

-- a comment begins at a number sign that isn't quoted
abbrev pub begins_comment : Marked → Bool
begins_comment m = not m.quoted && m.byte == byte "#"

-- whether a word goes on
abbrev pub isnt_end : Marked → Bool
isnt_end m = not (is_gap m || begins_comment m)

-- what stands between gaps, up to the comment
abbrev pub pieces : List Marked → List (List Marked)
pieces line = slice_split is_gap (take_while (λ m. not (begins_comment m)) line)

abbrev pub bytes_of : List Marked → List ℕ
bytes_of piece = map (λ m. m.byte) piece

abbrev pub isnt_empty : List ℕ → Bool
isnt_empty word = nat_lt 0 (length word)

-- the words of a line
unfoldable pub words_in : List ℕ → List (List ℕ)
words_in line = filter isnt_empty (map bytes_of (pieces (marked false line)))
