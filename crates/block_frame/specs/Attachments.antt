-- What stands behind the header line of a block: an attachment, and how it is read.
use Rattle.std.specs.Prelude.{◌≡◌, ◌==◌, ◌&&◌, ℕ, ◌-◌, ◌<◌, ◌≤◌, Bool, true, false, if◌then◌else◌, Option, Some, None, List, [], ◌∷◌, ◌++◌, length, slice_index}
use Rattle.std.specs.Str.{byte}

-- An attachment is lines, each ended by LF, of 65,536 bytes at the most.
pub record IsAttachment (bytes : List ℕ) : Type 0 where
  -- its last byte, if it has any, is an LF
  pub ended : 0 < length bytes → slice_index bytes (length bytes - 1) ≡ byte "\n"
  pub fits : length bytes ≤ 65536

-- bytes, at the beginning of a line or within one, with one more dot in front of each line that begins with a dot
abbrev pub dotted : Bool → List ℕ → List ℕ
dotted begins [] = []
dotted begins (b ∷ bytes) =
    (if begins && b == byte "." then byte "." ∷ [] else []) ++ b ∷ dotted (b == byte "\n") bytes

-- the lines behind the header line of a block; the last line of an attachment is a dot alone
abbrev pub attachment_lines : Option (List ℕ) → List ℕ
attachment_lines None = []
attachment_lines (Some bytes) = dotted true bytes ++ byte "." ∷ byte "\n" ∷ []

-- where the next byte of an attachment stands
pub data Place : Type 0 where
  LineStart : Place
  -- behind a dot that begins a line
  FirstDot : Place
  InLine : Place

-- what a text behind a header line begins with
pub data Reading : Type 0 where
  -- a whole attachment of these bytes
  Ended : (bytes : List ℕ) → Reading
  -- these bytes of one, which goes on at this place
  Unended : (at : Place) (bytes : List ℕ) → Reading
  -- neither: a line begins with one dot and goes on otherwise
  Off : Reading

-- a reading, with bytes in front of its own
abbrev pub behind : List ℕ → Reading → Reading
behind front (Ended bytes) = Ended (front ++ bytes)
behind front (Unended at bytes) = Unended at (front ++ bytes)
behind front Off = Off

-- the place where a line begins, or not
abbrev pub place_of : Bool → Place
place_of true = LineStart
place_of false = InLine

-- how a text is read from a place on
unfoldable pub reading_at : Place → List ℕ → Reading
reading_at at [] = Unended at []
reading_at LineStart (b ∷ bytes) =
    if b == byte "."
    then reading_at FirstDot bytes
    else behind (b ∷ []) (reading_at (place_of (b == byte "\n")) bytes)
reading_at FirstDot (b ∷ bytes) =
    if b == byte "\n" then Ended [] else (if b == byte "." then behind (b ∷ []) (reading_at InLine bytes) else Off)
reading_at InLine (b ∷ bytes) = behind (b ∷ []) (reading_at (place_of (b == byte "\n")) bytes)
