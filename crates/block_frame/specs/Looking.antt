-- How a reader looks at the bytes at hand: line by line, and each byte once.
use Rattle.std.specs.Prelude.{◌≡◌, ◌==◌, ◌&&◌, ℕ, ◌+◌, ◌-◌, ◌<◌, ◌≤◌, Bool, true, false, nat_le, nat_lt, if◌then◌else◌, Some, None, List, [], ◌∷◌, ◌++◌, length, take, drop}
use Rattle.std.specs.List.{position_or_len, slice_range}
use Rattle.std.specs.Str.{byte}
use Rattle.block_frame.specs.declared.block.Block.{Block}
use Rattle.block_frame.specs.declared.form.Form.{Form}
use Rattle.block_frame.specs.declared.form.Form.TheVariants.{Plain, Framed}
use Rattle.block_frame.specs.declared.framed.FrameSight.{FrameSight}
use Rattle.block_frame.specs.declared.framed.FrameSight.TheVariants as frame
use Rattle.block_frame.specs.declared.framed.TheConstants.{LENGTH_SIZE}
use Rattle.block_frame.specs.declared.lines.Kind.{Kind}
use Rattle.block_frame.specs.declared.lines.Kind.TheVariants as kind
use Rattle.block_frame.specs.declared.lines.Seen.{Seen}
use Rattle.block_frame.specs.declared.lines.Seen.TheVariants as seen
use Rattle.block_frame.specs.declared.looking.Lines.{Lines}
use Rattle.block_frame.specs.declared.looking.Scan.{Scan}
use Rattle.block_frame.specs.declared.looking.Scan.TheVariants as scan
use Rattle.block_frame.specs.declared.looking.Sight.{Sight}
use Rattle.block_frame.specs.declared.looking.Sight.TheVariants as sight
use Rattle.block_frame.specs.Attachments.{Place, LineStart, FirstDot, InLine, Reading, Ended, Unended, Off, reading_at}
use Rattle.block_frame.specs.Grammar.{IsHeaderLine, IsBlock, IsPartial, IsBad, is_marked, spelled}
use Rattle.block_frame.specs.Frames.{framed_block}
use Rattle.block_frame.specs.LineFeeds.{is_line_feed}

-- how many bytes an attachment has still to gain before it can end
abbrev pub owed : Place → ℕ
owed LineStart = 0
owed FirstDot = 0
owed InLine = 1

-- whether what was read has room, and can end
abbrev pub has_room : ℕ → Reading → Bool
has_room room (Ended bytes) = nat_le (length bytes) room
has_room room (Unended at bytes) = nat_le (length bytes + owed at) room
has_room room Off = false

-- what a line behind a dot is
abbrev pub kind_behind_dot : List ℕ → Kind
kind_behind_dot [] = kind.Dot
kind_behind_dot (b ∷ bytes) = if b == byte "." then kind.Dotted else kind.Off

abbrev pub kind_of : List ℕ → Kind
kind_of [] = kind.Plain
kind_of (b ∷ bytes) = if b == byte "." then kind_behind_dot bytes else kind.Plain

-- what a line of this length is, if it stands for so many bytes and there is room for so many
abbrev pub sized : ℕ → Bool → ℕ → ℕ → Seen
sized len is_ended size room =
    if nat_lt room size then seen.Bad len else (if is_ended then seen.Line len size else seen.Open len)

-- what is next in an attachment, at the beginning of a line
abbrev pub IsSeen : ℕ → List ℕ → Seen → Type 0
IsSeen room text (seen.Open searched) =
    (at : Place) × (bytes : List ℕ) × (reading_at LineStart text ≡ Unended at bytes)
    × (has_room room (Unended at bytes) ≡ true) × (searched ≤ position_or_len is_line_feed text)
IsSeen room text (seen.Line len size) =
    (bytes : List ℕ) × (reading_at LineStart (take (len + 1) text) ≡ Unended LineStart bytes)
    × (length bytes ≡ size) × (size ≤ room) × (len < length text)
IsSeen room text seen.Last = text ≡ byte "." ∷ byte "\n" ∷ drop 2 text
IsSeen room text (seen.Bad searched) =
    (has_room room (reading_at LineStart text) ≡ false) × (searched ≤ position_or_len is_line_feed text)

-- A text is a marked header line, lines of an attachment and a rest, and these numbers say where.
pub record IsUnderWay (text : List ℕ) (lines : Lines) : Type 0 where
  pub line : List ℕ
  pub front : List ℕ
  pub rest : List ℕ
  pub bytes : List ℕ
  pub cut : text ≡ line ++ byte "\n" ∷ (front ++ rest)
  pub is_line : IsHeaderLine line
  pub marked : is_marked line ≡ true
  pub read : reading_at LineStart front ≡ Unended LineStart bytes
  pub header : lines.header ≡ length line
  pub at : lines.at ≡ length line + 1 + length front
  pub size : lines.size ≡ length bytes
  pub fits : lines.size ≤ 65536
  pub searched : lines.searched ≤ position_or_len is_line_feed rest

-- A text was looked at so far.
abbrev pub IsScanned : List ℕ → Scan → Type 0
IsScanned text (scan.Header searched) = searched ≤ position_or_len is_line_feed text
IsScanned text (scan.Attachment lines) = IsUnderWay text lines

-- lines of an attachment, from the beginning of a line or not, without the first dot of each
abbrev pub undotted : Bool → List ℕ → List ℕ
undotted begins [] = []
undotted begins (b ∷ bytes) = (if begins && b == byte "." then [] else b ∷ []) ++ undotted (b == byte "\n") bytes

-- the block of a header line of this length
abbrev pub line_block : List ℕ → ℕ → Block
line_block text line = record { header = take line text; attachment = None }

-- the block of a marked header line of this length, and an attachment whose last line begins at this place
abbrev pub attached_block : List ℕ → ℕ → ℕ → Block
attached_block text line end =
    record { header = take (line - 2) text; attachment = Some (undotted true (slice_range text (line + 1) end)) }

-- the first so many bytes of a text are a block
pub record IsFirst (form : Form) (text : List ℕ) (block : Block) (count : ℕ) : Type 0 where
  pub is_block : IsBlock form block
  pub cut : text ≡ spelled form block ++ drop count text
  pub count_is : length (spelled form block) ≡ count

-- what a text begins with in the plain form
abbrev pub IsSight : List ℕ → Sight → Type 0
IsSight text sight.NotYet = IsPartial Plain text
IsSight text sight.Bad = IsBad Plain text
IsSight text (sight.Line line) = IsFirst Plain text (line_block text line) (line + 1) × (line < length text)
IsSight text (sight.Attached line end) =
    IsFirst Plain text (attached_block text line end) (end + 2)
    × (2 ≤ line) × (line + 1 ≤ end) × (end + 2 ≤ length text)

-- what a text begins with in the framed form
abbrev pub IsFrameSight : List ℕ → FrameSight → Type 0
IsFrameSight text frame.NotYet = IsPartial Framed text
IsFrameSight text frame.Bad = IsBad Framed text
IsFrameSight text (frame.Whole len) =
    IsFirst Framed text (framed_block text len) (LENGTH_SIZE + len) × (LENGTH_SIZE + len ≤ length text)
