-- How requests lie in a text: as blocks, one after the other. A form says how a block is spelled.
use Rattle.std.specs.Prelude.{◌≡◌, ◌≢◌, ◌&&◌, ℕ, zero, suc, ◌+◌, ◌-◌, ◌<◌, ◌≤◌, Bool, true, false, nat_eq, nat_lt, nat_le, if◌then◌else◌, List, [], ◌∷◌, ◌++◌, length, take, drop, All, Option, Some, None, is_some, IfSome, codes}
use Rattle.std.specs.List.{position_or_len, before_first, after_first, ends_with}
use Rattle.std.specs.Option.{option_map_or}
use Rattle.std.specs.Str.{byte}
use Rattle.block_frame.specs.declared.block.Block.{Block}
use Rattle.block_frame.specs.declared.form.Form.{Form}
use Rattle.block_frame.specs.declared.form.Form.TheVariants.{Plain, Framed}
use Rattle.block_frame.specs.declared.framed.TheConstants.{LENGTH_SIZE, MAX_CONTENT}
use Rattle.block_frame.specs.Attachments.{IsAttachment, attachment_lines, LineStart, Reading, Ended, Unended, Off, reading_at}
use Rattle.block_frame.specs.Frames.{IsFramedBlock, content_of, frame_of, announced, has_frame, framed_block}
use Rattle.block_frame.specs.LineFeeds.{is_line_feed}

-- A header line has 1 to 8,192 bytes, and no LF is among them.
pub record IsHeaderLine (line : List ℕ) : Type 0 where
  pub one_line : All (λ b. b ≢ byte "\n") line
  pub not_empty : 0 < length line
  pub fits : length line ≤ 8192

-- whether an attachment follows a header line
abbrev pub is_marked : List ℕ → Bool
is_marked line = ends_with nat_eq line (codes " <<")

-- the header line of a block: its header, and `<<` if an attachment follows
abbrev pub header_line : Block → List ℕ
header_line block = block.header ++ (if is_some block.attachment then codes "<<" else [])

-- what the plain form asks of a block
pub record IsPlainBlock (block : Block) : Type 0 where
  pub line : IsHeaderLine (header_line block)
  pub marked : is_marked (header_line block) ≡ is_some block.attachment
  pub attachment : IfSome block.attachment IsAttachment

-- what each form asks of a block
abbrev pub IsBlock : Form → Block → Type 0
IsBlock Plain block = IsPlainBlock block
IsBlock Framed block = IsFramedBlock block

-- the bytes of a block: the plain form ends the header line by LF, and a frame begins with its length
abbrev pub spelled : Form → Block → List ℕ
spelled Plain block = header_line block ++ byte "\n" ∷ attachment_lines block.attachment
spelled Framed block = frame_of (content_of block)

-- No block of any form has more bytes: a frame has so many. A plain block has up to 106,499: a header line, an
-- attachment of lines that are a dot each, and the line that ends it.
abbrev pub longest_block : ℕ
longest_block = LENGTH_SIZE + MAX_CONTENT

-- the bytes of blocks that follow one another
abbrev pub spelled_all : Form → List Block → List ℕ
spelled_all form [] = []
spelled_all form (block ∷ blocks) = spelled form block ++ spelled_all form blocks

-- a block, and what follows it
pub record BeginsWithBlock (form : Form) (text : List ℕ) : Type 0 where
  pub block : Block
  pub more : List ℕ
  pub is_block : IsBlock form block
  pub cut : text ≡ spelled form block ++ more

-- a proper prefix of a block; the empty text is one
pub record IsPartial (form : Form) (text : List ℕ) : Type 0 where
  pub block : Block
  pub more : List ℕ
  pub is_block : IsBlock form block
  pub cut : spelled form block ≡ text ++ more
  pub proper : 0 < length more

-- no text that begins so is blocks, whatever follows
pub record IsBad (form : Form) (text : List ℕ) : Type 0 where
  pub not_partial : ¬ IsPartial form text
  pub no_block : ¬ BeginsWithBlock form text

-- a line of this length is a header line, and stands before the end of a text of that length
abbrev pub is_header_len : ℕ → ℕ → Bool
is_header_len line text = nat_lt 0 line && nat_le line 8192 && nat_lt line text

-- the block of a header and what was read behind its line
abbrev pub with_attachment : List ℕ → Reading → Option Block
with_attachment header (Ended bytes) =
    if nat_le (length bytes) 65536 then Some (record { header = header; attachment = Some bytes }) else None
with_attachment header (Unended at bytes) = None
with_attachment header Off = None

-- the block of a header line, marked or not, and the text behind it
abbrev pub block_of : Bool → List ℕ → List ℕ → Option Block
block_of false line text = Some (record { header = line; attachment = None })
block_of true line text = with_attachment (take (length line - 2) line) (reading_at LineStart text)

-- the block that a text begins with
unfoldable pub first_block : Form → List ℕ → Option Block
first_block Plain text =
    if is_header_len (position_or_len is_line_feed text) (length text)
    then block_of (is_marked (before_first is_line_feed text)) (before_first is_line_feed text)
    (after_first is_line_feed text)
    else None
first_block Framed text =
    if has_frame (announced text) text then Some (framed_block text (announced text)) else None

-- the blocks that a text begins with, n of them at the most
unfoldable pub blocks_within : Form → ℕ → List ℕ → List Block
blocks_within form zero text = []
blocks_within form (suc n) text =
    option_map_or (λ block. block ∷ blocks_within form n (drop (length (spelled form block)) text))
    (first_block form text) []

-- the whole blocks that a text begins with
unfoldable pub blocks_of : Form → List ℕ → List Block
blocks_of form text = blocks_within form (length text) text

-- what follows them
unfoldable pub rest_of : Form → List ℕ → List ℕ
rest_of form text = drop (length (spelled_all form (blocks_of form text))) text
