-- Frames: blocks that begin with their length (own).
use Rattle.std.specs.Prelude.{◌≢◌, ◌&&◌, ℕ, ◌+◌, ◌<◌, ◌≤◌, Bool, nat_eq, nat_lt, nat_le, if◌then◌else◌, List, [], ◌∷◌, ◌++◌, length, take, drop, All, Option, Some, None}
use Rattle.std.specs.Int.{w32, to_be_bytes, from_be_bytes}
use Rattle.std.specs.List.{position_or_len, before_first, starts_with}
use Rattle.std.specs.Str.{byte}
use Rattle.block_frame.specs.declared.block.Block.{Block}
use Rattle.block_frame.specs.declared.framed.TheConstants.{LENGTH_SIZE, MAX_CONTENT}
use Rattle.block_frame.specs.LineFeeds.{is_line_feed}

-- what a frame has behind its header: an LF and the attachment, where there is one
abbrev pub behind_header : Option (List ℕ) → List ℕ
behind_header None = []
behind_header (Some bytes) = byte "\n" ∷ bytes

-- what a frame has behind its length
abbrev pub content_of : Block → List ℕ
content_of block = block.header ++ behind_header block.attachment

-- the block of a request with this header and attachment
abbrev pub request_of : List ℕ → Option (List ℕ) → Block
request_of header attachment = record { header = header; attachment = attachment }

-- What the framed form asks of a block: no LF is in its header, and its content has 1 to 131,072 bytes.
pub record IsFramedBlock (block : Block) : Type 0 where
  pub one_line : All (λ b. b ≢ byte "\n") block.header
  pub not_empty : 0 < length (content_of block)
  pub fits : length (content_of block) ≤ MAX_CONTENT

-- the four bytes of a length, the greatest first
unfoldable pub length_bytes : ℕ → List ℕ
length_bytes len = to_be_bytes w32 len

-- the bytes of a frame with this content
abbrev pub frame_of : List ℕ → List ℕ
frame_of content = length_bytes (length content) ++ content

-- the length that a text begins with; bytes that aren't there count as 0
unfoldable pub announced : List ℕ → ℕ
announced text = from_be_bytes w32 text

-- what follows a content's first line of this length, where an LF ends it
abbrev pub behind_line : List ℕ → ℕ → Option (List ℕ)
behind_line content line = if nat_lt line (length content) then Some (drop (line + 1) content) else None

-- the block of a frame's content, which is cut at its first LF
abbrev pub block_of_content : List ℕ → Block
block_of_content content = record {
  header = before_first is_line_feed content;
  attachment = behind_line content (position_or_len is_line_feed content);
}

-- a text begins with the bytes of this length, which a frame may have, and has so many bytes behind them
abbrev pub has_frame : ℕ → List ℕ → Bool
has_frame len text =
    starts_with nat_eq text (length_bytes len) && nat_lt 0 len && nat_le len MAX_CONTENT
    && nat_le (LENGTH_SIZE + len) (length text)

-- the block of so many bytes behind the length
abbrev pub framed_block : List ℕ → ℕ → Block
framed_block text len = block_of_content (take len (drop LENGTH_SIZE text))
