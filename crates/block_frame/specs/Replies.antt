-- Replies in the framed form: a status, a place and a text (own).
use Rattle.std.specs.Prelude.{◌≡◌, ℕ, ◌^◌, ◌<◌, ◌≤◌, nat_le, if◌then◌else◌, List, ◌∷◌, ◌++◌, length, codes}
use Rattle.std.specs.Int.{w64, to_be_bytes, from_be_bytes}
use Rattle.block_frame.specs.declared.replies.TheConstants.{MAX_REPLY_TEXT}
use Rattle.block_frame.specs.Frames.{frame_of}

-- the eight bytes of a place, the greatest first
unfoldable pub place_bytes : ℕ → List ℕ
place_bytes place = to_be_bytes w64 place

-- the place that a text begins with; bytes that aren't there count as 0
unfoldable pub place_said : List ℕ → ℕ
place_said text = from_be_bytes w64 text

-- the frame of a status in one byte, a place in eight, and a text
abbrev pub framed_reply : ℕ → ℕ → List ℕ → List ℕ
framed_reply status place text = frame_of (status ∷ (place_bytes place ++ text))

-- what is said in place of a text that is too long
unfoldable pub too_long : List ℕ
too_long = codes "slurm: error: ReplyTooLong\n"

-- the frame of a reply; where its text is too long it has another text, and status 1
abbrev pub reply_frame : ℕ → ℕ → List ℕ → List ℕ
reply_frame status place text =
    if nat_le (length text) MAX_REPLY_TEXT then framed_reply status place text else framed_reply 1 place too_long

-- A text is the frame of this reply, and nothing more. A status is 0 or 1.
pub record IsReply (bytes : List ℕ) (status place : ℕ) (text : List ℕ) : Type 0 where
  pub cut : bytes ≡ framed_reply status place text
  pub is_status : status ≤ 1
  pub is_place : place < 2 ^ 64
  pub fits : length text ≤ MAX_REPLY_TEXT

-- a reply frame, and what follows it
pub record BeginsWithReply (bytes : List ℕ) (status place : ℕ) (text : List ℕ) : Type 0 where
  pub frame : List ℕ
  pub more : List ℕ
  pub is_reply : IsReply frame status place text
  pub cut : bytes ≡ frame ++ more
