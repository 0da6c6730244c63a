-- The blocks that a call stands for, in the plain form: one for each of its moments.
use Rattle.std.specs.Prelude.{◌≡◌, ◌≢◌, ◌==◌, ◌&&◌, ◌-◌, ℕ, Bool, true, not, nat_lt, nat_le, is_some, if◌then◌else◌, List, [], ◌∷◌, ◌++◌, length, slice_get, unwrap_or, Option, Some, None, option_map, codes, decimal}
use Rattle.std.specs.List.{list_all, filter_map}
use Rattle.std.specs.Str.{byte}
use Rattle.line_words.specs.Words.{quoted_words}
use Rattle.block_frame.specs.Grammar.{header_line, is_marked}
use Rattle.block_frame.specs.LineFeeds.{is_line_feed}
use Rattle.block_frame.specs.declared.block.Block.{Block}
use Rattle.session_text.specs.Moments.{moments_of}
use Rattle.session_text.specs.declared.call.Call.{Call}
use Rattle.session_text.specs.declared.call.Script.{Script}
use Rattle.session_text.specs.declared.call.Script.TheVariants.{Absent, Named, Given}

-- a moment, a user and words, as a header has them
abbrev pub header_of : ℕ → List ℕ → List (List ℕ) → List ℕ
header_of moment user words = decimal moment ++ byte " " ∷ [] ++ user ++ byte " " ∷ [] ++ quoted_words words

abbrev pub last_byte : List ℕ → ℕ
last_byte text = unwrap_or (slice_get text (length text - 1)) (byte "\n")

-- a text, with an LF behind its last line where it lacks one
abbrev pub ended : List ℕ → List ℕ
ended text = text ++ (if is_line_feed (last_byte text) then [] else byte "\n" ∷ [])

-- a block with this header, and with this script where there is one
abbrev pub block_with : List ℕ → Option (List ℕ) → Block
block_with header None = record { header = header; attachment = None }
block_with header (Some script) = record { header = header ++ byte " " ∷ []; attachment = Some (ended script) }

-- a line that the plain form takes: whole, and with a mark behind it just where an attachment follows
abbrev pub is_plain_line : List ℕ → Bool → Bool
is_plain_line line has_script =
    list_all (λ b. not (is_line_feed b)) line && nat_lt 0 (length line) && nat_le (length line) 8192
    && (if has_script then is_marked line else not (is_marked line))

abbrev pub is_plain_script : Option (List ℕ) → Bool
is_plain_script None = true
is_plain_script (Some script) = nat_le (length script) 65_536 && is_line_feed (last_byte script)

-- a block that the plain form takes
unfoldable pub is_plain : Block → Bool
is_plain block = is_plain_line (header_line block) (is_some block.attachment) && is_plain_script block.attachment

-- The block of a call at a moment, where its line and its script are short enough.
unfoldable pub block_at : ℕ → List ℕ → List (List ℕ) → Option (List ℕ) → Option Block
block_at moment user words script =
    if is_plain (block_with (header_of moment user words) script)
    then Some (block_with (header_of moment user words) script)
    else None

-- the script of a call: nothing, the text of the file that it names, or what was given
abbrev pub script_in : Script → List ℕ → Option (List ℕ)
script_in Absent file = None
script_in (Named number) file = Some file
script_in (Given text) file = Some text

-- The blocks that a call stands for, where the file that it names has this text.
unfoldable pub blocks_of_call : Call → List ℕ → List Block
blocks_of_call call file =
    filter_map (λ moment. block_at moment call.user call.words (script_in call.script file)) (moments_of call.times)
