-- What the header of a framed block says, and what its caller asks at a moment.
use Rattle.std.specs.Prelude.{ℕ, ◌||◌, Bool, false, nat_lt, if◌then◌else◌, List, drop, length, slice_get, Option, Some, None}
use Rattle.std.specs.Option.{option_map_or}
use Rattle.small_texts.specs.Options.{◌>>=◌}
use Rattle.line_words.specs.Words.{first_bad, words_in}
use Rattle.text_values.specs.Names.{name_in}
use Rattle.command_words.specs.Header.{asked_by}
use Rattle.command_words.specs.declared.framed.Caller.{Caller}
use Rattle.command_words.specs.declared.framed.FramedHead.{FramedHead}
use Rattle.command_words.specs.declared.framed.FramedHead.TheVariants.{Calls, BadWords, BadHeader}
use Rattle.command_words.specs.declared.header.Meaning.{Meaning}

-- A frame may have a header or an attachment that is too long.
abbrev pub is_too_long : List ℕ → Option (List ℕ) → Bool
is_too_long header attachment =
    nat_lt 8192 (length header) || option_map_or (λ bytes. nat_lt 65536 (length bytes)) attachment false

-- the user that the words begin with, and the words behind, where there are any
unfoldable pub caller_in : List (List ℕ) → Option Caller
caller_in words = do
  user ← slice_get words 0
  command ← slice_get words 1
  name ← name_in user
  Some (record { user = name; words = drop 1 words })

abbrev pub called_by : Option Caller → FramedHead
called_by None = BadHeader
called_by (Some caller) = Calls caller

abbrev pub unless_bad : Option ℕ → FramedHead → FramedHead
unless_bad None head = head
unless_bad (Some place) head = BadWords place

-- what a header says that isn't too long
unfoldable pub head_said : List ℕ → FramedHead
head_said header = unless_bad (first_bad header) (called_by (caller_in (words_in header)))

-- What the header of a block with this attachment says.
unfoldable pub framed_head_in : List ℕ → Option (List ℕ) → FramedHead
framed_head_in header attachment = if is_too_long header attachment then BadHeader else head_said header

-- what a caller asks at a moment
abbrev pub asked_at : Caller → ℕ → Option (List ℕ) → Meaning
asked_at caller moment attachment = asked_by (record { moment = moment; user = caller.user }) caller.words attachment
