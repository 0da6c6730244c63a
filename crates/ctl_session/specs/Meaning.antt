-- What a block asks, what it is told, and what it makes of a state.
use Rattle.std.specs.Prelude.{◌≡◌, ℕ, if◌then◌else◌, Option, Some, None, List}
use Rattle.block_frame.specs.declared.block.Block.{Block}
use Rattle.block_frame.specs.declared.form.Form.{Form}
use Rattle.block_frame.specs.declared.form.Form.TheVariants.{Plain, Framed}
use Rattle.block_frame.specs.Replies.{reply_frame}
use Rattle.command_words.specs.FramedHeader.{asked_at, framed_head_in}
use Rattle.command_words.specs.declared.framed.FramedHead.{FramedHead}
use Rattle.command_words.specs.declared.framed.FramedHead.TheVariants as head
use Rattle.command_words.specs.Header.{meaning_in}
use Rattle.command_words.specs.declared.header.Meaning.{Meaning}
use Rattle.command_words.specs.declared.header.Meaning.TheVariants.{Asks, Malformed, UnknownCommand, BadWords, BadHeader}
use Rattle.ctl_state.specs.State.{State}
use Rattle.ctl_core.specs.Step.{reply_of, state_after, is_entered}
use Rattle.ctl_desk.specs.declared.entry.Entry.{Entry}
use Rattle.ctl_desk.specs.History.{entry_of}
use Rattle.reply_data.specs.declared.reply.Reply.{Reply}
use Rattle.reply_data.specs.declared.reply.Reply.TheVariants.{Refused}
use Rattle.slurm_print.specs.Malformed.{malformed_text, unknown_command_text, bad_words_text, bad_header_text}
use Rattle.slurm_print.specs.Text.{text_of}

-- what a block of the plain form asks
abbrev pub meaning_of : Block → Meaning
meaning_of block = meaning_in block.header block.attachment

-- what the header of a block of the framed form says
abbrev pub head_of : Block → FramedHead
head_of block = framed_head_in block.header block.attachment

-- What a block of the framed form asks that has this attachment: its caller asks at the moment that the clock gave. For
-- a bad header the clock isn't read.
abbrev pub HeadMeans : Option (List ℕ) → FramedHead → Meaning → Option ℕ → Type 0
HeadMeans attachment (head.Calls caller) meaning moment =
    (at : ℕ) × (moment ≡ Some at) × (meaning ≡ asked_at caller at attachment)
HeadMeans attachment (head.BadWords place) meaning moment = (moment ≡ None) × (meaning ≡ BadWords place)
HeadMeans attachment head.BadHeader meaning moment = (moment ≡ None) × (meaning ≡ BadHeader)

-- What a block asks, and the moment that the clock gave for it, if it was read: in the plain form never.
abbrev pub Means : Form → Block → Meaning → Option ℕ → Type 0
Means Plain block meaning moment = (moment ≡ None) × (meaning ≡ meaning_of block)
Means Framed block meaning moment = HeadMeans block.attachment (head_of block) meaning moment

-- the text that it is told in a state
abbrev pub told : State → Meaning → List ℕ
told s (Asks asked) = text_of asked.request (reply_of s asked.moment asked.user asked.request)
told s (Malformed command fault) = malformed_text command fault
told s UnknownCommand = unknown_command_text
told s (BadWords place) = bad_words_text place
told s BadHeader = bad_header_text

abbrev pub status_by : Reply → ℕ
status_by (Refused refusal) = 1
status_by reply = 0

-- its status: 1 where it is refused or asks nothing
abbrev pub status_told : State → Meaning → ℕ
status_told s (Asks asked) = status_by (reply_of s asked.moment asked.user asked.request)
status_told s meaning = 1

-- the place that is told of an answer at a place of the history: 0 where nothing was asked
abbrev pub place_told : ℕ → Meaning → ℕ
place_told place (Asks asked) = place
place_told place meaning = 0

-- The bytes that answer it in a form, in a state and at a place of the history: the text, or its frame.
abbrev pub answer_in : Form → State → ℕ → Meaning → List ℕ
answer_in Plain s place meaning = told s meaning
answer_in Framed s place meaning = reply_frame (status_told s meaning) (place_told place meaning) (told s meaning)

-- the state behind it
abbrev pub state_behind : State → Meaning → State
state_behind s (Asks asked) = state_after s asked.moment asked.user asked.request
state_behind s meaning = s

-- the entry that a session of this number makes by it, if it is accepted
abbrev pub entry_made : State → ℕ → Meaning → Option Entry
entry_made s number (Asks asked) =
    if is_entered (reply_of s asked.moment asked.user asked.request)
    then Some (entry_of s number asked.moment asked.user asked.request)
    else None
entry_made s number meaning = None
