-- One turn of a session: a line is read and worked, or the session ends.
use Rattle.std.specs.Prelude.{◌≡◌, ℕ, ◌+◌, Bool, true, false, ◌||◌, List, ◌++◌, Option, Result, Ok, Err}
use Rattle.std.specs.Io.KnownBytes.{Consumes}
use Rattle.session_talk.specs.Lines.{BeginsWithLine, IsFound}
use Rattle.session_talk.specs.declared.lines.Found.{Found}
use Rattle.ctl_state.specs.State.{State}
use Rattle.session_text.specs.Heard.{heard_in, reader_after}
use Rattle.session_text.specs.declared.reader.Reader.{Reader}
use Rattle.session_text.specs.Actions.{Line, actions_at_end, actions_in, is_quit}
use Rattle.session_text.specs.Scripts.{IsRead, file_named}
use Rattle.session_text.specs.CallTexts
use Rattle.session_text.specs.declared.input.Input.{Input}
use Rattle.session_talk.specs.Talk.{IsTalk, Post, Scene, Setting}
use Rattle.session_talk.specs.Working.{IsStopped, IsTold, IsWorked, Out, Works}
use Rattle.session_talk.specs.declared.fault.Fault.{Fault}
use Rattle.session_talk.specs.declared.fault.Fault.TheVariants as fault
use Rattle.session_talk.specs.declared.line.Turned.{Turned}
use Rattle.session_talk.specs.declared.session.Ended.{Ended}
use Rattle.session_talk.specs.declared.session.How.{How}
use Rattle.session_talk.specs.declared.session.How.TheVariants.{Closed, Quit, WriteFault, Memory}
use Rattle.session_talk.specs.declared.session.Session.{Session}
use Rattle.session_talk.specs.declared.session.Turn.{Turn}
use Rattle.session_talk.specs.declared.session.Turn.TheVariants as turn

abbrev pub post : Reader → ℕ → List ℕ → Bool → Post
post reader before pending wrong = record { reader = reader; before = before; pending = pending; wrong = wrong }

-- What becomes of reading a line, once it is shown where one is awaited: what was left and pending, how many reads
-- failed, and the output, before and after.
abbrev pub ReadsLine : Input → Option (List ℕ) → Option (List ℕ) → ℕ → ℕ → List ℕ → List ℕ → Out → Out
    → Result Found Fault → Type 0
ReadsLine input left left' reads reads' pending pending' old new (Ok found) =
    IsTold (CallTexts.before input) old new × IsFound left left' reads reads' pending pending' found
ReadsLine input left left' reads reads' pending pending' old new (Err kind) =
    IsStopped (CallTexts.before input) old new kind × (left' ≡ left) × (reads' ≡ reads) × (pending' ≡ pending)

-- the end of a session by its last work, which would end it so, behind lines of which something was wrong or not
abbrev pub ended_by : Result Bool Fault → How → Bool → Ended
ended_by (Ok own) how wrong = record { how = how; wrong = wrong || own }
ended_by (Err fault.Write) how wrong = record { how = WriteFault; wrong = wrong }
ended_by (Err fault.Memory) how wrong = record { how = Memory; wrong = wrong }

-- how a session goes on behind a line
abbrev pub behind_line : Bool → Turned → Bool → Turn
behind_line true turned wrong = turn.Ended (record { how = Quit; wrong = wrong || turned.wrong })
behind_line false turned wrong = turn.GoesOn (record { reader = turned.reader; wrong = wrong || turned.wrong })

abbrev pub turn_of : Result Turned Fault → Bool → Turn
turn_of (Ok turned) wrong = behind_line turned.quits turned wrong
turn_of (Err kind) wrong = turn.Ended (ended_by (Err kind) Quit wrong)

-- What becomes of the end of the input behind a turn that took its last line; one that ended the session leaves all as
-- it was.
abbrev pub EndsInput : List ℕ → Input → ℕ → Turn → Out → Out → Ended → Type 0
EndsInput name input number (turn.GoesOn session) old new ended =
    (last : Result Bool Fault) × (ended ≡ ended_by last Closed session.wrong)
    × ((s : State) → Works name (actions_at_end input session.reader number) s s old new last)
EndsInput name input number (turn.Ended before) old new ended = (ended ≡ before) × (new ≡ old)

-- where a session stands behind a line of which something was refused or wrong or not, with this pending
abbrev pub post_behind : Post → List ℕ → Bool → List ℕ → Post
post_behind at text own pending = post (reader_after at.reader text) (at.before + 1) pending (at.wrong || own)

-- a line was read and worked, and doesn't end the session
pub record TakesLine (how : Setting) (at at' : Post) (s s' : State) (old new : Scene) : Type 0 where
  pub line : Line
  pub read : List ℕ
  pub consumed : Consumes old.left new.left read
  pub begins : BeginsWithLine (at.pending ++ read) line.text at'.pending
  pub reads : new.reads ≡ old.reads
  pub file : IsRead how.files old.files new.files (file_named (heard_in at.reader line.text)) line.file
  pub own : Bool
  pub worked : IsWorked how.name (actions_in how.input at.reader (at.before + 1) line) s s' old.output new.output own
  pub goes_on : is_quit (heard_in at.reader line.text) ≡ false
  pub stands : at' ≡ post_behind at line.text own at'.pending

-- a turn of a session, behind which this is pending
abbrev pub IsTurn : Setting → Post → List ℕ → State → State → Scene → Scene → Turn → Type 0
IsTurn how at pending' s s' old new (turn.GoesOn session) =
    TakesLine how at (post session.reader (at.before + 1) pending' session.wrong) s s' old new
IsTurn how at pending' s s' old new (turn.Ended ended) = IsTalk how at s old new ended

-- What a turn makes of what was found in the input, by whatever that had left and pending, where a line was awaited.
abbrev pub TurnsBy : Setting → Session → ℕ → Found → State → State → ℕ → ℕ → Out → Out → Turn → Type 0
TurnsBy how session before found s s' files files' mid new result =
    (left left' : Option (List ℕ)) (reads reads' : ℕ) (pending pending' : List ℕ) (old : Out)
    → IsFound left left' reads reads' pending pending' found → IsTold (CallTexts.before how.input) old mid
    → IsTurn how (post session.reader before pending session.wrong) pending' s s'
    (record { left = left; reads = reads; output = old; files = files })
    (record { left = left'; reads = reads'; output = new; files = files' }) result
