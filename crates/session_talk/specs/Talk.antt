-- A session: the lines that it worked, what it told, and why it ended.
use Rattle.std.specs.Prelude.{◌≡◌, ◌⊎◌, ℕ, ◌+◌, ◌<◌, ◌≤◌, Bool, false, ◌||◌, List, [], ◌∷◌, ◌++◌, length, map, Option, None}
use Rattle.std.specs.Io.KnownBytes.{Consumes, IsAtEnd}
use Rattle.slurm_io.specs.Faults.{CountsOne}
use Rattle.slurm_io.specs.Shelf.{ShelfFile}
use Rattle.session_talk.specs.Lines.{HasOneLine, lines_of}
use Rattle.session_talk.specs.declared.lines.TheConstants.{LONGEST_LINE}
use Rattle.ctl_state.specs.State.{State}
use Rattle.session_text.specs.Heard.{heard_in, reader_after, reader_behind, first_reader}
use Rattle.session_text.specs.declared.reader.Heard.TheVariants as heard
use Rattle.session_text.specs.declared.reader.Reader.{Reader}
use Rattle.session_text.specs.Actions.{Action, Tells, Line, actions_of, actions_at_end, actions_too_long, is_quit}
use Rattle.session_text.specs.Scripts.{IsFileOf, IsRead, file_named}
use Rattle.session_text.specs.CallTexts.{before, shown}
use Rattle.session_text.specs.declared.input.Input.{Input}
use Rattle.session_talk.specs.Telling.{told_by}
use Rattle.session_talk.specs.Working.{IsStopped, IsWorked, Out, out}
use Rattle.session_talk.specs.declared.fault.Fault.{Fault}
use Rattle.session_talk.specs.declared.fault.Fault.TheVariants as fault
use Rattle.session_talk.specs.declared.session.Ended.{Ended}
use Rattle.session_talk.specs.declared.session.How.{How}
use Rattle.session_talk.specs.declared.session.How.TheVariants.{Closed, Quit, TooLong, Spent, ReadFault, WriteFault, Memory}
use Rattle.session_talk.specs.declared.session.TheConstants.{MOST_LINES}

-- What is outside a session: what is left of its input and how many reads of that failed, its output, and how many reads
-- of files failed.
pub record Scene : Type 0 where
  pub left : Option (List ℕ)
  pub reads : ℕ
  pub output : Out
  pub files : ℕ

abbrev pub scene : Option (List ℕ) → ℕ → Option (List ℕ) → ℕ → ℕ → Scene
scene left reads taken writes files =
    record { left = left; reads = reads; output = out taken writes; files = files }

-- How a session is told: the name of its file, where its lines come from, and the files that its shelf tells.
pub record Setting : Type 0 where
  pub name : List ℕ
  pub input : Input
  pub files : Option (List ShelfFile)

abbrev pub setting : List ℕ → Input → Option (List ShelfFile) → Setting
setting name input files = record { name = name; input = input; files = files }

-- Where a session stands: what stays of the lines before, how many these were, what was read behind them, and whether
-- anything of them was refused or wrong.
pub record Post : Type 0 where
  pub reader : Reader
  pub before : ℕ
  pub pending : List ℕ
  pub wrong : Bool

-- before the first line
abbrev pub first_post : Post
first_post = record { reader = first_reader; before = 0; pending = []; wrong = false }

abbrev pub texts : List Line → List (List ℕ)
texts lines = map (λ (line : Line). line.text) lines

-- what stays behind lines
abbrev pub reader_past : Reader → List Line → Reader
reader_past reader lines = reader_behind reader (texts lines)

-- the lines are the first ones of what was read, and this rest follows them
abbrev pub StartsWithLines : List ℕ → List Line → List ℕ → Type 0
StartsWithLines read lines rest = lines_of read ≡ texts lines ++ lines_of rest

-- no line of these ends the session
abbrev pub GoOn : Reader → List Line → Type 0
GoOn reader [] = Unit {0}
GoOn reader (line ∷ lines) =
    (is_quit (heard_in reader line.text) ≡ false) × GoOn (reader_after reader line.text) lines

-- what was read of the files that lines name, by the count of failed reads before and after
abbrev pub AreRead : Option (List ShelfFile) → Reader → ℕ → ℕ → List Line → Type 0
AreRead told reader before after [] = after ≡ before
AreRead told reader before after (line ∷ lines) =
    (count : ℕ) × IsRead told before count (file_named (heard_in reader line.text)) line.file
    × AreRead told (reader_after reader line.text) count after lines

-- the files of a line that was begun
abbrev pub AreFilesOf : Option (List ShelfFile) → Reader → List Line → Type 0
AreFilesOf told reader [] = Unit {0}
AreFilesOf told reader (line ∷ lines) = IsFileOf told (file_named (heard_in reader line.text)) line.file

-- The lines of a session: those that were worked whole, at most one that was begun then, what was read, and the rest of
-- it behind the lines.
pub record Talked : Type 0 where
  pub lines : List Line
  pub begun : List Line
  pub read : List ℕ
  pub rest : List ℕ

-- the actions of lines from where a session stands
abbrev pub actions_at : Setting → Post → List Line → List Action
actions_at how at lines = actions_of how.input at.reader (at.before + 1) lines

-- the actions of the end of the input behind them
abbrev pub closing_at : Setting → Post → List Line → List Action
closing_at how at lines = actions_at_end how.input (reader_past at.reader lines) (at.before + length lines)

-- the actions of a line that is too long behind them
abbrev pub too_long_at : Setting → Post → List Line → List Action
too_long_at how at lines = actions_too_long how.input (at.before + length lines + 1)

-- All lines were worked, and the actions that come behind them; `wrong` tells whether anything was refused or wrong.
pub record IsWhole (how : Setting) (at : Post) (s : State) (old new : Scene) (talked : Talked) (next : List Action)
    (wrong : Bool) : Type 0 where
  pub files : AreRead how.files at.reader old.files new.files talked.lines
  pub state : State
  pub own : Bool
  pub worked : IsWorked how.name (actions_at how at talked.lines ++ next) s state old.output new.output own
  pub wrong_is : wrong ≡ (at.wrong || own)

-- A fault came as lines, and the actions that come behind them, were worked and told.
pub record IsCut (how : Setting) (at : Post) (s : State) (old new : Scene) (talked : Talked) (kind : Fault) : Type 0 where
  pub short : length talked.begun ≤ 1
  pub count : ℕ
  pub files : AreRead how.files at.reader old.files count talked.lines
  pub file : AreFilesOf how.files (reader_past at.reader talked.lines) talked.begun
  pub reads : new.reads ≡ old.reads
  pub next : List Action
  pub follows : (next ≡ closing_at how at (talked.lines ++ talked.begun))
      ⊎ (next ≡ too_long_at how at (talked.lines ++ talked.begun))
  pub stopped : IsStopped (told_by how.name s (actions_at how at (talked.lines ++ talked.begun) ++ next))
      old.output new.output kind

-- Why a session ended.
abbrev pub IsEnd : Setting → Post → State → Scene → Scene → Talked → Bool → How → Type 0
-- the input ended, and the lines are all of it
IsEnd how at s old new talked wrong Closed =
    (talked.begun ≡ []) × (talked.rest ≡ []) × IsAtEnd new.left
    × (new.reads ≡ old.reads) × IsWhole how at s old new talked (closing_at how at talked.lines) wrong
-- a line says so
IsEnd how at s old new talked wrong Quit =
    ((line : List ℕ) × (talked.begun ≡ record { text = line; file = None } ∷ [])
    × (heard_in (reader_past at.reader talked.lines) line ≡ heard.Quit)
    × IsWhole how at s old new talked (Tells (shown how.input line) ∷ []) wrong)
    × (new.reads ≡ old.reads)
-- a line is longer than one may be
IsEnd how at s old new talked wrong TooLong =
    (talked.begun ≡ []) × HasOneLine talked.rest × (LONGEST_LINE < length talked.rest)
    × (new.reads ≡ old.reads) × IsWhole how at s old new talked (too_long_at how at talked.lines) wrong
-- as many lines were worked as a session may have
IsEnd how at s old new talked wrong Spent =
    (talked.begun ≡ []) × (at.before + length talked.lines ≡ MOST_LINES)
    × (new.reads ≡ old.reads) × IsWhole how at s old new talked [] wrong
-- a read failed
IsEnd how at s old new talked wrong ReadFault =
    (talked.begun ≡ []) × CountsOne old.reads new.reads
    × IsWhole how at s old new talked (Tells (before how.input) ∷ []) wrong
-- a write failed, or memory was wanting
IsEnd how at s old new talked wrong WriteFault = IsCut how at s old new talked fault.Write
IsEnd how at s old new talked wrong Memory = IsCut how at s old new talked fault.Memory

-- A session from where it stood to its end.
pub record IsTalk (how : Setting) (at : Post) (s : State) (old new : Scene) (ended : Ended) : Type 0 where
  pub talked : Talked
  pub consumed : Consumes old.left new.left talked.read
  pub first : StartsWithLines (at.pending ++ talked.read) (talked.lines ++ talked.begun) talked.rest
  pub goes_on : GoOn at.reader talked.lines
  pub end : IsEnd how at s old new talked ended.wrong ended.how
