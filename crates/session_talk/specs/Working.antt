-- What is written as actions are worked.
use Rattle.std.specs.Prelude.{◌≡◌, ℕ, Bool, List, ◌∷◌, ◌++◌, Option, Result, Ok, Err}
use Rattle.std.specs.Io.KnownBytes.{Appends}
use Rattle.slurm_io.specs.Faults.{CountsOne}
use Rattle.slurm_io.specs.Shelf.{ShelfFile}
use Rattle.ctl_state.specs.State.{State}
use Rattle.session_text.specs.Heard.{heard_in, reader_after}
use Rattle.session_text.specs.declared.reader.Heard.{Heard}
use Rattle.session_text.specs.declared.reader.Reader.{Reader}
use Rattle.session_text.specs.Actions.{Action, Tells, Line, actions_heard, is_quit}
use Rattle.session_text.specs.Scripts.{IsFileOf, IsRead, file_named}
use Rattle.session_text.specs.CallTexts.{behind}
use Rattle.session_text.specs.declared.input.Input.{Input}
use Rattle.session_talk.specs.Telling.{told_by, state_by, wrong_by}
use Rattle.session_talk.specs.declared.fault.Fault.{Fault}
use Rattle.session_talk.specs.declared.fault.Fault.TheVariants as fault
use Rattle.session_talk.specs.declared.line.Turned.{Turned}

-- an output: the bytes that it has taken, where it tells them, and how many of its writes failed
pub record Out : Type 0 where
  pub taken : Option (List ℕ)
  pub faults : ℕ

abbrev pub out : Option (List ℕ) → ℕ → Out
out taken faults = record { taken = taken; faults = faults }

-- an output took a beginning of a text
pub record Begins (old new : Out) (text : List ℕ) : Type 0 where
  pub front : List ℕ
  pub rest : List ℕ
  pub cut : text ≡ front ++ rest
  pub written : Appends old.taken new.taken front

-- a write that failed is counted, and want of memory isn't
abbrev pub IsCounted : Fault → Out → Out → Type 0
IsCounted fault.Write old new = CountsOne old.faults new.faults
IsCounted fault.Memory old new = new.faults ≡ old.faults

-- a fault came as a text was told
pub record IsStopped (text : List ℕ) (old new : Out) (kind : Fault) : Type 0 where
  pub begins : Begins old new text
  pub counted : IsCounted kind old new

-- a text was told
pub record IsTold (text : List ℕ) (old new : Out) : Type 0 where
  pub written : Appends old.taken new.taken text
  pub faults : new.faults ≡ old.faults

-- what becomes of telling a text
abbrev pub Writes : {T : Type 0} → List ℕ → Out → Out → Result T Fault → Type 0
Writes text old new (Ok done) = IsTold text old new
Writes text old new (Err kind) = IsStopped text old new kind

-- actions were worked from a state to another, and told; whether any was refused or wrong
pub record IsWorked (name : List ℕ) (actions : List Action) (s s' : State) (old new : Out) (wrong : Bool)
    : Type 0 where
  pub told : IsTold (told_by name s actions) old new
  pub state : s' ≡ state_by s actions
  pub wrong_is : wrong ≡ wrong_by s actions

-- what becomes of working them
abbrev pub Works : List ℕ → List Action → State → State → Out → Out → Result Bool Fault → Type 0
Works name actions s s' old new (Ok wrong) = IsWorked name actions s s' old new wrong
Works name actions s s' old new (Err kind) = IsStopped (told_by name s actions) old new kind

-- what becomes of what is heard in a line, whose file is read where it names one
abbrev pub WorksHeard : Option (List ShelfFile) → ℕ → ℕ → List ℕ → ℕ → Heard → State → State → Out → Out
    → Result Bool Fault → Type 0
WorksHeard told before after name number heard s s' old new (Ok wrong) =
    (file : Option (List ℕ)) × IsRead told before after (file_named heard) file
    × IsWorked name (actions_heard number file heard) s s' old new wrong
WorksHeard told before after name number heard s s' old new (Err kind) =
    (file : Option (List ℕ)) × IsFileOf told (file_named heard) file
    × IsStopped (told_by name s (actions_heard number file heard)) old new kind

-- What becomes of what is heard in a line behind which this stays: what is left then, and whether the session ends.
abbrev pub WorksTurned : Option (List ShelfFile) → ℕ → ℕ → List ℕ → ℕ → Reader → Heard → State → State → Out → Out
    → Result Turned Fault → Type 0
WorksTurned told before after name number reader heard s s' old new (Ok turned) =
    (file : Option (List ℕ)) × IsRead told before after (file_named heard) file
    × IsWorked name (actions_heard number file heard) s s' old new turned.wrong
    × (turned.reader ≡ reader) × (turned.quits ≡ is_quit heard)
WorksTurned told before after name number reader heard s s' old new (Err kind) =
    (file : Option (List ℕ)) × IsFileOf told (file_named heard) file
    × IsStopped (told_by name s (actions_heard number file heard)) old new kind

-- what was written once a line was read, behind what was written before
abbrev pub actions_behind : Input → Reader → ℕ → Line → List Action
actions_behind input reader number line =
    Tells (behind input line.text) ∷ actions_heard number line.file (heard_in reader line.text)

-- What becomes of a line that was read: what stays behind it, and whether it ends the session.
abbrev pub WorksLine : Option (List ShelfFile) → ℕ → ℕ → List ℕ → Input → ℕ → Reader → List ℕ → State → State → Out → Out
    → Result Turned Fault → Type 0
WorksLine told before after name input number reader text s s' old new (Ok turned) =
    (file : Option (List ℕ)) × IsRead told before after (file_named (heard_in reader text)) file
    × IsWorked name (actions_behind input reader number (record { text = text; file = file })) s s' old new turned.wrong
    × (turned.reader ≡ reader_after reader text) × (turned.quits ≡ is_quit (heard_in reader text))
WorksLine told before after name input number reader text s s' old new (Err kind) =
    (file : Option (List ℕ)) × IsFileOf told (file_named (heard_in reader text)) file
    × IsStopped (told_by name s (actions_behind input reader number (record { text = text; file = file }))) old new kind
