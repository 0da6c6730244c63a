-- What a run of the program as a server leaves.
use Rattle.std.specs.Prelude.{◌≡◌, ◌⊎◌, ℕ, ◌<◌, ◌≤◌, Bool, true, List, ◌++◌, length, Option, IfSome, Result, Ok, Err}
use Rattle.slurm_io.specs.Faults.{CountsOne}
use Rattle.slurm_io.specs.Wire.{Wire}
use Rattle.slurm_net.specs.Course.{Course}
use Rattle.slurm_net.specs.Session.{LinkSession}
use Rattle.saved_data.specs.Sizes.{longest_text}
use Rattle.ctl_state.specs.State.{State}
use Rattle.ctl_desk.specs.History.{BookState, history_in, IsHistory, present}
use Rattle.ctl_server.specs.Line.{serving_line}
use Rattle.ctl_server.specs.Numbered.{AreServed}
use Rattle.script_run.specs.Behind.{HasBegun, HasWritten, saved_if}
use Rattle.slurm_top.specs.declared.end.End.{End}
use Rattle.slurm_top.specs.declared.end.End.TheVariants.{Memory, WriteFault, Spent, Served, DoorFault}

-- A cluster was served from this opening on, until a shutdown was accepted, and this is the book that was left. There is
-- one history, which the controller keeps; and where the host tells the sessions of the doors that were closed, there is
-- a list of them for each worker, and they are those of workers at that history.
pub record HasServed (opening : State) (workers : ℕ) (course : Option Course)
    (closed : Option (List (List LinkSession))) (book : BookState) : Type 0 where
  pub opens : book.opening ≡ opening
  pub history : IsHistory (history_in book)
  pub shut : (present (history_in book)).is_shut ≡ true
  pub lists : IfSome closed (λ lists. length lists ≡ workers)
  pub served : IfSome closed (λ lists. AreServed course book lists)

-- the text of the state that a server was left with, where it is to be saved
abbrev pub saved_by : Bool → BookState → List ℕ
saved_by save book = saved_if save (present (history_in book))

-- nothing was written, or the line that tells of the port
abbrev pub WritesAtMost : ℕ → Wire → Wire → Type 0
WritesAtMost port old new = (new ≡ old) ⊎ HasWritten (serving_line port) old new

-- What comes of serving a cluster at a port, from this opening on, by the program's link and the host's count of faults:
-- it was served until a shutdown, no door having failed, and the line that tells of the port was written, and behind the
-- shutdown the state, where it is to be saved; or the run ended before that, or was cut short.
abbrev pub IsServing : State → ℕ → ℕ → Bool → Option Course → Option (List (List LinkSession)) → Wire → Wire → ℕ → ℕ
    → End → Type 0
IsServing opening port workers save course closed old new hosts hosts' Served =
    (book : BookState) × HasServed opening workers course closed book
    × HasWritten (serving_line port ++ saved_by save book) old new × (length (saved_by save book) ≤ longest_text)
    × (hosts' ≡ hosts)
-- the line wasn't written whole, or the state wasn't
IsServing opening port workers save course closed old new hosts hosts' WriteFault =
    HasBegun (serving_line port) old new
    ⊎ ((book : BookState) × HasServed opening workers course closed book
    × HasBegun (serving_line port ++ saved_by save book) old new)
-- the state's text is longer than one may be, and wasn't written
IsServing opening port workers save course closed old new hosts hosts' Spent =
    (book : BookState) × HasServed opening workers course closed book × HasWritten (serving_line port) old new
    × (longest_text < length (saved_by save book))
-- the doors weren't opened, or one of them failed
IsServing opening port workers save course closed old new hosts hosts' DoorFault =
    CountsOne hosts hosts' × WritesAtMost port old new
-- memory was wanting
IsServing opening port workers save course closed old new hosts hosts' Memory = WritesAtMost port old new
IsServing opening port workers save course closed old new hosts hosts' end = ⊥

-- What comes of serving alone, before the state is saved: the book that was left, or the end of a run where none was.
abbrev pub IsServedUntil : State → ℕ → ℕ → Option Course → Option (List (List LinkSession)) → Wire → Wire → ℕ → ℕ
    → Result BookState End → Type 0
IsServedUntil opening port workers course closed old new hosts hosts' (Ok book) =
    HasServed opening workers course closed book × HasWritten (serving_line port) old new × (hosts' ≡ hosts)
IsServedUntil opening port workers course closed old new hosts hosts' (Err WriteFault) = HasBegun (serving_line port) old new
IsServedUntil opening port workers course closed old new hosts hosts' (Err DoorFault) =
    CountsOne hosts hosts' × WritesAtMost port old new
IsServedUntil opening port workers course closed old new hosts hosts' (Err Memory) = WritesAtMost port old new
IsServedUntil opening port workers course closed old new hosts hosts' (Err end) = ⊥

-- what comes of saving this text behind it
abbrev pub IsSavedBehind : List ℕ → Wire → Wire → End → Type 0
IsSavedBehind text old new Served = HasWritten text old new × (length text ≤ longest_text)
IsSavedBehind text old new WriteFault = HasBegun text old new
IsSavedBehind text old new Spent = (longest_text < length text) × (new ≡ old)
IsSavedBehind text old new Memory = new ≡ old
IsSavedBehind text old new end = ⊥
