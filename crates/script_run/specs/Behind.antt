-- What is written behind a script's answers, and how its run ends.
use Rattle.std.specs.Prelude.{◌≡◌, ℕ, ◌<◌, ◌≤◌, Bool, if◌then◌else◌, List, [], ◌++◌, length, Option, Some, None, All}
use Rattle.std.specs.Io.KnownBytes.{Appends}
use Rattle.slurm_io.specs.Bytes.{AppendsFront}
use Rattle.slurm_io.specs.Faults.{CountsOne}
use Rattle.slurm_io.specs.Wire.{Wire}
use Rattle.job_table.specs.declared.record.JobRecord.{JobRecord}
use Rattle.saved_data.specs.Sizes.{longest_text}
use Rattle.saved_rules.specs.Rules.{TermsByRules}
use Rattle.state_save.specs.Saved as state
use Rattle.ctl_saved.specs.Saving.{saved_of}
use Rattle.ctl_state.specs.State.{State}
use Rattle.ctl_desk.specs.History.{History, present}
use Rattle.ctl_session.specs.declared.session.How.{How}
use Rattle.ctl_session.specs.declared.session.How.TheVariants.{Closed, Spent, WriteFault, Memory}
use Rattle.ctl_session.specs.Reading.{ReadsStay}
use Rattle.plain_data.specs.declared.period.Period.{Period}
use Rattle.sacct_book.specs.Lines.{lines}
use Rattle.sacct_book.specs.declared.window.Window.{Window}
use Rattle.script_run.specs.Script.{IsScript, script_history}

abbrev pub window_of : Period → Window
window_of period = record { from = period.from; until = period.until }

-- the lines of the sums of a period along a history, what runs being counted until its last moment
abbrev pub sums_text : Option Period → History → List ℕ
sums_text None h = []
sums_text (Some period) h = lines h (window_of period) (present h).moment

-- what a state's jobs ask for is by the rules of sbatch(1)
abbrev pub AreByRules : State → Type 0
AreByRules s = All (λ (job : JobRecord). TermsByRules job.terms) s.jobs

-- the text of a state
unfoldable pub saved_state : State → List ℕ
saved_state s = state.saved_text (saved_of s)

-- likewise where it is to be saved
abbrev pub saved_if : Bool → State → List ℕ
saved_if save s = if save then saved_state s else []

-- What is written behind a script's answers: the sums of a period, where some are asked for, and then the state, where it
-- is to be saved.
abbrev pub text_behind : Option Period → Bool → History → List ℕ
text_behind sacct save h = sums_text sacct h ++ saved_if save (present h)

-- all of a text was written, no write failed, and nothing was read
abbrev pub HasWritten : List ℕ → Wire → Wire → Type 0
HasWritten text old new = Appends old.taken new.taken text × (new.writes ≡ old.writes) × ReadsStay old new

-- a write failed, a beginning of a text was written, never all of it, and nothing was read
abbrev pub HasBegun : List ℕ → Wire → Wire → Type 0
HasBegun text old new = AppendsFront old.taken new.taken text × CountsOne old.writes new.writes × ReadsStay old new

-- what comes of writing a text
abbrev pub IsWrittenBehind : List ℕ → Wire → Wire → How → Type 0
IsWrittenBehind text old new Closed = HasWritten text old new
IsWrittenBehind text old new WriteFault = HasBegun text old new
IsWrittenBehind text old new how = ⊥

-- How a run ends behind a script's last answer, where this text is to be written, with this one of the state: it was
-- written, or a write of it failed; or the state's is longer than one may be, or memory was wanting, and nothing was.
abbrev pub IsEndBehind : List ℕ → List ℕ → Wire → Wire → How → Type 0
IsEndBehind text saved old new Closed = HasWritten text old new × (length saved ≤ longest_text)
IsEndBehind text saved old new WriteFault = HasBegun text old new
IsEndBehind text saved old new Spent = (longest_text < length saved) × (new ≡ old)
IsEndBehind text saved old new Memory = new ≡ old
IsEndBehind text saved old new how = ⊥

-- how a run goes on whose script ended so: only behind one that was answered to its end
abbrev pub GoesOnBehind : History → Option Period → Bool → Wire → Wire → How → How → Type 0
GoesOnBehind h sacct save old new Closed how =
    IsEndBehind (text_behind sacct save h) (saved_if save (present h)) old new how
GoesOnBehind h sacct save old new ended how = (how ≡ ended) × (new ≡ old)

-- The run of a script, from a state on, with what is asked for behind its answers: the script's own end, and what the link
-- was left with there; the history that it led to; and how the run went on.
pub record IsScriptRun (s : State) (sacct : Option Period) (save : Bool) (old new : Wire) (how : How) : Type 0 where
  pub answered : Wire
  pub ended : How
  pub script : IsScript s old answered ended
  pub behind : GoesOnBehind (script_history s script.read) sacct save answered new ended how
