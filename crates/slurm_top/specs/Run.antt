-- What a run leaves, by what the program's words ask.
use Rattle.std.specs.Prelude.{◌≡◌, ◌⊎◌, ℕ, ◌<◌, ◌≤◌, Bool, Option, Some, None, IfSome, IfNone, IsSomeAnd, List, [], ◌++◌, length, Result, Ok, Err}
use Rattle.slurm_io.specs.Faults.{CountsOne}
use Rattle.slurm_io.specs.Shelf.{ShelfFile}
use Rattle.slurm_io.specs.Wire.{Wire}
use Rattle.slurm_net.specs.Course.{Course}
use Rattle.slurm_net.specs.Session.{LinkSession}
use Rattle.block_frame.specs.declared.form.Form.TheVariants.{Plain}
use Rattle.block_frame.specs.Grammar.{blocks_of, rest_of}
use Rattle.saved_data.specs.Sizes.{longest_text}
use Rattle.ctl_state.specs.State.{State}
use Rattle.ctl_desk.specs.History.{BookState, present}
use Rattle.ctl_server.specs.Line.{serving_line}
use Rattle.ctl_session.specs.declared.session.How.{How}
use Rattle.ctl_session.specs.Session.{most_blocks}
use Rattle.generator.specs.Generated.{generated}
use Rattle.plain_data.specs.declared.period.Period.{Period}
use Rattle.program_words.specs.declared.call.Call.{Call}
use Rattle.plain_data.specs.Files.{Named}
use Rattle.program_words.specs.Asked.{Asked, asked_in}
use Rattle.program_words.specs.Asked as asks
use Rattle.slurm_net.specs.Host.{Hosting}
use Rattle.slurm_top.specs.Outside.{Outside, Beside}
use Rattle.slurm_top.specs.Calls.{IsCaused, IsDecided, IsSpent}
use Rattle.slurm_top.specs.Calls as calls
use Rattle.slurm_top.specs.declared.call_end.CallEnd.{CallEnd}
use Rattle.simulation.specs.Simulation.{Simulated, summary}
use Rattle.cluster_opening.specs.declared.refusal.ClusterRefusal.{ClusterRefusal}
use Rattle.cluster_opening.specs.declared.refusal.ClusterRefusal.TheVariants as cluster
use Rattle.cluster_opening.specs.Files.{FilesOpen, Opens}
use Rattle.script_run.specs.Behind.{HasBegun, HasWritten, IsScriptRun, saved_if}
use Rattle.script_run.specs.Script.{script_history}
use Rattle.slurm_top.specs.declared.end.End.{End}
use Rattle.slurm_top.specs.declared.end.End.TheVariants.{Usage, NoFile, BadFile, Memory, Script, Generated, WriteFault, Spent, Called}
use Rattle.slurm_top.specs.declared.program.WordsFault.{WordsFault}
use Rattle.slurm_top.specs.declared.program.WordsFault.TheVariants.{NotText}
use Rattle.slurm_top.specs.declared.program.WordsFault.TheVariants as words
use Rattle.slurm_top.specs.Serving.{HasServed, IsServing, WritesAtMost, saved_by}
use Rattle.slurm_top.specs.SimulatedCluster.{simulation_of}

-- What a run leaves that has this end, where the cluster of the files of these names wasn't opened.
abbrev pub IsUnopened : Named → Outside → Outside → End → Type 0
-- a read of one of the files failed, and nothing but files was read or written
IsUnopened named old new NoFile = CountsOne old.faults new.faults × (new ≡ record old { faults = new.faults })
-- one of them is refused, and nothing but the files was read or written
IsUnopened named old new (BadFile bad) = Opens old.files named (Err (cluster.Bad bad)) × (new ≡ old)
IsUnopened named old new end = ⊥

-- a script was run on the cluster of the files of these names, with what is asked for behind it, and ended so
pub record Ran (old new : Outside) (named : Named) (sacct : Option Period) (save : Bool) (how : How) : Type 0 where
  pub opening : State
  pub opens : Opens old.files named (Ok opening)
  pub script : IsScriptRun opening sacct save old.wire new.wire how
  pub alone : new ≡ record old { wire = new.wire }

-- What a run leaves that has this end, where the words ask for a script on these files.
abbrev pub IsEndOn : Named → Option Period → Bool → Outside → Outside → End → Type 0
-- the script was run
IsEndOn named sacct save old new (Script how) = Ran old new named sacct save how
-- memory was wanting before it
IsEndOn named sacct save old new Memory = new ≡ old
IsEndOn named sacct save old new end = IsUnopened named old new end

-- What a run leaves of its link that has this end, where it was to write this script.
abbrev pub IsEndWriting : List ℕ → Wire → Wire → End → Type 0
-- all of the script was written, or a beginning of it
IsEndWriting script old new Generated = HasWritten script old new
IsEndWriting script old new WriteFault = HasBegun script old new
-- memory was wanting before the first write
IsEndWriting script old new Memory = new ≡ old
IsEndWriting script old new end = ⊥

-- What a run leaves of its link that has this end, where it was to tell of the simulation of a number.
abbrev pub IsEndSimulating : ℕ → Wire → Wire → End → Type 0
-- the line was written, or a write of it failed
IsEndSimulating number old new Generated =
    (sim : Simulated) × (simulation_of number ≡ Ok (Some sim)) × IsEndWriting (summary sim.tally) old new Generated
IsEndSimulating number old new WriteFault =
    (sim : Simulated) × (simulation_of number ≡ Ok (Some sim)) × IsEndWriting (summary sim.tally) old new WriteFault
-- a job was left behind the last round
IsEndSimulating number old new Spent = (simulation_of number ≡ Ok None) × (new ≡ old)
-- memory was wanting before the first write
IsEndSimulating number old new Memory = new ≡ old
IsEndSimulating number old new end = ⊥

-- What a run leaves that has this end, where it was to call a server.
abbrev pub IsEndCalling : Call → Outside → Outside → Beside → Beside → End → Type 0
-- the call ended so
IsEndCalling call old new beside beside' (Called end) =
    calls.IsEnd call old new beside beside' end × IsCaused old new beside.host beside'.host end
    × IsDecided old new beside.host beside'.host end × IsSpent call old new end
-- memory was wanting before anything was read
IsEndCalling call old new beside beside' Memory = (new ≡ old) × (beside' ≡ beside)
IsEndCalling call old new beside beside' end = ⊥

-- A server's host: the moments that its clock gives, and the sessions that it keeps of the doors which were closed, where
-- they are told.
pub record Hosted : Type 0 where
  pub course : Option Course
  pub closed : Option (List (List LinkSession))

abbrev pub hosted : Option Course → Option (List (List LinkSession)) → Hosted
hosted course closed = record { course = course; closed = closed }

-- of all that is beside it, a server's run touches the host's count of faults alone
abbrev pub StaysBeside : Beside → Beside → Type 0
StaysBeside beside beside' =
    beside' ≡ record beside { host = record beside.host { faults = beside'.host.faults } }

-- What a run leaves that has this end, where it was to serve the cluster of the files of these names.
abbrev pub IsEndServing : Named → ℕ → ℕ → Bool → Hosted → Outside → Outside → Beside → Beside → End → Type 0
-- memory was wanting, for opening the cluster or later
IsEndServing named port workers save host old new beside beside' Memory =
    WritesAtMost port old.wire new.wire × (new ≡ record old { wire = new.wire }) × StaysBeside beside beside'
-- the cluster wasn't opened
IsEndServing named port workers save host old new beside beside' NoFile =
    IsUnopened named old new NoFile × (beside' ≡ beside)
IsEndServing named port workers save host old new beside beside' (BadFile bad) =
    IsUnopened named old new (BadFile bad) × (beside' ≡ beside)
-- it was opened
IsEndServing named port workers save host old new beside beside' end =
    (opening : State) × Opens old.files named (Ok opening)
    × IsServing opening port workers save host.course host.closed old.wire new.wire beside.host.faults beside'.host.faults
    end
    × (new ≡ record old { wire = new.wire }) × StaysBeside beside beside'

-- what a server's run with status 0 leaves
abbrev pub HasEnded : Named → ℕ → ℕ → Bool → Hosted → Outside → Outside → Type 0
HasEnded named port workers save host old new =
    (opening : State) × Opens old.files named (Ok opening)
    × ((book : BookState) × HasServed opening workers host.course host.closed book
    × HasWritten (serving_line port ++ saved_by save book) old.wire new.wire
    × (length (saved_by save book) ≤ longest_text))

-- what one with status 9 leaves: the state that it was to save has too long a text
abbrev pub IsUnsaved : Named → ℕ → ℕ → Bool → Hosted → Outside → Outside → Type 0
IsUnsaved named port workers save host old new =
    (opening : State) × Opens old.files named (Ok opening)
    × ((book : BookState) × HasServed opening workers host.course host.closed book
    × HasWritten (serving_line port) old.wire new.wire × (longest_text < length (saved_by save book)))

-- What a run leaves that has this end, where the words ask this. What is asked by a number needs no file, and but for a
-- call and a server neither the errors nor the host are touched.
abbrev pub IsEndAsked : Asked → Hosted → Outside → Outside → Beside → Beside → End → Type 0
IsEndAsked (asks.Script named sacct save) host old new beside beside' end =
    IsEndOn named sacct save old new end × (beside' ≡ beside)
IsEndAsked (asks.Serve named port workers save) host old new beside beside' end =
    IsEndServing named port workers save host old new beside beside' end
IsEndAsked (asks.Generate number) host old new beside beside' end =
    IsEndWriting (generated number) old.wire new.wire end × (new ≡ record old { wire = new.wire }) × (beside' ≡ beside)
IsEndAsked (asks.Simulate number) host old new beside beside' end =
    IsEndSimulating number old.wire new.wire end × (new ≡ record old { wire = new.wire }) × (beside' ≡ beside)
IsEndAsked (asks.Call call) host old new beside beside' end = IsEndCalling call old new beside beside' end

-- the words are off, or memory was wanting for reading them
abbrev pub IsEndOff : End → Type 0
IsEndOff end = (end ≡ Usage) ⊎ (end ≡ Memory)

-- What a run with these words leaves that has this end. Where the words are off, the end is that, or want of memory, and
-- nothing was read or written.
pub record IsEnd (words : List (List ℕ)) (host : Hosted) (old new : Outside) (beside beside' : Beside) (end : End)
    : Type 0 where
  pub off : IfNone (asked_in words) (IsEndOff end × (new ≡ old) × (beside' ≡ beside))
  pub on : IfSome (asked_in words) (λ asked. IsEndAsked asked host old new beside beside' end)

-- What is known of a call by the status of its run: it is that of an end, which a count or the reply brought about, or
-- the length of the script or of the configuration.
pub record IsCallKnown (call : Call) (old new : Outside) (host host' : Hosting) (status : ℕ) : Type 0 where
  pub end : CallEnd
  pub is_status : status ≡ calls.status_of end
  pub caused : IsCaused old new host host' end
  pub decided : IsDecided old new host host' end
  pub spent : IsSpent call old new end

-- how a run ends where its words are not at hand
abbrev pub end_without_words : WordsFault → End
end_without_words NotText = Usage
end_without_words words.Memory = Memory

-- the files of the script or of the server that words ask for
abbrev pub files_asked : Option Asked → Option Named
files_asked (Some (asks.Script named sacct save)) = Some named
files_asked (Some (asks.Serve named port workers save)) = Some named
files_asked asked = None

-- the words name files, the shelf tells its files, and these open a cluster so: None is that one of them isn't there
abbrev pub Finds : List (List ℕ) → Option (List ShelfFile) → Option (Result State ClusterRefusal) → Type 0
Finds words told opened = IsSomeAnd (files_asked (asked_in words)) (λ named. FilesOpen told named opened)

-- what is left is told, and is whole blocks, no more than one session answers; and the state that they lead to, where it
-- is to be saved, has a text that isn't too long
abbrev pub IsWholeScript : State → Bool → Option (List ℕ) → Type 0
IsWholeScript opening save left =
    IsSomeAnd left (λ bytes. (rest_of Plain bytes ≡ []) × (length (blocks_of Plain bytes) ≤ most_blocks)
    × (length (saved_if save (present (script_history opening bytes))) ≤ longest_text))
