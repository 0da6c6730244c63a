-- Which ends a run may have that needs no files, and words that are off.
use Rattle.std.proofs.Common.{◌≡◌, ◌⊎◌, ℕ, Bool, List, Option, None, Some, IfSome, IfNone, Ok, inl, inr, refl, ap, subst, arith}
use Rattle.std.specs.Io.KnownBytes.{Appends}
use Rattle.slurm_io.specs.Faults.{CountsNone}
use Rattle.slurm_io.specs.Wire.{Wire}
use Rattle.ctl_session.specs.declared.session.How.{How}
use Rattle.ctl_session.specs.declared.session.How.TheVariants as how
use Rattle.generator.specs.Generated.{generated}
use Rattle.simulation.specs.Simulation.{Simulated, summary}
use Rattle.plain_data.specs.declared.period.Period.{Period}
use Rattle.program_words.specs.declared.call.Call.{Call}
use Rattle.plain_data.specs.Files.{Named}
use Rattle.program_words.specs.Asked.{Asked, asked_in}
use Rattle.program_words.specs.Asked as asks
use Rattle.slurm_net.specs.Host.{Hosting}
use Rattle.slurm_top.specs.Outside.{Outside, Beside}
use Rattle.slurm_top.specs.Calls as calls
use Rattle.slurm_top.specs.declared.call_end.CallEnd.{CallEnd}
use Rattle.slurm_top.specs.declared.call_end.CallEnd.TheVariants as call_end
use Rattle.slurm_top.specs.Lines.{status_of}
use Rattle.slurm_top.specs.Run.{Hosted, IsCallKnown, IsEnd, IsEndAsked, IsEndCalling, IsEndOff, IsEndOn, IsEndServing, IsEndSimulating, IsEndWriting}
use Rattle.slurm_top.specs.SimulatedCluster.{simulation_of}
use Rattle.slurm_top.specs.declared.end.End.{End}
use Rattle.slurm_top.specs.declared.end.End.TheVariants.{Usage, NoFile, BadFile, Memory, Script, Generated, WriteFault, Spent, Served, DoorFault, Called}
use Rattle.slurm_top.proofs.BadFiles.{has_no_other}
use Rattle.slurm_top.proofs.FileCauses.{asked_so}

-- the script that a number stands for is written whole, or memory is wanting
generated_by : (script : List ℕ) (old new : Wire) (end : End) → IsEndWriting script old new end
    → CountsNone old.writes new.writes
    → ((status_of end ≡ 0) × Appends old.taken new.taken script) ⊎ ((status_of end ≡ 8) × (new ≡ old))
generated_by script old new Usage ended none = absurd ended
generated_by script old new NoFile ended none = absurd ended
generated_by script old new (BadFile bad) ended none = absurd ended
generated_by script old new Memory ended none = inr (refl, ended)
generated_by script old new (Script how) ended none = absurd ended
generated_by script old new Generated ended none = inl (refl, ended.0)
generated_by script old new WriteFault ended none = absurd (omega (arith, ended.1.0, none.0, none.1))
generated_by script old new Spent ended none = absurd ended
generated_by script old new Served ended none = absurd ended
generated_by script old new DoorFault ended none = absurd ended
generated_by script old new (Called call) ended none = absurd ended

pub written : (words : List (List ℕ)) (host : Hosted) (old new : Outside) (beside beside' : Beside) (end : End) (number : ℕ)
    → IsEnd words host old new beside beside' end
    → asked_in words ≡ Some (asks.Generate number) → CountsNone old.wire.writes new.wire.writes
    → ((status_of end ≡ 0) × Appends old.wire.taken new.wire.taken (generated number))
    ⊎ ((status_of end ≡ 8) × (new.wire ≡ old.wire))
written words host old new beside beside' end number ended is none =
    generated_by (generated number) old.wire new.wire end
    (asked_so words (asks.Generate number) host old new beside beside' end ended is).0 none

-- a result is one of a kind alone
same_simulation : (number : ℕ) (sim other : Simulated) → simulation_of number ≡ Ok (Some sim)
    → simulation_of number ≡ Ok (Some other) → summary other.tally ≡ summary sim.tally
same_simulation number sim other one two =
    let same : other ≡ sim = cc (one, two) in
    ap (λ (s : Simulated). summary s.tally) same

-- the line that tells of the simulation of a number is written whole, or memory is wanting
summed_up : (number : ℕ) (sim : Simulated) (old new : Wire) (end : End) → IsEndSimulating number old new end
    → simulation_of number ≡ Ok (Some sim) → CountsNone old.writes new.writes
    → ((status_of end ≡ 0) × Appends old.taken new.taken (summary sim.tally)) ⊎ ((status_of end ≡ 8) × (new ≡ old))
summed_up number sim old new Usage ended is none = absurd ended
summed_up number sim old new NoFile ended is none = absurd ended
summed_up number sim old new (BadFile bad) ended is none = absurd ended
summed_up number sim old new Memory ended is none = inr (refl, ended)
summed_up number sim old new (Script how) ended is none = absurd ended
summed_up number sim old new Generated ended is none =
    inl (refl, subst (Appends old.taken new.taken) (same_simulation number sim ended.0 is ended.1) ended.2.0)
summed_up number sim old new WriteFault ended is none = absurd (omega (arith, ended.2.1.0, none.0, none.1))
summed_up number sim old new Spent ended is none = absurd (cc (ended.0, is))
summed_up number sim old new Served ended is none = absurd ended
summed_up number sim old new DoorFault ended is none = absurd ended
summed_up number sim old new (Called call) ended is none = absurd ended

-- where a job is left behind the last round the status says so, or memory is wanting
left_behind : (number : ℕ) (old new : Wire) (end : End) → IsEndSimulating number old new end
    → simulation_of number ≡ Ok None
    → ((status_of end ≡ 9) ⊎ (status_of end ≡ 8)) × (new ≡ old)
left_behind number old new Usage ended is = absurd ended
left_behind number old new NoFile ended is = absurd ended
left_behind number old new (BadFile bad) ended is = absurd ended
left_behind number old new Memory ended is = (inr refl, ended)
left_behind number old new (Script how) ended is = absurd ended
left_behind number old new Generated ended is = absurd (cc (ended.1, is))
left_behind number old new WriteFault ended is = absurd (cc (ended.1, is))
left_behind number old new Spent ended is = (inl refl, ended.1)
left_behind number old new Served ended is = absurd ended
left_behind number old new DoorFault ended is = absurd ended
left_behind number old new (Called call) ended is = absurd ended

-- it ends with its line, or because a job is left, or for want of memory
simulates_by : (number : ℕ) (old new : Wire) (end : End) → IsEndSimulating number old new end
    → CountsNone old.writes new.writes → (status_of end ≡ 0) ⊎ ((status_of end ≡ 9) ⊎ (status_of end ≡ 8))
simulates_by number old new Usage ended none = absurd ended
simulates_by number old new NoFile ended none = absurd ended
simulates_by number old new (BadFile bad) ended none = absurd ended
simulates_by number old new Memory ended none = inr (inr refl)
simulates_by number old new (Script how) ended none = absurd ended
simulates_by number old new Generated ended none = inl refl
simulates_by number old new WriteFault ended none = absurd (omega (arith, ended.2.1.0, none.0, none.1))
simulates_by number old new Spent ended none = inr (inl refl)
simulates_by number old new Served ended none = absurd ended
simulates_by number old new DoorFault ended none = absurd ended
simulates_by number old new (Called call) ended none = absurd ended

pub simulates : (words : List (List ℕ)) (host : Hosted) (old new : Outside) (beside beside' : Beside) (end : End)
    (number : ℕ) → IsEnd words host old new beside beside' end → asked_in words ≡ Some (asks.Simulate number)
    → CountsNone old.wire.writes new.wire.writes → (status_of end ≡ 0) ⊎ ((status_of end ≡ 9) ⊎ (status_of end ≡ 8))
simulates words host old new beside beside' end number ended is none =
    simulates_by number old.wire new.wire end
    (asked_so words (asks.Simulate number) host old new beside beside' end ended is).0 none

pub told : (words : List (List ℕ)) (host : Hosted) (old new : Outside) (beside beside' : Beside) (end : End) (number : ℕ)
    (sim : Simulated) → IsEnd words host old new beside beside' end → asked_in words ≡ Some (asks.Simulate number)
    → simulation_of number ≡ Ok (Some sim) → CountsNone old.wire.writes new.wire.writes
    → ((status_of end ≡ 0) × Appends old.wire.taken new.wire.taken (summary sim.tally))
    ⊎ ((status_of end ≡ 8) × (new.wire ≡ old.wire))
told words host old new beside beside' end number sim ended is_asked is none =
    summed_up number sim old.wire new.wire end
    (asked_so words (asks.Simulate number) host old new beside beside' end ended is_asked).0 is none

pub endless : (words : List (List ℕ)) (host : Hosted) (old new : Outside) (beside beside' : Beside) (end : End) (number : ℕ)
    → IsEnd words host old new beside beside' end → asked_in words ≡ Some (asks.Simulate number)
    → simulation_of number ≡ Ok None
    → ((status_of end ≡ 9) ⊎ (status_of end ≡ 8)) × (new.wire ≡ old.wire)
endless words host old new beside beside' end number ended is_asked is =
    left_behind number old.wire new.wire end
    (asked_so words (asks.Simulate number) host old new beside beside' end ended is_asked).0 is

-- ---- words that are off, and calls

-- no call ends as words do that are off
call_isnt_off : (old new : Outside) (host host' : Hosting) (end : CallEnd) → calls.IsDecided old new host host' end
    → calls.status_of end ≡ 2 → ⊥
call_isnt_off old new host host' (call_end.Replied status) decided e =
    let least = decided.is_status status refl in omega (arith, least, e)
call_isnt_off old new host host' call_end.ReadFault decided e = omega arith
call_isnt_off old new host host' call_end.WriteFault decided e = omega arith
call_isnt_off old new host host' call_end.BadReply decided e = omega arith
call_isnt_off old new host host' call_end.Memory decided e = omega arith
call_isnt_off old new host host' call_end.Spent decided e = omega arith
call_isnt_off old new host host' call_end.DoorFault decided e = omega arith

script_isnt_off : (end : How) → status_of (Script end) ≡ 2 → ⊥
script_isnt_off how.Closed e = omega arith
script_isnt_off how.Shut e = omega arith
script_isnt_off how.ReadFault e = omega arith
script_isnt_off how.WriteFault e = omega arith
script_isnt_off (how.Truncated place) e = omega arith
script_isnt_off (how.Bad place) e = omega arith
script_isnt_off how.Memory e = omega arith
script_isnt_off how.Spent e = omega arith

files_arent_off : (named : Named) (sacct : Option Period) (save : Bool) (old new : Outside) (end : End)
    → IsEndOn named sacct save old new end → status_of end ≡ 2 → ⊥
files_arent_off named sacct save old new Usage ended e = ended
files_arent_off named sacct save old new NoFile ended e = omega arith
files_arent_off named sacct save old new (BadFile bad) ended e = has_no_other bad 2 refl e
files_arent_off named sacct save old new Memory ended e = omega arith
files_arent_off named sacct save old new (Script how) ended e = script_isnt_off how e
files_arent_off named sacct save old new Generated ended e = ended
files_arent_off named sacct save old new WriteFault ended e = ended
files_arent_off named sacct save old new Spent ended e = ended
files_arent_off named sacct save old new Served ended e = ended
files_arent_off named sacct save old new DoorFault ended e = ended
files_arent_off named sacct save old new (Called call) ended e = ended

server_isnt_off : (named : Named) (port workers : ℕ) (save : Bool) (host : Hosted) (old new : Outside)
    (beside beside' : Beside) (end : End) → IsEndServing named port workers save host old new beside beside' end
    → status_of end ≡ 2 → ⊥
server_isnt_off named port workers save host old new beside beside' Usage ended e = ended.2
server_isnt_off named port workers save host old new beside beside' NoFile ended e = omega arith
server_isnt_off named port workers save host old new beside beside' (BadFile bad) ended e = has_no_other bad 2 refl e
server_isnt_off named port workers save host old new beside beside' Memory ended e = omega arith
server_isnt_off named port workers save host old new beside beside' (Script how) ended e = ended.2
server_isnt_off named port workers save host old new beside beside' Generated ended e = ended.2
server_isnt_off named port workers save host old new beside beside' WriteFault ended e = omega arith
server_isnt_off named port workers save host old new beside beside' Spent ended e = omega arith
server_isnt_off named port workers save host old new beside beside' Served ended e = omega arith
server_isnt_off named port workers save host old new beside beside' DoorFault ended e = omega arith
server_isnt_off named port workers save host old new beside beside' (Called call) ended e = ended.2

generated_isnt_off : (script : List ℕ) (old new : Wire) (end : End) → IsEndWriting script old new end
    → status_of end ≡ 2 → ⊥
generated_isnt_off script old new Usage ended e = ended
generated_isnt_off script old new NoFile ended e = ended
generated_isnt_off script old new (BadFile bad) ended e = ended
generated_isnt_off script old new Memory ended e = omega arith
generated_isnt_off script old new (Script how) ended e = ended
generated_isnt_off script old new Generated ended e = omega arith
generated_isnt_off script old new WriteFault ended e = omega arith
generated_isnt_off script old new Spent ended e = ended
generated_isnt_off script old new Served ended e = ended
generated_isnt_off script old new DoorFault ended e = ended
generated_isnt_off script old new (Called call) ended e = ended

simulated_isnt_off : (number : ℕ) (old new : Wire) (end : End) → IsEndSimulating number old new end
    → status_of end ≡ 2 → ⊥
simulated_isnt_off number old new Usage ended e = ended
simulated_isnt_off number old new NoFile ended e = ended
simulated_isnt_off number old new (BadFile bad) ended e = ended
simulated_isnt_off number old new Memory ended e = omega arith
simulated_isnt_off number old new (Script how) ended e = ended
simulated_isnt_off number old new Generated ended e = omega arith
simulated_isnt_off number old new WriteFault ended e = omega arith
simulated_isnt_off number old new Spent ended e = omega arith
simulated_isnt_off number old new Served ended e = ended
simulated_isnt_off number old new DoorFault ended e = ended
simulated_isnt_off number old new (Called call) ended e = ended

calling_isnt_off : (call : Call) (old new : Outside) (beside beside' : Beside) (end : End)
    → IsEndCalling call old new beside beside' end → status_of end ≡ 2 → ⊥
calling_isnt_off call old new beside beside' Usage ended e = ended
calling_isnt_off call old new beside beside' NoFile ended e = ended
calling_isnt_off call old new beside beside' (BadFile bad) ended e = ended
calling_isnt_off call old new beside beside' Memory ended e = omega arith
calling_isnt_off call old new beside beside' (Script how) ended e = ended
calling_isnt_off call old new beside beside' Generated ended e = ended
calling_isnt_off call old new beside beside' WriteFault ended e = ended
calling_isnt_off call old new beside beside' Spent ended e = ended
calling_isnt_off call old new beside beside' Served ended e = ended
calling_isnt_off call old new beside beside' DoorFault ended e = ended
calling_isnt_off call old new beside beside' (Called end) ended e =
    call_isnt_off old new beside.host beside'.host end ended.2 e

asked_isnt_off : (asked : Option Asked) (host : Hosted) (old new : Outside) (beside beside' : Beside) (end : End)
    → IfSome asked (λ one. IsEndAsked one host old new beside beside' end) → status_of end ≡ 2 → asked ≡ None
asked_isnt_off None host old new beside beside' end ended e = refl
asked_isnt_off (Some (asks.Script named sacct save)) host old new beside beside' end ended e =
    absurd (files_arent_off named sacct save old new end ended.0 e)
asked_isnt_off (Some (asks.Serve named port workers save)) host old new beside beside' end ended e =
    absurd (server_isnt_off named port workers save host old new beside beside' end ended e)
asked_isnt_off (Some (asks.Generate number)) host old new beside beside' end ended e =
    absurd (generated_isnt_off (generated number) old.wire new.wire end ended.0 e)
asked_isnt_off (Some (asks.Simulate number)) host old new beside beside' end ended e =
    absurd (simulated_isnt_off number old.wire new.wire end ended.0 e)
asked_isnt_off (Some (asks.Call call)) host old new beside beside' end ended e =
    absurd (calling_isnt_off call old new beside beside' end ended e)

-- the status of words that are off comes of these alone
pub only_off : (words : List (List ℕ)) (host : Hosted) (old new : Outside) (beside beside' : Beside) (end : End)
    → IsEnd words host old new beside beside' end → status_of end ≡ 2 → asked_in words ≡ None
only_off words host old new beside beside' end ended e =
    asked_isnt_off (asked_in words) host old new beside beside' end ended.on e

off_ends : (asked : Option Asked) (old new : Outside) (beside beside' : Beside) (end : End)
    → IfNone asked (IsEndOff end × (new ≡ old) × (beside' ≡ beside)) → asked ≡ None
    → (status_of end ≡ 2) ⊎ (status_of end ≡ 8)
off_ends None old new beside beside' end off is =
    elim off.0 [ inl usage ↦ inl (ap status_of usage) | inr memory ↦ inr (ap status_of memory) ]
off_ends (Some one) old new beside beside' end off is = absurd cc

-- and they come to that status, or to want of memory
pub off_so : (words : List (List ℕ)) (host : Hosted) (old new : Outside) (beside beside' : Beside) (end : End)
    → IsEnd words host old new beside beside' end → asked_in words ≡ None → (status_of end ≡ 2) ⊎ (status_of end ≡ 8)
off_so words host old new beside beside' end ended is =
    off_ends (asked_in words) old new beside beside' end ended.off is

known_by : (call : Call) (old new : Outside) (beside beside' : Beside) (end : End)
    → IsEndCalling call old new beside beside' end → IsCallKnown call old new beside.host beside'.host (status_of end)
known_by call old new beside beside' (Called end) ended =
    record { end = end; is_status = refl; caused = ended.1; decided = ended.2; spent = ended.3 }
known_by call old new beside beside' Memory ended = record {
  end = call_end.Memory;
  is_status = refl;
  caused = tt;
  decided = record {
    is_status = λ status e. absurd (cc);
    replied = λ left text status place told begins none. inr (inr refl);
    bad = λ left told off none. inr (inr refl);
    only_bad = λ left told e. absurd (cc);
    only_replied = λ left status told e. absurd (cc);
  };
  spent = record { told = λ long files reads. inr refl; only = λ e. absurd (cc) };
}
known_by call old new beside beside' Usage ended = absurd ended
known_by call old new beside beside' NoFile ended = absurd ended
known_by call old new beside beside' (BadFile bad) ended = absurd ended
known_by call old new beside beside' (Script how) ended = absurd ended
known_by call old new beside beside' Generated ended = absurd ended
known_by call old new beside beside' WriteFault ended = absurd ended
known_by call old new beside beside' Spent ended = absurd ended
known_by call old new beside beside' Served ended = absurd ended
known_by call old new beside beside' DoorFault ended = absurd ended

-- what is known of a call
pub call_known : (words : List (List ℕ)) (call : Call) (host : Hosted) (old new : Outside) (beside beside' : Beside)
    (end : End) → IsEnd words host old new beside beside' end → asked_in words ≡ Some (asks.Call call)
    → IsCallKnown call old new beside.host beside'.host (status_of end)
call_known words call host old new beside beside' end ended is =
    known_by call old new beside beside' end
    (asked_so words (asks.Call call) host old new beside beside' end ended is)
