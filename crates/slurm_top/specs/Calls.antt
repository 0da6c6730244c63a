-- What a command that calls a server leaves, and how it ends.
use Rattle.std.specs.Prelude.{◌≡◌, ◌⊎◌, ℕ, ◌≤◌, List, nat_lt, Option, Some, None, IfSome, Result, Ok, Err}
use Rattle.slurm_io.specs.Faults.{CountsOne, CountsNone}
use Rattle.slurm_io.specs.Wire.{Wire}
use Rattle.slurm_io.specs.declared.source.Failed.{Failed}
use Rattle.slurm_net.specs.Accepted.{IsNewLink}
use Rattle.slurm_net.specs.Host.{CountsIf, Hosting}
use Rattle.block_frame.specs.declared.block.Block.{Block}
use Rattle.block_frame.specs.Replies.{BeginsWithReply}
use Rattle.slurm_client.specs.declared.called.Called.{Called}
use Rattle.slurm_client.specs.declared.called.Called.TheVariants as called
use Rattle.slurm_client.specs.Calling.{Sinks, sinks, IsCalled, Completes, HasNoReply}
use Rattle.slurm_client.specs.Requests.{request}
use Rattle.program_words.specs.declared.call.Call.{Call}
use Rattle.slurm_top.specs.declared.call_end.CallEnd.{CallEnd}
use Rattle.slurm_top.specs.declared.call_end.CallEnd.TheVariants.{Replied, ReadFault, WriteFault, BadReply, Memory, Spent, DoorFault}
use Rattle.slurm_top.specs.declared.refusal.ScriptRefusal.TheVariants as refusal
use Rattle.slurm_top.specs.Outside.{Outside, Beside}
use Rattle.slurm_top.specs.Scripts.{Place, IsScript, IsRefused, IsToldLong, IsLongWhereTold, script_place}

-- the status that a command ends with
abbrev pub status_of : CallEnd → ℕ
status_of (Replied status) = status
status_of ReadFault = 5
status_of WriteFault = 6
status_of BadReply = 7
status_of Memory = 8
status_of Spent = 9
status_of DoorFault = 10

-- how a call ends, by what became of it over its link
abbrev pub end_of : Called → CallEnd
end_of (called.Replied status) = Replied status
end_of called.ReadFault = ReadFault
end_of called.WriteFault = WriteFault
end_of called.BadReply = BadReply
end_of called.Memory = Memory

-- where the script of a call is
abbrev pub place_of : Call → Place
place_of call = script_place call.command call.words

-- what the output and the errors took, and the counts of both
abbrev pub told_by : Wire → Beside → Sinks
told_by own beside = sinks own.taken own.writes beside.errors beside.errors_faults

-- A link as it was dialled: it is new, and has left what the host told.
pub record IsDialled (host : Hosting) (came : Wire) : Type 0 where
  pub is_new : IsNewLink came
  pub left : IfSome host.next_left (λ bytes. came.left ≡ Some bytes)

-- A link was hung up: the host tells what it had taken, and counted it where a read or a write of it had failed.
pub record IsHungUp (went : Wire) (host host' : Hosting) : Type 0 where
  pub taken : IfSome host'.last_taken (λ bytes. went.taken ≡ Some bytes)
  pub reads : CountsIf (nat_lt 0 went.reads) host.link_reads host'.link_reads
  pub writes : CountsIf (nat_lt 0 went.writes) host.link_writes host'.link_writes
  pub faults : host'.faults ≡ host.faults

-- A link was dialled, over it a request was sent and the reply was read and written, and it was hung up: so it came, and
-- so it went. Of the program's own input nothing was read.
pub record IsOver (block : Block) (own own' : Wire) (beside beside' : Beside) (became : Called) : Type 0 where
  pub came : Wire
  pub went : Wire
  pub dialled : IsDialled beside.host came
  pub called : IsCalled block came went (told_by own beside) (told_by own' beside') became
  pub completes : Completes came went (told_by own beside) (told_by own' beside') became
  pub hung_up : IsHungUp went beside.host beside'.host
  pub input : (own'.left ≡ own.left) × (own'.reads ≡ own.reads)

-- The call was carried out: its script was read, and then the server was called.
pub record IsCarriedOut (call : Call) (old new : Outside) (beside beside' : Beside) (became : Called) : Type 0 where
  pub script : Option (List ℕ)
  pub mid : Outside
  pub is_script : IsScript (place_of call) old mid script
  pub over : IsOver (request call.user call.words script) mid.wire new.wire beside beside' became
  pub kept : new ≡ record mid { wire = new.wire }

-- the host couldn't dial, and nothing was told
abbrev pub IsUndialled : Beside → Beside → Type 0
IsUndialled beside beside' =
    CountsOne beside.host.faults beside'.host.faults
    × (beside' ≡ record beside { host = record beside.host { faults = beside'.host.faults } })

-- what became of a request: the server was called, or the host couldn't dial
abbrev pub IsCall : Block → Wire → Wire → Beside → Beside → Result Called Failed → Type 0
IsCall block own own' beside beside' (Ok became) = IsOver block own own' beside beside' became
IsCall block own own' beside beside' (Err failed) = (own' ≡ own) × IsUndialled beside beside'

-- What a call leaves that ended so.
abbrev pub IsEnd : Call → Outside → Outside → Beside → Beside → CallEnd → Type 0
IsEnd call old new beside beside' (Replied status) = IsCarriedOut call old new beside beside' (called.Replied status)
-- a read of the script failed, or one of the link
IsEnd call old new beside beside' ReadFault =
    (IsRefused (place_of call) old new refusal.ReadFault × (beside' ≡ beside))
    ⊎ IsCarriedOut call old new beside beside' called.ReadFault
IsEnd call old new beside beside' WriteFault = IsCarriedOut call old new beside beside' called.WriteFault
IsEnd call old new beside beside' BadReply = IsCarriedOut call old new beside beside' called.BadReply
IsEnd call old new beside beside' Memory =
    (IsRefused (place_of call) old new refusal.Memory × (beside' ≡ beside))
    ⊎ IsCarriedOut call old new beside beside' called.Memory
-- the script is too long, and no server was called
IsEnd call old new beside beside' Spent = IsRefused (place_of call) old new refusal.TooLong × (beside' ≡ beside)
-- the script was read, and no link was dialled
IsEnd call old new beside beside' DoorFault =
    ((script : Option (List ℕ)) × IsScript (place_of call) old new script) × IsUndialled beside beside'

-- Which counts rose where a call ended so.
abbrev pub IsCaused : Outside → Outside → Hosting → Hosting → CallEnd → Type 0
IsCaused old new host host' ReadFault =
    CountsOne old.faults new.faults ⊎ (CountsOne old.wire.reads new.wire.reads ⊎ CountsOne host.link_reads host'.link_reads)
IsCaused old new host host' WriteFault =
    CountsOne old.wire.writes new.wire.writes ⊎ CountsOne host.link_writes host'.link_writes
IsCaused old new host host' DoorFault = CountsOne host.faults host'.faults
IsCaused old new host host' end = Unit {0}

-- no count rose
pub record IsFaultless (old new : Outside) (host host' : Hosting) : Type 0 where
  pub files : CountsNone old.faults new.faults
  pub reads : CountsNone old.wire.reads new.wire.reads
  pub writes : CountsNone old.wire.writes new.wire.writes
  pub dials : CountsNone host.faults host'.faults
  pub link_reads : CountsNone host.link_reads host'.link_reads
  pub link_writes : CountsNone host.link_writes host'.link_writes

-- one of two ends, or memory was wanting
abbrev pub IsOneOf : CallEnd → CallEnd → CallEnd → Type 0
IsOneOf one other end = (end ≡ one) ⊎ ((end ≡ other) ⊎ (end ≡ Memory))

-- A reply's status is 0 or 1. Where the host tells what the link has left: such a call ends by the reply frame that this
-- begins with, or as a bad reply where it begins with none, unless a count rises, the script is too long or memory is
-- wanting; and it ends so only there.
pub record IsDecided (old new : Outside) (host host' : Hosting) (end : CallEnd) : Type 0 where
  pub is_status : (status : ℕ) → end ≡ Replied status → status ≤ 1
  pub replied : (left text : List ℕ) (status place : ℕ) → host.next_left ≡ Some left
      → BeginsWithReply left status place text → IsFaultless old new host host' → IsOneOf (Replied status) Spent end
  pub bad : (left : List ℕ) → host.next_left ≡ Some left → HasNoReply left → IsFaultless old new host host'
      → IsOneOf BadReply Spent end
  pub only_bad : (left : List ℕ) → host.next_left ≡ Some left → end ≡ BadReply → HasNoReply left
  pub only_replied : (left : List ℕ) (status : ℕ) → host.next_left ≡ Some left → end ≡ Replied status
      → (place : ℕ) × (text : List ℕ) × BeginsWithReply left status place text

-- Where the shelf or the input tells that the script is too long, the call ends as spent, unless a count rises or memory
-- is wanting; and it ends so only of a script that is too long.
pub record IsSpent (call : Call) (old new : Outside) (end : CallEnd) : Type 0 where
  pub told : IsToldLong (place_of call) old → CountsNone old.faults new.faults
      → CountsNone old.wire.reads new.wire.reads → (end ≡ Spent) ⊎ (end ≡ Memory)
  pub only : end ≡ Spent → IsLongWhereTold (place_of call) old
