-- What a run of slurmd leaves, by how it ended.
use Rattle.std.specs.Prelude.{◌≡◌, ℕ, List, nat_lt, Option, Some, IfSome}
use Rattle.slurm_io.specs.Faults.{CountsOne}
use Rattle.slurm_io.specs.Wire.{Wire}
use Rattle.slurm_net.specs.Accepted.{IsNewLink}
use Rattle.slurm_net.specs.Host.{CountsIf, Hosting}
use Rattle.node_daemon.specs.Daemon.{Daemon, started}
use Rattle.slurmd_link.specs.Asked.{IsAsked}
use Rattle.slurmd_link.specs.Links.{IsLinked}
use Rattle.slurmd_link.specs.Turns.{scene}
use Rattle.slurmd_link.specs.declared.ending.SlurmdEnd.{SlurmdEnd}
use Rattle.slurmd_link.specs.declared.ending.SlurmdEnd.TheVariants as end
use Rattle.slurmd_link.specs.declared.link.LinkEnd.{LinkEnd}
use Rattle.slurmd_link.specs.declared.words.SlurmdWords.{SlurmdWords}

-- The outside of a run: the moments that its clock gave, where they are told, and its host.
pub record Outside : Type 0 where
  pub moments : Option (List ℕ)
  pub host : Hosting

abbrev pub outside : Option (List ℕ) → Hosting → Outside
outside moments host = record { moments = moments; host = host }

-- A link was dialled, new and with what the host had told to be left; over it a daemon that runs nothing made its turns;
-- and it was hung up: the host tells what it had taken, and counted it where a read or a write of it had failed.
pub record IsOver (asked : SlurmdWords) (old new : Outside) (linked : LinkEnd) : Type 0 where
  pub came : Wire
  pub went : Wire
  pub after : Daemon
  pub is_new : IsNewLink came
  pub left : IfSome old.host.next_left (λ bytes. came.left ≡ Some bytes)
  pub turned : IsLinked asked.user (scene came old.moments (started asked.node asked.boot)) (scene went new.moments after) asked.turns linked
  pub taken : IfSome new.host.last_taken (λ bytes. went.taken ≡ Some bytes)
  pub reads : CountsIf (nat_lt 0 went.reads) old.host.link_reads new.host.link_reads
  pub writes : CountsIf (nat_lt 0 went.writes) old.host.link_writes new.host.link_writes
  pub faults : new.host.faults ≡ old.host.faults

-- the host couldn't dial, and counted that alone
abbrev pub IsUndialled : Outside → Outside → Type 0
IsUndialled old new =
    CountsOne old.host.faults new.host.faults × (new ≡ record old { host = record old.host { faults = new.host.faults } })

-- what a run left of what was asked
abbrev pub HasRun : SlurmdWords → Outside → Outside → SlurmdEnd → Type 0
HasRun asked old new end.Usage = ⊥
HasRun asked old new end.DoorFault = IsUndialled old new
HasRun asked old new end.Memory = new ≡ old
HasRun asked old new (end.Linked linked) = IsOver asked old new linked

-- what a run left whose words were read
abbrev pub HasEnded : List (List ℕ) → Outside → Outside → SlurmdEnd → Type 0
HasEnded words old new end.Usage = ((asked : SlurmdWords) → ¬ IsAsked words asked) × (new ≡ old)
HasEnded words old new end.DoorFault = ((asked : SlurmdWords) × IsAsked words asked) × IsUndialled old new
HasEnded words old new end.Memory = new ≡ old
HasEnded words old new (end.Linked linked) = (asked : SlurmdWords) × IsAsked words asked × IsOver asked old new linked
