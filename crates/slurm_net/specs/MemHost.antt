-- A host in memory, as contracts see it, and what its calls make of it.
use Rattle.std.specs.Prelude.{ℕ, List, [], ◌∷◌, drop, Option, Some, None, option_map, nat_lt, Bool}
use Rattle.std.specs.List.{list_any}
use Rattle.slurm_io.specs.Faults.{next_count}
use Rattle.slurm_io.specs.MemLink.{MemLinkState}
use Rattle.slurm_net.specs.Host.{IsNewDoor, count_if}
use Rattle.slurm_net.specs.MemDoor.{MemDoorState}
use Rattle.slurm_net.specs.Unused.{unused_wire}
use Rattle.slurm_net.specs.declared.host.ListenRefusal.{ListenRefusal}
use Rattle.slurm_net.specs.declared.host.ListenRefusal.TheVariants.{Failed, Memory}

-- The doors and the links that it has yet to give; the numbers of the calls that are to fail, and how many calls of
-- `listen` and `dial` there were; its three counts; the link that was hung up last, and the doors that were closed last.
pub record MemHostState : Type 0 where
  pub doors : List MemDoorState
  pub links : List MemLinkState
  pub failing : List ℕ
  pub calls : ℕ
  pub faults : ℕ
  pub link_reads : ℕ
  pub link_writes : ℕ
  pub last : Option MemLinkState
  pub closed : List MemDoorState

-- a door as it is made
abbrev pub IsUnusedDoor : MemDoorState → Type 0
IsUnusedDoor door = IsNewDoor door.faults (option_map unused_wire door.out) (Some door.sessions)

abbrev pub first_link : List MemLinkState → Option MemLinkState
first_link [] = None
first_link (link ∷ later) = Some link

abbrev pub any_failed : List MemDoorState → Bool
any_failed doors = list_any (λ (door : MemDoorState). nat_lt 0 door.faults) doors

abbrev pub after_listen : MemHostState → ℕ → MemHostState
after_listen host workers = record host { doors = drop workers host.doors; calls = next_count host.calls }

abbrev pub after_failed_call : MemHostState → MemHostState
after_failed_call host = record host { calls = next_count host.calls; faults = next_count host.faults }

abbrev pub after_refusal : MemHostState → ListenRefusal → MemHostState
after_refusal host Failed = after_failed_call host
after_refusal host Memory = record host { calls = next_count host.calls }

abbrev pub after_dial : MemHostState → MemHostState
after_dial host = record host { links = drop 1 host.links; calls = next_count host.calls }

abbrev pub after_close : MemHostState → List MemDoorState → MemHostState
after_close host doors = record host { closed = doors; faults = count_if (any_failed doors) host.faults }

abbrev pub after_hang_up : MemHostState → MemLinkState → MemHostState
after_hang_up host link = record host {
  last = Some link;
  link_reads = count_if (nat_lt 0 link.read_faults) host.link_reads;
  link_writes = count_if (nat_lt 0 link.write_faults) host.link_writes;
}
