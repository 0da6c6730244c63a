-- A door in memory, as contracts see it, and what its calls make of it.
use Rattle.std.specs.Prelude.{ℕ, List, [], ◌∷◌, ◌++◌, drop, Option, Some, None, option_map, IfSome}
use Rattle.slurm_io.specs.Faults.{next_count}
use Rattle.slurm_io.specs.MemLink.{MemLinkState}
use Rattle.slurm_net.specs.Session.{LinkSession, session_of}
use Rattle.slurm_net.specs.Unused.{IsUnused, mem_wire, unused_wire}
use Rattle.slurm_net.specs.declared.coming.Coming.{Coming}
use Rattle.slurm_net.specs.declared.door.Cut.{Cut}
use Rattle.slurm_net.specs.declared.door.Accepted.{Accepted}
use Rattle.slurm_net.specs.declared.door.Accepted.TheVariants.{Came, Nobody}
use Rattle.slurm_net.specs.declared.mem_session.MemSession.{MemSession}

-- What is still to come, a link or nobody; the numbers of the calls that are to fail, how many calls there were, and how
-- many failed; the bytes that the link that is out had left when it came; and the sessions.
pub record MemDoorState : Type 0 where
  pub comes : List (Option MemLinkState)
  pub failing : List ℕ
  pub calls : ℕ
  pub faults : ℕ
  pub out : Option (List ℕ)
  pub sessions : List LinkSession

-- what a door tells of a link that is to come, and of a session that it keeps
abbrev pub told_coming : Option Coming → Option MemLinkState
told_coming coming = option_map (λ (it : Coming). it.link) coming

abbrev pub told_session : MemSession → LinkSession
told_session session = session_of (unused_wire session.left.items) (mem_wire session.link) session.cut

-- a link that is to come was not used yet
abbrev pub ComesUnused : Option MemLinkState → Type 0
ComesUnused coming = IfSome coming IsUnused

-- what the next call of `accept` gives that doesn't fail
abbrev pub next_accepted : List (Option MemLinkState) → Accepted MemLinkState
next_accepted [] = Nobody
next_accepted (None ∷ later) = Nobody
next_accepted (Some link ∷ later) = Came link

abbrev pub bytes_out : Accepted MemLinkState → Option (List ℕ)
bytes_out (Came link) = Some link.left
bytes_out Nobody = None

abbrev pub after_accept : MemDoorState → MemDoorState
after_accept door = record door {
  comes = drop 1 door.comes;
  calls = next_count door.calls;
  out = bytes_out (next_accepted door.comes);
}

abbrev pub after_accept_fault : MemDoorState → MemDoorState
after_accept_fault door = record door { calls = next_count door.calls; faults = next_count door.faults }

-- after a link was handed back that had these bytes left when it came
abbrev pub after_done : MemDoorState → List ℕ → MemLinkState → Cut → MemDoorState
after_done door left link cut =
    record door { out = None; sessions = door.sessions ++ session_of (unused_wire left) (mem_wire link) cut ∷ [] }
