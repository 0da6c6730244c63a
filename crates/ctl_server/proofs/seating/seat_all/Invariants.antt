use Rattle.std.proofs.Common.{◌≡◌, ◌+◌, ◌≤◌, All, vec_len, vec_capacity}
use Rattle.slurm_net.specs.Host.{IsNewDoor}
use Rattle.ctl_state.specs.State.{State}
use Rattle.ctl_server.specs.Parts.{BeganWith, IsReady, IsStill}
use Rattle.ctl_server.proofs.seating.seat_all.Given as goal

abbrev pub invariant-loop-door : goal.invariant-loop-door
invariant-loop-door g l = record {
  still : IsStill l.initial.pass l.pass;
  gates : vec_len l.gates ≡ vec_len l.doors;
  count : vec_len l.seats + vec_len l.doors ≡ vec_len l.initial.doors;
  room : vec_len l.initial.doors ≤ vec_capacity l.seats;
  new : All (λ door. IsNewDoor (g.A.Door.door_faults door) (g.A.Door.out door) (g.A.Door.sessions door)) l.doors.items;
  ready : (opening : State) → BeganWith opening l.initial.pass
      → All (IsReady l.lock g.A.Door.out g.A.Door.door_faults g.A.Door.sessions g.C.Clock.moments g.C.Clock.course opening
      (g.C.Clock.course l.clock)) l.seats.items;
}

abbrev pub decreases-loop-door : goal.decreases-loop-door
decreases-loop-door g l = vec_len l.doors
