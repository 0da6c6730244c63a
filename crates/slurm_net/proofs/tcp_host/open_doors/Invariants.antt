use Rattle.std.proofs.Common.{◌≡◌, ◌≤◌, vec_len, vec_capacity, All, None}
use Rattle.slurm_net.specs.Host.{IsNewDoor}
use Rattle.slurm_net.specs.Untold.{untold_out}
use Rattle.slurm_net.proofs.tcp_host.open_doors.Given as goal

abbrev pub invariant-loop : goal.invariant-loop
invariant-loop g l = record {
  len : vec_len l.doors ≡ l.counter;
  room : l.workers ≤ vec_capacity l.doors;
  new : All (λ door. IsNewDoor door.faults (untold_out door.is_out) None) l.doors.items;
}
