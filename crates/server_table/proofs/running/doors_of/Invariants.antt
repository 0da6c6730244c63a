use Rattle.std.proofs.Common.{All}
use Rattle.slurm_net.specs.MemHost.{IsUnusedDoor}
use Rattle.server_table.proofs.running.doors_of.Given as goal

-- none of the doors so far was used
abbrev pub invariant-loop-door : goal.invariant-loop-door
invariant-loop-door l = All IsUnusedDoor l.made.items
