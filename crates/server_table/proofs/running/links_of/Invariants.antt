use Rattle.std.proofs.Common.{All, IfSome}
use Rattle.slurm_net.specs.Unused.{IsUnused}
use Rattle.server_table.proofs.running.links_of.Given as goal

-- none of the connections so far was used
abbrev pub invariant-loop-coming : goal.invariant-loop-coming
invariant-loop-coming l = All (λ link. IfSome link IsUnused) l.links.items
