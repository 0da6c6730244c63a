-- The links so far have not been used.
use Rattle.std.proofs.Common.{All, IfSome}
use Rattle.slurm_net.specs.Unused.{IsUnused}
use Rattle.script_table.proofs.outcome.links_of.Given as goal

abbrev pub invariant-loop-asked : goal.invariant-loop-asked
invariant-loop-asked l = All (λ link. IfSome link IsUnused) l.links.items
