-- The placements so far have moved.
use Rattle.std.proofs.Common.{◌≡◌}
use Rattle.job_table.specs.Walks.{walked}
use Rattle.ctl_reconfigure.specs.Moving.{placed_moved}
use Rattle.ctl_reconfigure.proofs.moves.move_each.Given as goal

abbrev pub invariant-loop-placed : goal.invariant-loop-placed
invariant-loop-placed l = l.plan ≡ walked (placed_moved l.places) l.placed-index l.fn.plan
