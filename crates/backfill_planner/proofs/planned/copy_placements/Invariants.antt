use Rattle.std.proofs.Common.{◌≡◌, take}
use Rattle.backfill_planner.proofs.planned.copy_placements.Given as goal

-- the first placements are copied
abbrev pub invariant-loop-placed : goal.invariant-loop-placed
invariant-loop-placed l = l.copies.items ≡ take l.placed-index l.placements
