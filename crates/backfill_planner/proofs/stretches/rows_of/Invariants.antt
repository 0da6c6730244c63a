use Rattle.std.proofs.Common.{◌≡◌, map}
use Rattle.std.specs.List.{range_with_len}
use Rattle.backfill_planner.specs.Stretches.{stretches_of}
use Rattle.backfill_planner.proofs.stretches.rows_of.Given as goal

-- the rows so far
abbrev pub invariant-loop-node : goal.invariant-loop-node
invariant-loop-node l = map (λ row. row.items) l.rows.items ≡ map (λ node. stretches_of node l.times) (range_with_len 0 l.node)
