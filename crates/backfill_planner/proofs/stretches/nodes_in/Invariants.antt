use Rattle.std.proofs.Common.{◌≡◌, ℕ, take}
use Rattle.std.specs.List.{list_any}
use Rattle.plain_data.specs.Rows.{has_id}
use Rattle.backfill_planner.specs.declared.job.Barred.{Barred}
use Rattle.backfill_planner.proofs.stretches.nodes_in.Given as goal

-- the nodes of the times so far
abbrev pub invariant-loop-time : goal.invariant-loop-time
invariant-loop-time l = (node : ℕ) → has_id l.nodes node ≡ list_any (λ (time : Barred). has_id time.nodes node) (take l.time-index l.times)
