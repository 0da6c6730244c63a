use Rattle.std.proofs.Common.{◌≡◌, ◌-◌, take, sum}
use Rattle.backfill_planner.proofs.empty_nodes.gives_all.Given as goal

-- how many tasks those so far leave
abbrev pub invariant-loop-given : goal.invariant-loop-given
invariant-loop-given l = l.wanting ≡ l.tasks - sum (take l.given-index l.caps)
