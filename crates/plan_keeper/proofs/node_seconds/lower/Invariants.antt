use Rattle.std.proofs.Common.{◌≡◌, ◌<◌, ℕ, min, cond, get_or, length, take}
use Rattle.plan_keeper.specs.Kept.{has_part}
use Rattle.plan_keeper.proofs.node_seconds.lower.Given as goal

-- the first parts have lowered those of their nodes
abbrev pub invariant-loop-part : goal.invariant-loop-part
invariant-loop-part l = record {
  long : length l.seconds.items ≡ length l.fn.seconds.items;
  each : (node : ℕ) → node < length l.fn.seconds.items → get_or l.seconds.items node 0 ≡ cond (has_part node (take l.part-index l.parts)) (min l.second (get_or l.fn.seconds.items node 0)) (get_or l.fn.seconds.items node 0);
}
