use Rattle.std.proofs.Common.{◌≡◌, ℕ, ◌-◌, ◌<◌, ◌≤◌, length, map, get_or, vec_len}
use Rattle.run_limits.specs.declared.paths.Span.{Span}
use Rattle.run_limits.specs.Ranks.{rank_among}
use Rattle.run_limits.specs.Paths.{path_in}
use Rattle.run_limits.proofs.Ranking.{StandsIn}
use Rattle.run_limits.proofs.order.ranks.Given as goal

-- the ranks of the users so far, and how many come before the last of them
abbrev pub invariant-loop-index : goal.invariant-loop-index
invariant-loop-index l = record {
  len : vec_len l.ranks ≡ length l.spans;
  low : l.ahead ≤ l.index;
  stands : 0 < l.index → StandsIn l.levels l.spans (l.index - 1) l.ahead;
  done : (k : ℕ) (d : Span) → k < l.index → get_or l.ranks.items (get_or l.spans k d).user 0
      ≡ rank_among (map (path_in l.levels) l.spans) (path_in l.levels (get_or l.spans k d));
}
