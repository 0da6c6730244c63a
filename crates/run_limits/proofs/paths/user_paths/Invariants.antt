use Rattle.std.proofs.Common.{◌≡◌, ◌≤◌, length, map, take, Some}
use Rattle.std.specs.Prelude.{All}
use Rattle.std.specs.List.{range_with_len}
use Rattle.run_limits.specs.declared.paths.Span.{Span}
use Rattle.run_limits.specs.Tree.{path_of}
use Rattle.run_limits.specs.Paths.{sum_at, path_in}
use Rattle.run_limits.proofs.paths.user_paths.Given as goal

-- the paths of the users so far, one behind another
abbrev pub invariant-loop-user : goal.invariant-loop-user
invariant-loop-user l = record {
  users : map (λ (span : Span). span.user) l.spans.items ≡ range_with_len 0 l.user;
  ends : All (λ (span : Span). span.end ≤ length l.levels.items) l.spans.items;
  paths : map (path_in l.levels.items) l.spans.items
      ≡ map (λ place. path_of (sum_at l.used) (sum_at l.shares) l.nodes (Some place)) (take l.user l.users);
}
