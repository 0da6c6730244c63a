use Rattle.std.proofs.Common.{◌≡◌, ◌≤◌, get_or, map, take}
use Rattle.std.specs.Prelude.{All}
use Rattle.run_limits.specs.Tree.{users}
use Rattle.ctl_waiting.specs.FairShare.{tree_of}
use Rattle.ctl_waiting.proofs.ranks.used_by_users.Given as goal

-- what the users so far have used
abbrev pub invariant-loop-place : goal.invariant-loop-place
invariant-loop-place l = record {
  value : l.used.items ≡ map (λ place. get_or l.usage place 0) (users (tree_of (take l.place l.assocs)));
  small : All (λ used. used ≤ 4294967295) l.used.items;
}
