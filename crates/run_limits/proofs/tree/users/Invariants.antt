use Rattle.std.proofs.Common.{◌≡◌, take}
use Rattle.run_limits.specs.Tree.{users}
use Rattle.run_limits.proofs.tree.users.Given as goal

-- the users so far
abbrev pub invariant-loop-place : goal.invariant-loop-place
invariant-loop-place l = l.users.items ≡ users (take l.place l.nodes)
