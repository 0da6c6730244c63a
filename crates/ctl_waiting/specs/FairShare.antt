-- The ranks of users by what they have used of their shares.
use Rattle.std.specs.Prelude.{ℕ, nat_eq, unwrap_or, List, length, map, position, slice_get, option_and_then}
use Rattle.run_limits.specs.declared.record.AssocRecord.{AssocRecord}
use Rattle.run_limits.specs.declared.tree.TreeNode.{TreeNode}
use Rattle.run_limits.specs.Tree.{users}
use Rattle.run_limits.specs.Ranks.{ranks_of}
use Rattle.ctl_state.specs.State.{State}
use Rattle.ctl_waiting.specs.Usage.{usage_at}

-- an association in the tree of shares
abbrev pub node_of : AssocRecord → TreeNode
node_of assoc = record { parent = assoc.conf.parent; shares = assoc.conf.shares; user = assoc.conf.user }

-- the tree of shares, in the order of the associations
unfoldable pub tree_of : List AssocRecord → List TreeNode
tree_of assocs = map node_of assocs

-- what each user has used of each account, in the order of the associations
unfoldable pub user_usage : State → ℕ → List ℕ
user_usage s now = map (usage_at s now) (users (tree_of s.assocs))

-- how many associations are of users
unfoldable pub user_count : State → ℕ
user_count s = length (users (tree_of s.assocs))

-- the rank of the user of the association at a place
unfoldable pub rank_at : State → ℕ → ℕ → ℕ
rank_at s now place =
    unwrap_or
    (option_and_then (slice_get (ranks_of (tree_of s.assocs) (user_usage s now)))
    (position (nat_eq place) (users (tree_of s.assocs))))
    0
