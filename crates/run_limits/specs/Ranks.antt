-- Which user comes before which, and the rank that follows.
use Rattle.std.specs.Prelude.{ℕ, ◌-◌, ◌&&◌, ◌||◌, Bool, nat_lt, List, [], ◌∷◌, length, map, count_by, Some}
use Rattle.std.specs.List.{list_any}
use Rattle.std.specs.Ordering.{ordering_then, is_eq, is_gt}
use Rattle.std.specs.declared.cmp.Ordering.{Ordering}
use Rattle.std.specs.declared.cmp.Ordering.TheVariants.{Equal}
use Rattle.run_limits.specs.declared.tree.TreeNode.{TreeNode}
use Rattle.run_limits.specs.Levels.{Level, level_cmp}
use Rattle.run_limits.specs.Tree.{users, charges, usage_of, children_shares, path_of}

-- how two paths compare at the first place where they differ; Equal where there is none
abbrev pub parting : List Level → List Level → Ordering
parting [] other = Equal
parting one [] = Equal
parting (x ∷ one) (y ∷ other) = ordering_then (level_cmp x y) (parting one other)

-- one path is greater than another at the first place where they differ
abbrev pub is_greater : List Level → List Level → Bool
is_greater one other = is_gt (parting one other)

-- one path is a proper prefix of another
abbrev pub is_prefix : List Level → List Level → Bool
is_prefix one other = is_eq (parting one other) && nat_lt (length one) (length other)

-- Of all these paths, the user of one comes before that of another: his is greater, or a proper prefix of the other and
-- of a third that is greater than the other.
abbrev pub precedes : List (List Level) → List Level → List Level → Bool
precedes paths one other =
    is_greater one other
    || (is_prefix one other && list_any (λ third. is_prefix one third && is_greater third other) paths)

-- the rank of a path: the number of users less the number that come before
unfoldable pub rank_among : List (List Level) → List Level → ℕ
rank_among paths path = length paths - count_by (λ one. precedes paths one path) paths

-- the paths of all users
unfoldable pub paths_of : List TreeNode → List ℕ → List (List Level)
paths_of nodes usage =
    map
    (λ place. path_of (usage_of nodes (charges nodes usage)) (children_shares nodes) nodes (Some place))
    (users nodes)

-- the ranks of all users, in the order of the list
unfoldable pub ranks_of : List TreeNode → List ℕ → List ℕ
ranks_of nodes usage = map (rank_among (paths_of nodes usage)) (paths_of nodes usage)
