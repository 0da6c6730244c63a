-- The tree of associations, what each has used, and the path of levels down to it.
use Rattle.std.specs.Prelude.{ℕ, zero, suc, ◌≤◌, ◌<◌, ◌*◌, ◌^◌, ◌==◌, Bool, true, false, nat_eq, if◌then◌else◌, List, [], ◌∷◌, length, map, filter, reverse, sum_by, count_by, slice_get, All, IfSome, Option, None, Some, option_map, option_and_then, unwrap_or}
use Rattle.std.specs.List.{enumerate_from, zip, list_any}
use Rattle.run_limits.specs.declared.tree.TreeNode.{TreeNode}
use Rattle.run_limits.specs.Levels.{Level, Least, Fraction, Top}

-- one place is another; None is root
abbrev pub is_same_place : Option ℕ → Option ℕ → Bool
is_same_place None None = true
is_same_place (Some one) (Some other) = nat_eq one other
is_same_place one other = false

-- the place of the account that the association at a place belongs to
abbrev pub parent_at : List TreeNode → ℕ → Option ℕ
parent_at nodes place = option_and_then (λ (node : TreeNode). node.parent) (slice_get nodes place)

-- the shares of the association at a place
abbrev pub shares_at : List TreeNode → ℕ → ℕ
shares_at nodes place = unwrap_or (option_map (λ (node : TreeNode). node.shares) (slice_get nodes place)) 0

-- The places on the way up to root from a place, which is the first of them: no more than so many.
abbrev pub way_up : ℕ → List TreeNode → Option ℕ → List ℕ
way_up zero nodes at = []
way_up (suc most) nodes None = []
way_up (suc most) nodes (Some place) = place ∷ way_up most nodes (parent_at nodes place)

-- the association at a place is this one or stands somewhere below it, as all do below root
abbrev pub is_within : List TreeNode → Option ℕ → ℕ → Bool
is_within nodes None place = true
is_within nodes (Some account) place = list_any (nat_eq account) (way_up (length nodes) nodes (Some place))

-- the places of the users
abbrev pub users : List TreeNode → List ℕ
users nodes = map (λ one. one.0) (filter (λ (one : ℕ × TreeNode). one.1.user) (enumerate_from 0 nodes))

-- the place of each user with what he has used
abbrev pub charges : List TreeNode → List ℕ → List (ℕ × ℕ)
charges nodes usage = zip (users nodes) usage

-- the usage of an association: the sum over the users that it is or has below it
abbrev pub usage_of : List TreeNode → List (ℕ × ℕ) → Option ℕ → ℕ
usage_of nodes charges at = sum_by (λ (one : ℕ × ℕ). if is_within nodes at one.0 then one.1 else 0) charges

-- the sum of the shares of the children of root or of an account
abbrev pub children_shares : List TreeNode → Option ℕ → ℕ
children_shares nodes at = sum_by (λ (node : TreeNode). if is_same_place at node.parent then node.shares else 0) nodes

-- The Level FS of an association, by what each has used and by the sums of children's shares: its shares of its
-- siblings' shares, by its part of its parent's usage.
unfoldable pub level_of : (Option ℕ → ℕ) → (Option ℕ → ℕ) → List TreeNode → ℕ → Level
level_of usage shares nodes place =
    if shares_at nodes place == 0 then Least
    else (if usage (Some place) == 0 then Top
    else Fraction (record {
      num = shares_at nodes place * usage (parent_at nodes place);
      den = shares (parent_at nodes place) * usage (Some place);
    }))

-- the levels from root's child down to the association at a place
unfoldable pub path_of : (Option ℕ → ℕ) → (Option ℕ → ℕ) → List TreeNode → Option ℕ → List Level
path_of usage shares nodes at = reverse (map (level_of usage shares nodes) (way_up (length nodes) nodes at))

-- the limits of a tree: where parents stand, how many children one has, and how many shares
pub record IsTree (nodes : List TreeNode) : Type 0 where
  pub small : length nodes < 2 ^ 32
  pub parents : (place : ℕ) → IfSome (parent_at nodes place) (λ parent. parent < place)
  pub children : (at : Option ℕ) → count_by (λ (node : TreeNode). is_same_place at node.parent) nodes ≤ 256
  pub shares : All (λ (node : TreeNode). node.shares ≤ 65_535) nodes
