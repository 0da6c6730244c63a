-- What the code's sums, levels and paths stand for.
use Rattle.std.specs.Prelude.{ℕ, ◌≡◌, ◌<◌, ◌^◌, vec_len, Bool, ◌&&◌, nat_le, if◌then◌else◌, List, [], map, length, All, slice_index, slice_range, Option, Some, None}
use Rattle.std.specs.Ordering.{is_lt}
use Rattle.std.specs.Cmp.Lexicographic.{slice_cmp}
use Rattle.std.specs.declared.cmp.Ordering.{Ordering}
use Rattle.run_limits.specs.declared.tree.TreeNode.{TreeNode}
use Rattle.run_limits.specs.declared.sums.Sums.{Sums}
use Rattle.run_limits.specs.declared.level.LevelFs.{LevelFs}
use Rattle.run_limits.specs.declared.level.LevelFs.TheVariants as variants
use Rattle.run_limits.specs.declared.paths.Span.{Span}
use Rattle.run_limits.specs.Tree.{IsTree, children_shares}
use Rattle.run_limits.specs.Levels.{Level, Least, Fraction, Top, level_cmp}

-- the sum that is kept for root or a place
abbrev pub sum_at : Sums → Option ℕ → ℕ
sum_at sums None = sums.root
sum_at sums (Some place) = slice_index sums.places.items place

-- these are the sums of usage and of shares over a tree
pub record AreSums (nodes : List TreeNode) (used shares : Sums) : Type 0 where
  pub tree : IsTree nodes
  pub used_len : vec_len used.places ≡ length nodes
  pub shares_len : vec_len shares.places ≡ length nodes
  pub small : (at : Option ℕ) → sum_at used at < 2 ^ 44
  pub children : (at : Option ℕ) → sum_at shares at ≡ children_shares nodes at

-- the level that one of the code's stands for
abbrev pub seen : LevelFs → Level
seen variants.Least = Least
seen (variants.Fraction fraction) = Fraction fraction.ratio
seen variants.Top = Top

-- the part of the levels that a user's path is
abbrev pub levels_in : List LevelFs → Span → List LevelFs
levels_in levels span =
    if nat_le span.start span.end && nat_le span.end (length levels) then slice_range levels span.start span.end else []

-- the path of a user
abbrev pub path_in : List LevelFs → Span → List Level
path_in levels span = map seen (levels_in levels span)

-- the greater of two levels comes first
abbrev pub level_order : LevelFs → LevelFs → Ordering
level_order one other = level_cmp (seen other) (seen one)

-- the order of two paths in a walk down the tree: the greater first, and a path before those that go on from it
abbrev pub walk_cmp : List LevelFs → List LevelFs → Ordering
walk_cmp one other = slice_cmp level_order one other

-- of two users the one comes first
abbrev pub comes_first : List LevelFs → Span → Span → Bool
comes_first levels one other = is_lt (walk_cmp (levels_in levels one) (levels_in levels other))

-- no two are of one user
abbrev pub AreApart : List Span → Type 0
AreApart spans = All (λ (one : Span). All (λ (other : Span). one.user ≡ other.user → one ≡ other) spans) spans
