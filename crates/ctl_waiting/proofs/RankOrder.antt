-- No rank is above the number of users.
use Rattle.std.proofs.Common.{◌≡◌, ℕ, ◌≤◌, List, length, map, get_or, slice_get, inl, inr, Option, None, Some, sym, ap, ◌∙◌, arith}
use Rattle.std.specs.Prelude.{All, option_and_then, unwrap_or}
use Rattle.std.proofs.lemmas.Bool.{cases_lt}
use Rattle.std.proofs.lemmas.List.{length-map, get_or_past}
use Rattle.std.proofs.lemmas.List.Elements.{All-map}
use Rattle.std.proofs.lemmas.Option.{unwrap_or-slice_get}
use Rattle.run_limits.specs.declared.tree.TreeNode.{TreeNode}
use Rattle.run_limits.specs.Levels.{Level}
use Rattle.run_limits.specs.Tree.{users}
use Rattle.run_limits.specs.Ranks.{rank_among, paths_of, ranks_of}
use Rattle.ctl_state.specs.State.{State}
use Rattle.ctl_waiting.specs.declared.factors.Factors.{Factors}
use Rattle.ctl_waiting.specs.Measured.{IsMeasured}
use Rattle.ctl_waiting.specs.Usage.{running_usage, usage_at}
use Rattle.ctl_waiting.specs.FairShare.{rank_at, tree_of, user_count, user_usage}
use Rattle.ctl_waiting.proofs.Charged.{used_in-low}
use Rattle.ctl_waiting.proofs.Users.{rank_in-behind}

rank_among-low : (paths : List (List Level)) (path : List Level) → rank_among paths path ≤ length paths
unfolding rank_among
rank_among-low paths path = omega arith

length-paths : (nodes : List TreeNode) (usage : List ℕ) → length (paths_of nodes usage) ≡ length (users nodes)
unfolding paths_of
length-paths nodes usage = length-map (users nodes) _

ranks-low : (nodes : List TreeNode) (usage : List ℕ) → All (λ rank. rank ≤ length (users nodes)) (ranks_of nodes usage)
unfolding ranks_of
ranks-low nodes usage =
    All-map (λ rank. rank ≤ length (users nodes)) (rank_among (paths_of nodes usage)) (paths_of nodes usage)
    (λ k d low. omega (arith, rank_among-low (paths_of nodes usage) (get_or (paths_of nodes usage) k d), length-paths nodes usage))

found-low : (most : ℕ) (ranks : List ℕ) → All (λ rank. rank ≤ most) ranks → (found : Option ℕ)
    → unwrap_or (option_and_then (slice_get ranks) found) 0 ≤ most
found-low most ranks all None = omega arith
found-low most ranks all (Some place) = elim (cases_lt place (length ranks)) [
  | inl low ↦ omega (arith, unwrap_or-slice_get ranks place 0, all place 0 low)
  | inr high ↦ omega (arith, unwrap_or-slice_get ranks place 0, get_or_past ranks place 0 high)
]

pub rank_at-low : (s : State) (now place : ℕ) → rank_at s now place ≤ user_count s
unfolding rank_at user_count
rank_at-low s now place =
    found-low (length (users (tree_of s.assocs))) (ranks_of (tree_of s.assocs) (user_usage s now))
    (ranks-low (tree_of s.assocs) (user_usage s now)) _

pub rank_at-behind : (s : State) (now place : ℕ) → length s.assocs ≤ place → rank_at s now place ≡ 0
unfolding rank_at
rank_at-behind s now place high =
    rank_in-behind (ranks_of (tree_of s.assocs) (user_usage s now)) s.assocs place high

-- what is measured has the rank of each place
pub rank-measured : (s : State) (factors : Factors) (place : ℕ) → IsMeasured s factors
    → get_or factors.ranks.items place 0 ≡ rank_at s factors.moment place
rank-measured s factors place measured = elim (cases_lt place (length s.assocs)) [
  | inl low ↦ measured.ranks place low
  | inr high ↦
      get_or_past factors.ranks.items place 0 (omega (arith, measured.len, high)) ∙ sym (rank_at-behind s factors.moment place high)
]

-- the ranks by what is found that each has used
pub ranks-are : (s : State) (now : ℕ) (usage : List ℕ) → ((place : ℕ) → get_or usage place 0 ≡ usage_at s now place)
    → (nodes : List TreeNode) (used : List ℕ) → nodes ≡ tree_of s.assocs
    → used ≡ map (λ place. get_or usage place 0) (users (tree_of s.assocs))
    → ranks_of nodes used ≡ ranks_of (tree_of s.assocs) (user_usage s now)
unfolding user_usage
ranks-are s now usage each nodes used is_tree is_used =
    ap (λ l. ranks_of l used) is_tree
    ∙ ap (ranks_of (tree_of s.assocs)) (is_used ∙ λ i. map (λ place. each place i) (users (tree_of s.assocs)))

pub usage_at-low : (s : State) (now place : ℕ) → usage_at s now place ≤ 4294967295
unfolding usage_at
usage_at-low s now place = used_in-low (slice_get s.usage place) (running_usage now s.jobs place)
