-- The ranks in the order of the list, from those in the order of the walk.
use Rattle.std.proofs.Common.{◌≡◌, ℕ, ◌+◌, ◌<◌, zero-add, Bool, true, false, cond, List, [], ◌∷◌, length, map, get_or, filter, refl, sym, ap, ◌∙◌, arith, Option, Some, Result, Ok, Err}
use Rattle.std.specs.Prelude.{All, count_by, IsPermutation, IfOk, ◌&&◌, ◌||◌}
use Rattle.std.specs.List.{range_with_len, enumerate_from}
use Rattle.std.proofs.lemmas.List.{length-map, get_or_default}
use Rattle.std.proofs.lemmas.List.FromFn.{get_or-range_with_len}
use Rattle.std.proofs.lemmas.List.Sums.{sum_by-cons}
use Rattle.std.proofs.lemmas.List.Sorted.{All-permutation, length_permutation, IsPermutation-sym, IsPermutation-map, sum_by-IsPermutation, list_any-IsPermutation}
use Rattle.std.proofs.lemmas.Grind.{same_number_lists}
use Rattle.std.proofs.Math.ListN.{get_or-map}
use Rattle.run_limits.specs.declared.tree.TreeNode.{TreeNode}
use Rattle.run_limits.specs.declared.level.LevelFs.{LevelFs}
use Rattle.run_limits.specs.declared.paths.Span.{Span}
use Rattle.run_limits.specs.Levels.{Level}
use Rattle.run_limits.specs.Tree.{users, charges, usage_of, children_shares, path_of}
use Rattle.run_limits.specs.Ranks.{is_greater, is_prefix, precedes, rank_among, paths_of, ranks_of}
use Rattle.run_limits.specs.Paths.{path_in, AreApart}
use Rattle.run_limits.proofs.Ranking.{nowhere}

-- one number of users for each that the list has
pub length-users : (nodes : List TreeNode) → length (users nodes) ≡ count_by (λ (node : TreeNode). node.user) nodes
length-users nodes = counted 0 nodes
  where
    counted : (n : ℕ) (some : List TreeNode) → length (map (λ one. one.0) (filter (λ (one : ℕ × TreeNode). one.1.user) (enumerate_from n some)))
        ≡ count_by (λ (node : TreeNode). node.user) some
    counted n [] = refl
    counted n (node ∷ some) =
        step node.user _ (counted (n + 1) some) ∙ sym (sum_by-cons (λ (node : TreeNode). cond node.user 1 0) node some)
      where
        step : (b : Bool) (l : List (ℕ × TreeNode)) → length (map (λ one. one.0) l) ≡ count_by (λ (node : TreeNode). node.user) some
            → length (map (λ one. one.0) (cond b ((n, node) ∷ l) l)) ≡ cond b 1 0 + count_by (λ (node : TreeNode). node.user) some
        step true l e = omega (arith, e)
        step false l e = omega (arith, e)

-- a rank doesn't depend on the order of the paths
rank_among-permutation : (xs ys : List (List Level)) (path : List Level) → IsPermutation xs ys → rank_among ys path ≡ rank_among xs path
unfolding rank_among
rank_among-permutation xs ys path moved =
    let same : (one : List Level) → precedes ys one path ≡ precedes xs one path = λ one.
    ap (λ b. is_greater one path || (is_prefix one path && b)) (sym (list_any-IsPermutation (λ third. is_prefix one third && is_greater third path) xs ys moved)) in
    let count : count_by (λ one. precedes ys one path) ys ≡ count_by (λ one. precedes xs one path) xs =
    (λ i. count_by (λ one. same one i) ys) ∙ sum_by-IsPermutation (λ one. cond (precedes xs one path) 1 0) xs ys moved in
    rw (count, length_permutation xs ys moved) refl

module _ (spans sorted : List Span) (numbered : map (λ (span : Span). span.user) spans ≡ range_with_len 0 (length spans)) (moved : IsPermutation spans sorted) where
  user-at : (k : ℕ) (d : Span) → k < length spans → (get_or spans k d).user ≡ k
  user-at k d low =
      sym (get_or-map (λ (span : Span). span.user) spans k d) ∙ ap (λ l. get_or l k d.user) numbered
      ∙ get_or-range_with_len 0 (length spans) k d.user low ∙ zero-add k

  pub users-low : All (λ (span : Span). span.user < length sorted) sorted
  users-low = All-permutation (λ (span : Span). span.user < length sorted) spans sorted moved
      (λ k d low. omega (arith, user-at k d low, low, length_permutation spans sorted moved))

  pub users-apart : AreApart sorted
  users-apart =
      All-permutation (λ (one : Span). All (λ (other : Span). one.user ≡ other.user → one ≡ other) sorted) spans sorted moved
      (λ k d low. All-permutation (λ (other : Span). (get_or spans k d).user ≡ other.user → get_or spans k d ≡ other) spans sorted moved
      (λ j e lower same.
      let at : k ≡ j = sym (user-at k d low) ∙ same ∙ user-at j e lower in
      ap (λ n. get_or spans n d) at ∙ get_or_default spans j d e lower))

  -- each user's rank stands at his place
  pub ranks-at : (levels : List LevelFs) (paths : List (List Level)) (ranks : List ℕ) → map (path_in levels) spans ≡ paths → length ranks ≡ length sorted
      → All (λ (span : Span). get_or ranks span.user 0 ≡ rank_among (map (path_in levels) sorted) (path_in levels span)) sorted
      → ranks ≡ map (rank_among paths) paths
  ranks-at levels paths ranks is len each =
      let back = All-permutation (λ (span : Span). get_or ranks span.user 0 ≡ rank_among (map (path_in levels) sorted) (path_in levels span)) sorted spans (IsPermutation-sym spans sorted moved) each in
      let as_long : length ranks ≡ length spans = len ∙ length_permutation spans sorted moved in
      let count : length ranks ≡ length (map (rank_among paths) paths) =
      as_long ∙ sym (length-map spans (path_in levels)) ∙ ap length is ∙ sym (length-map paths (rank_among paths)) in
      same_number_lists ranks (map (rank_among paths) paths) count (λ k inside.
      let low : k < length spans = omega (arith, inside, as_long) in
      let lower : k < length paths = omega (arith, low, length-map spans (path_in levels), ap length is) in
      let path : get_or paths k (path_in levels nowhere) ≡ path_in levels (get_or spans k nowhere) =
      ap (λ l. get_or l k (path_in levels nowhere)) (sym is) ∙ get_or-map (path_in levels) spans k nowhere in
      let mine = back k nowhere low in
      let there : k < length (map (rank_among paths) paths) = omega (arith, lower, length-map paths (rank_among paths)) in
      ap (λ n. get_or ranks n 0) (sym (user-at k nowhere low)) ∙ mine
      ∙ rank_among-permutation (map (path_in levels) spans) (map (path_in levels) sorted) (path_in levels (get_or spans k nowhere)) (IsPermutation-map (path_in levels) spans sorted moved)
      ∙ ap (λ l. rank_among l (path_in levels (get_or spans k nowhere))) is
      ∙ ap (rank_among paths) (sym path)
      ∙ sym (get_or-map (rank_among paths) paths k (path_in levels nowhere))
      ∙ get_or_default (map (rank_among paths) paths) k (rank_among paths (path_in levels nowhere)) 0 there)

-- the paths of the code's sums are those of the definitions
pub paths_of-is : (nodes : List TreeNode) (usage : List ℕ) (used shares : Option ℕ → ℕ)
    → ((at : Option ℕ) → used at ≡ usage_of nodes (charges nodes usage) at) → ((at : Option ℕ) → shares at ≡ children_shares nodes at)
    → map (λ place. path_of used shares nodes (Some place)) (users nodes) ≡ paths_of nodes usage
unfolding paths_of
paths_of-is nodes usage used shares used_is shares_are =
    λ i. map (λ place. path_of (λ at. used_is at i) (λ at. shares_are at i) nodes (Some place)) (users nodes)

pub ranks_of-is : (nodes : List TreeNode) (usage : List ℕ) → map (rank_among (paths_of nodes usage)) (paths_of nodes usage) ≡ ranks_of nodes usage
unfolding ranks_of
ranks_of-is nodes usage = refl

-- what follows from two facts on a result
pub IfOk-both : {T E : Type 0} (r : Result T E) (P Q S : T → Type 0) → ((x : T) → P x → Q x → S x) → IfOk r P → IfOk r Q → IfOk r S
IfOk-both (Ok x) P Q S follows first second = follows x first second
IfOk-both (Err e) P Q S follows first second = tt
