-- What stands at a place of the list, and how large sums are.
use Rattle.std.proofs.Common.{◌≡◌, ℕ, ◌*◌, ◌<◌, ◌≤◌, ◌^◌, Bool, true, false, cond, List, [], ◌∷◌, length, get_or, refl, sym, ap, arith, Option, Some, None}
use Rattle.std.specs.Prelude.{All, count_by, option_map, option_and_then, unwrap_or}
use Rattle.std.proofs.lemmas.Bool.{eq-eqb, ne_eqb}
use Rattle.std.proofs.lemmas.Option.{slice_get-get_or}
use Rattle.std.proofs.lemmas.List.Elements.{All-head, All-tail}
use Rattle.std.proofs.lemmas.List.Sums.{sum_by-cons, get_or-le-sum_by}
use Rattle.run_limits.specs.declared.tree.TreeNode.{TreeNode}
use Rattle.run_limits.specs.Levels.{Least, Fraction, Top}
use Rattle.run_limits.specs.Tree.{IsTree, parent_at, shares_at, children_shares, is_same_place, level_of}

-- what stands at no place
abbrev pub void : TreeNode
void = record { parent = None; shares = 0; user = false }

pub is_same_place-itself : (at : Option ℕ) → is_same_place at at ≡ true
is_same_place-itself None = refl
is_same_place-itself (Some place) = eq-eqb place place refl

module _ (nodes : List TreeNode) (place : ℕ) (low : place < length nodes) where
  pub parent_at-node : parent_at nodes place ≡ (get_or nodes place void).parent
  parent_at-node = ap (option_and_then (λ (node : TreeNode). node.parent)) (slice_get-get_or nodes place void low)

  pub shares_at-node : shares_at nodes place ≡ (get_or nodes place void).shares
  shares_at-node = ap (λ o. unwrap_or (option_map (λ (node : TreeNode). node.shares) o) 0) (slice_get-get_or nodes place void low)

  -- a child's shares are among those of its parent's children
  pub shares-within : shares_at nodes place ≤ children_shares nodes (parent_at nodes place)
  shares-within =
      let own : cond (is_same_place (parent_at nodes place) (get_or nodes place void).parent) (get_or nodes place void).shares 0 ≡ shares_at nodes place =
      rw (sym parent_at-node, is_same_place-itself (parent_at nodes place)) (sym shares_at-node) in
      omega (arith, own, get_or-le-sum_by (λ (node : TreeNode). cond (is_same_place (parent_at nodes place) node.parent) node.shares 0) nodes place void low)

  pub shares_at-small : IsTree nodes → shares_at nodes place ≤ 65535
  shares_at-small tree = omega (arith, shares_at-node, tree.shares place void low)

children-bound : (nodes : List TreeNode) (at : Option ℕ) → All (λ (node : TreeNode). node.shares ≤ 65535) nodes
    → children_shares nodes at ≤ 65535 * count_by (λ (node : TreeNode). is_same_place at node.parent) nodes
children-bound [] at all = omega arith
children-bound (node ∷ nodes) at all =
    let sum = sum_by-cons (λ (node : TreeNode). cond (is_same_place at node.parent) node.shares 0) node nodes in
    let count = sum_by-cons (λ (node : TreeNode). cond (is_same_place at node.parent) 1 0) node nodes in
    let here = one (is_same_place at node.parent) node.shares (All-head (λ (node : TreeNode). node.shares ≤ 65535) node nodes all) in
    let rest = children-bound nodes at (All-tail (λ (node : TreeNode). node.shares ≤ 65535) node nodes all) in
    omega (arith, sum, count, here, rest)
  where
    one : (b : Bool) (n : ℕ) → n ≤ 65535 → cond b n 0 ≤ 65535 * cond b 1 0
    one true n low = omega arith
    one false n low = omega arith

pub children-small : (nodes : List TreeNode) (at : Option ℕ) → IsTree nodes → children_shares nodes at < 2 ^ 24
children-small nodes at tree = omega (arith, children-bound nodes at tree.shares, tree.children at)

-- a level by its cases
module _ (usage shares : Option ℕ → ℕ) (nodes : List TreeNode) (place : ℕ) where
  pub level_of-least : shares_at nodes place ≡ 0 → level_of usage shares nodes place ≡ Least
  unfolding level_of
  level_of-least e = rw e refl

  pub level_of-top : (shares_at nodes place ≡ 0 → ⊥) → usage (Some place) ≡ 0 → level_of usage shares nodes place ≡ Top
  unfolding level_of
  level_of-top some e = rw (ne_eqb (shares_at nodes place) 0 some, e) refl

  pub level_of-fraction : (shares_at nodes place ≡ 0 → ⊥) → (usage (Some place) ≡ 0 → ⊥) → level_of usage shares nodes place
      ≡ Fraction (record { num = shares_at nodes place * usage (parent_at nodes place); den = shares (parent_at nodes place) * usage (Some place) })
  unfolding level_of
  level_of-fraction some used = rw (ne_eqb (shares_at nodes place) 0 some, ne_eqb (usage (Some place)) 0 used) refl
