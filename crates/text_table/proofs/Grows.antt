-- A tree that grows by an association.
use Rattle.std.proofs.Common.{◌≡◌, ℕ, zero, suc, ◌<◌, ◌≤◌, List, [], ◌∷◌, ◌++◌, length, refl, ap, inl, inr, ◌⊎◌, arith, Some, length-append}
use Rattle.std.specs.Prelude.{slice_get, IfSome, option_and_then}
use Rattle.std.proofs.lemmas.List.Elements.{All-nil, All-push}
use Rattle.std.proofs.lemmas.List.Sums.{count_by-le-length}
use Rattle.run_limits.specs.declared.tree.TreeNode.{TreeNode}
use Rattle.run_limits.specs.Tree.{IsTree, parent_at, is_same_place}

get-push : {X : Type 0} (xs : List X) (x : X) (k : ℕ)
    → (slice_get (xs ++ x ∷ []) k ≡ slice_get xs k) ⊎ ((k ≡ length xs) × (slice_get (xs ++ x ∷ []) k ≡ Some x))
get-push [] x zero = inr (refl, refl)
get-push [] x (suc k) = inl refl
get-push (y ∷ xs) x zero = inl refl
get-push (y ∷ xs) x (suc k) = elim (get-push xs x k) [
  | inl e ↦ inl e
  | inr both ↦ inr (omega (arith, both.0), both.1)
]

pub IsTree-none : IsTree []
IsTree-none = record {
  small = omega arith;
  parents = λ place. tt;
  children = λ at. omega arith;
  shares = All-nil (λ (node : TreeNode). node.shares ≤ 65535);
}

pub IsTree-push : (nodes : List TreeNode) (node : TreeNode) → IsTree nodes → length nodes < 256
    → IfSome node.parent (λ parent. parent < length nodes) → node.shares ≤ 65535 → IsTree (nodes ++ node ∷ [])
IsTree-push nodes node tree few parent shares =
    let grown = length-append nodes (node ∷ []) in
    record {
      small = omega (arith, few, grown);
      parents = λ place. elim (get-push nodes node place) [
        | inl e ↦
            let same : parent_at (nodes ++ node ∷ []) place ≡ parent_at nodes place = ap (option_and_then (λ (one : TreeNode). one.parent)) e in
            rw same (tree.parents place)
        | inr both ↦
            let own : parent_at (nodes ++ node ∷ []) place ≡ node.parent = ap (option_and_then (λ (one : TreeNode). one.parent)) both.1 in
            rw (own, both.0) parent
      ];
      children = λ at. omega (arith, few, grown, count_by-le-length (λ (one : TreeNode). is_same_place at one.parent) (nodes ++ node ∷ []));
      shares = All-push (λ (one : TreeNode). one.shares ≤ 65535) nodes node tree.shares shares;
    }
