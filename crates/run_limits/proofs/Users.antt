-- The places of the users.
use Rattle.std.proofs.Common.{◌≡◌, ℕ, ◌+◌, ◌<◌, ◌≤◌, Bool, true, false, cond, List, [], ◌∷◌, ◌++◌, length, take, get_or, map, filter, refl, sym, ap, arith}
use Rattle.std.specs.Prelude.{All}
use Rattle.std.specs.List.{enumerate_from}
use Rattle.std.proofs.lemmas.List.{take_more, length-take}
use Rattle.std.proofs.lemmas.List.Elements.{All-nil, All-cons, All-filter, All-map}
use Rattle.run_limits.specs.declared.tree.TreeNode.{TreeNode}
use Rattle.run_limits.specs.Tree.{users}
use Rattle.run_limits.proofs.Nodes.{void}

-- the places of the users in a list that begins at a place
abbrev users_from : ℕ → List TreeNode → List ℕ
users_from n nodes = map (λ one. one.0) (filter (λ (one : ℕ × TreeNode). one.1.user) (enumerate_from n nodes))

users_from-push : (n : ℕ) (nodes : List TreeNode) (node : TreeNode)
    → users_from n (nodes ++ node ∷ []) ≡ users_from n nodes ++ cond node.user ((n + length nodes) ∷ []) []
users_from-push n [] node = last node.user (n + 0) (omega arith)
  where
    last : (b : Bool) (m : ℕ) → m ≡ n → map (λ (one : ℕ × TreeNode). one.0) (cond b ((n, node) ∷ []) []) ≡ cond b (m ∷ []) []
    last true m e = ap (λ k. k ∷ []) (sym e)
    last false m e = refl
users_from-push n (first ∷ nodes) node =
    let rest = users_from-push (n + 1) nodes node in
    let place : n + 1 + length nodes ≡ n + length (first ∷ nodes) = omega arith in
    step first.user _ _ _ (rw place at rest)
  where
    step : (b : Bool) (l m : List (ℕ × TreeNode)) (t : List ℕ) → map (λ one. one.0) l ≡ map (λ one. one.0) m ++ t
        → map (λ one. one.0) (cond b ((n, first) ∷ l) l) ≡ map (λ one. one.0) (cond b ((n, first) ∷ m) m) ++ t
    step true l m t e = ap (λ k. n ∷ k) e
    step false l m t e = e

-- one more association
pub users_more : (nodes : List TreeNode) (i : ℕ) → i < length nodes
    → users (take (i + 1) nodes) ≡ users (take i nodes) ++ cond (get_or nodes i void).user (i ∷ []) []
users_more nodes i low =
    let len : 0 + length (take i nodes) ≡ i = simp length-take (omega (arith, low)) in
    rw (take_more nodes i void low) (rw len at (users_from-push 0 (take i nodes) (get_or nodes i void)))

-- the users are among the associations
pub users-under : (nodes : List TreeNode) → All (λ place. place < length nodes) (users nodes)
users-under nodes =
    All-map (λ place. place < length nodes) (λ (one : ℕ × TreeNode). one.0) _
    (All-filter (λ (one : ℕ × TreeNode). one.1.user) (λ (one : ℕ × TreeNode). one.0 < length nodes) (enumerate_from 0 nodes)
    (under 0 nodes (omega arith)))
  where
    under : (n : ℕ) (some : List TreeNode) → n + length some ≤ length nodes → All (λ (one : ℕ × TreeNode). one.0 < length nodes) (enumerate_from n some)
    under n [] low = All-nil (λ (one : ℕ × TreeNode). one.0 < length nodes)
    under n (first ∷ some) low =
        All-cons (λ (one : ℕ × TreeNode). one.0 < length nodes) (n, first) (enumerate_from (n + 1) some) (omega (arith, low)) (under (n + 1) some (omega (arith, low)))
