-- The associations make a tree.
use Rattle.std.proofs.Common.{◌≡◌, ℕ, ◌<◌, ◌≤◌, ◌^◌, cond, List, [], ◌∷◌, length, map, nat_eq, slice_get, Option, None, Some, refl, ap, arith}
use Rattle.std.specs.Prelude.{All, IfSome, count_by, option_map, option_and_then}
use Rattle.std.proofs.lemmas.Bool.Decides.{nat_tests}
use Rattle.std.proofs.lemmas.List.{length-map}
use Rattle.std.proofs.lemmas.List.Sums.{sum_by-cons}
use Rattle.std.proofs.lemmas.Option.{slice_get-map}
use Rattle.plain_data.specs.Assocs.{is_same_place as is_same_parent}
use Rattle.run_limits.specs.declared.record.AssocRecord.{AssocRecord}
use Rattle.run_limits.specs.Accounts.{AreFew, AreRooted}
use Rattle.run_limits.specs.declared.tree.TreeNode.{TreeNode}
use Rattle.run_limits.specs.Tree.{IsTree, is_same_place}
use Rattle.ctl_waiting.specs.FairShare.{node_of}
use Rattle.list_lemmas.proofs.Numbers.{same-test as nat_eq-turned}

same-turned : (one other : Option ℕ) → is_same_place one other ≡ is_same_parent other one
same-turned None None = refl
same-turned None (Some other) = refl
same-turned (Some one) None = refl
same-turned (Some one) (Some other) = nat_eq-turned one other

children-same : (at : Option ℕ) (assocs : List AssocRecord)
    → count_by (λ (node : TreeNode). is_same_place at node.parent) (map node_of assocs)
    ≡ count_by (λ (assoc : AssocRecord). is_same_parent assoc.conf.parent at) assocs
children-same at [] = refl
children-same at (assoc ∷ assocs) =
    let nodes = sum_by-cons (λ (node : TreeNode). cond (is_same_place at node.parent) 1 0) (node_of assoc) (map node_of assocs) in
    let records = sum_by-cons (λ (one : AssocRecord). cond (is_same_parent one.conf.parent at) 1 0) assoc assocs in
    let here = ap {B = ℕ} (λ b. cond b 1 0) (same-turned at assoc.conf.parent) in
    omega (arith, nodes, records, here, children-same at assocs)

-- each account stands before what belongs to it
parents-before : (assocs : List AssocRecord) → AreRooted assocs → (place : ℕ)
    → IfSome (option_and_then (λ (node : TreeNode). node.parent) (slice_get (map node_of assocs) place)) (λ parent. parent < place)
parents-before assocs rooted place = rw (slice_get-map node_of assocs place) (at (slice_get assocs place) (rooted place))
  where
    at : (found : Option AssocRecord) → IfSome found (λ (assoc : AssocRecord). IfSome assoc.conf.parent (λ parent. parent < place))
        → IfSome (option_and_then (λ (node : TreeNode). node.parent) (option_map node_of found)) (λ parent. parent < place)
    at None under = tt
    at (Some assoc) under = under

pub IsTree-is : (nodes : List TreeNode) (assocs : List AssocRecord) → nodes ≡ map node_of assocs → AreRooted assocs
    → AreFew assocs → length assocs < 2 ^ 32 → All (λ (node : TreeNode). node.shares ≤ 65535) nodes → IsTree nodes
IsTree-is nodes assocs is rooted few small shares = record {
  small = omega (arith, ap length is, length-map assocs node_of, small);
  parents = rw is (parents-before assocs rooted);
  children = λ at. rw is (omega (arith, children-same at assocs, few.children at));
  shares = shares;
}
