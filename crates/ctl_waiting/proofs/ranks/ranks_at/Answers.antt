use Rattle.std.proofs.Common.{◌≡◌, ℕ, arith, ap, get_or, length, map, sym, ◌∙◌}
use Rattle.std.specs.Prelude.{count_by}
use Rattle.std.proofs.lemmas.List.{length-map}
use Rattle.run_limits.specs.declared.tree.TreeNode.{TreeNode}
use Rattle.run_limits.specs.Tree.{users}
use Rattle.ctl_state.specs.State.{state_of}
use Rattle.ctl_waiting.specs.Usage.{usage_at}
use Rattle.ctl_waiting.specs.FairShare.{rank_at, tree_of}
use Rattle.ctl_waiting.proofs.RankOrder.{ranks-are, usage_at-low}
use Rattle.ctl_waiting.proofs.Users.{length-users, length-users_of}
use Rattle.ctl_waiting.proofs.ranks.ranks_at.Goals as goal

pub used_by_users-requires : goal.used_by_users-requires
used_by_users-requires c = λ place.
    rw c.as_slice.ensures.value
    (omega (arith, c.in_ok-usage.ensures place, usage_at-low (state_of c.args.cluster.now) c.args.now place))

pub ranks-requires-clause-users : goal.ranks-requires-clause-users
ranks-requires-clause-users c =
    let nodes = tree_of c.records-assocs.result.now in
    let at : ℕ → ℕ = λ place. get_or c.as_slice.result.now place 0 in
    ap length (c.as_slice-3.ensures.value ∙ c.in_ok-used.ensures.value) ∙ length-map (users nodes) at
    ∙ length-users_of nodes
    ∙ ap (λ l. count_by (λ (node : TreeNode). node.user) l) (sym (c.as_slice-2.ensures.value ∙ c.in_ok-tree.ensures.value))

pub ranks-requires-clause-few : goal.ranks-requires-clause-few
ranks-requires-clause-few c =
    let assocs = c.records-assocs.result.now in
    let at : ℕ → ℕ = λ place. get_or c.as_slice.result.now place 0 in
    let few = rw (sym c.records-assocs.ensures.value) at c.records-assocs.ensures.few.users in
    omega (
      arith,
      ap length (c.as_slice-3.ensures.value ∙ c.in_ok-used.ensures.value),
      length-map (users (tree_of assocs)) at,
      length-users assocs,
      few,
    )

pub returns-clause-each : goal.returns-clause-each
unfolding rank_at
returns-clause-each c =
    let s = state_of c.args.cluster.now in
    let assocs = c.records-assocs.ensures.value in
    let usage = c.as_slice.result.now in
    let each : (place : ℕ) → get_or usage place 0 ≡ usage_at s c.args.now place = λ place.
    ap (λ l. get_or l place 0) c.as_slice.ensures.value ∙ c.in_ok-usage.ensures place in
    let is_tree = c.as_slice-2.ensures.value ∙ c.in_ok-tree.ensures.value ∙ ap tree_of assocs in
    let is_used = c.as_slice-3.ensures.value ∙ c.in_ok-used.ensures.value
    ∙ ap (λ l. map (λ place. get_or usage place 0) (users (tree_of l))) assocs in
    let same = c.as_slice-4.ensures.value ∙ c.in_ok-by_user.ensures
    ∙ ranks-are s c.args.now usage each c.as_slice-2.result.now c.as_slice-3.result.now is_tree is_used in
    rw (assocs, same) at c.spread.ensures.each
