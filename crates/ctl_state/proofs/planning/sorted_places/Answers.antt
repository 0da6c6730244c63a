use Rattle.std.proofs.Common.{◌≡◌, ◌∙◌, rules}
use Rattle.std.specs.List.Sorted.{IsSortedBy}
use Rattle.std.proofs.lemmas.Fn.{always_returns_same}
use Rattle.ctl_state.specs.Planning.{is_taken_before}
use Rattle.ctl_state.proofs.Choosing.{key_of, sorted-node_order, standing-node_order}
use Rattle.ctl_state.proofs.planning.sorted_places.Goals as goal

pub returns : goal.returns
returns c =
    sorted-node_order c.args.nodes.now c.args.partition.now _
    (always_returns_same _ (λ a r. r ≡ key_of c.args.nodes.now a.0.now) _ (λ a r q k. search rules))
    c.in_ok-sort_by_key.ensures.sorted (rw (c.in_ok-order.ensures.items, c.as_slice.ensures) at c.sort_by_key.ensures.stable)

pub returns-then-are_in_order : goal.returns-then-are_in_order
returns-then-are_in_order c =
    let stand : c.in_ok-order.order.items ≡ c.args.partition.now.nodes = c.in_ok-order.ensures.items ∙ c.as_slice.ensures in
    let sorted : IsSortedBy (is_taken_before c.args.nodes.now) c.args.partition.now.nodes =
    rw (c.deref.ensures.value ∙ stand) at (c.are_in_order.ensures c.if-are_in_order.true) in
    stand ∙ standing-node_order c.args.nodes.now c.args.partition.now sorted
