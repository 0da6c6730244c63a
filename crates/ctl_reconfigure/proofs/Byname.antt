-- The order of dropped nodes by their names.
use Rattle.std.specs.Cmp.{IsStrictWeakOrder}
use Rattle.std.specs.Cmp.Lexicographic.{nat_list_cmp_total}
use Rattle.std.proofs.lemmas.List.Sorted.{ranks_by}
use Rattle.node_state.specs.declared.record.DroppedNode.{DroppedNode}
use Rattle.ctl_reconfigure.specs.Reconfiguring.{is_before}

pub before-weak : IsStrictWeakOrder is_before
before-weak = ranks_by nat_list_cmp_total (λ (node : DroppedNode). node.name)
