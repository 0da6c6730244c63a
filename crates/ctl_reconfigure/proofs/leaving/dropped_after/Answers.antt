-- A stable sort by their names.
use Rattle.std.proofs.Common.{◌≡◌, ◌∙◌, Bool, ap, rules}
use Rattle.std.specs.Cmp.{IsStrictWeakOrder}
use Rattle.std.specs.Ordering.{is_lt}
use Rattle.std.proofs.lemmas.Fn.{always_returns_same}
use Rattle.ctl_state.specs.Ordered.{ordered_by}
use Rattle.node_state.specs.declared.record.DroppedNode.{DroppedNode}
use Rattle.ctl_reconfigure.specs.Reconfiguring.{is_before}
use Rattle.ctl_reconfigure.proofs.Byname.{before-weak}
use Rattle.ctl_reconfigure.proofs.Growing.{two-joined}
use Rattle.ctl_reconfigure.proofs.leaving.dropped_after.Goals as goal

pub returns : goal.returns
returns c =
    let compares = always_returns_same _ (λ a r. is_lt r ≡ is_before a.0.now a.1.0.now) _ (λ a r q k. search rules) in
    let sorted = c.a_stable_sort_makes_the_order.ensures.sorted is_before _ _ before-weak
    (c.in_ok-sort_by.ensures.sorted is_before before-weak compares) (c.in_ok-sort_by.ensures.stable is_before before-weak compares) in
    sorted
    ∙ ap (ordered_by is_before)
    (two-joined _ _ _ _ _ c.in_ok-all.ensures.items c.in_ok-push_kept.ensures c.in_ok-push_leaving.ensures)
