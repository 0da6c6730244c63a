use Rattle.std.proofs.Common.{◌∙◌, rules}
use Rattle.std.proofs.lemmas.List.Filters.{dedup_is}
use Rattle.std.proofs.lemmas.List.Sorted.{answers_always}
use Rattle.request_data.specs.declared.report.Start.{Start}
use Rattle.ctl_node_side.proofs.InOrder.{in_order-deduped, in_order_rises}
use Rattle.ctl_node_side.proofs.starts.in_order.Goals as goal

pub returns : goal.returns
returns c =
    let sorted = c.sort_unstable_by_key.ensures.sorted (λ (start : Start). (start.id, start.number))
    (answers_always _ _ _ (λ f a r q k. search rules)) in
    c.from_vec.ensures ∙ dedup_is _ _ _ c.dedup.ensures.filtered
    ∙ in_order-deduped _ _ c.sort_unstable_by_key.ensures.permutation sorted

pub from_vec-requires : goal.from_vec-requires
from_vec-requires c =
    let sorted = c.sort_unstable_by_key.ensures.sorted (λ (start : Start). (start.id, start.number))
    (answers_always _ _ _ (λ f a r q k. search rules)) in
    rw (dedup_is _ _ _ c.dedup.ensures.filtered ∙ in_order-deduped _ _ c.sort_unstable_by_key.ensures.permutation
    sorted) (in_order_rises c.args.starts.items)
