-- The starts are in order, so the search finds exactly those that stand there.
use Rattle.std.proofs.Common.{◌∙◌, rules}
use Rattle.std.proofs.lemmas.List.Sorted.{answers_always}
use Rattle.request_data.specs.declared.report.Start.{Start}
use Rattle.node_daemon.proofs.Searching.{searched}
use Rattle.node_daemon.proofs.starts.is_among.Goals as goal

pub returns : goal.returns
returns c =
    let finds = c.binary_search_by_key.ensures in
    let starts = c.args.starts.now in
    c.is_ok.ensures.value
    ∙ searched starts c.args.start.now c.binary_search_by_key.result c.as_slice.ensures.order
    (rw c.as_slice.ensures.value at finds.bound)
    (rw c.as_slice.ensures.value at (finds.position (λ (one : Start). (one.id, one.number))
    (answers_always _ _ _ (λ f a r q k. search rules))))
