use Rattle.std.proofs.Common.{◌≡◌, arith, ap, bytes_eq, ◌∙◌}
use Rattle.std.specs.HashMap.{get}
use Rattle.run_limits.specs.Spans.{up_to}
use Rattle.run_limits.proofs.SpanLemmas.{spans_more}
use Rattle.run_limits.proofs.spans.spans_of.Goals as goal

pub loop-place-preserved : goal.loop-place-preserved
loop-place-preserved c = λ name.
    let own : c.copied.result ≡ get bytes_eq c.loop-place.spans c.index-records-place.result.conf.name
    = grind (arith, c.copied.ensures, c.get.ensures.value) in
    spans_more name c.in_ok-copy.field-0 c.args.records.now c.loop-place.place
    c.index-records-place.result _ _ _ c.up_to-span.result
    c.loop-place-test.true c.index-records-place.is c.in_ok-copy.ensures
    (c.loop-place.invariant c.index-records-place.result.conf.name) (c.loop-place.invariant name)
    (c.up_to-span.ensures ∙ ap (λ span. up_to span c.loop-place.place) own)
    (c.in_ok-insert.ensures.updates.0 name)
