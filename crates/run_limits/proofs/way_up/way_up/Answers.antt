use Rattle.std.proofs.Common.{◌+◌, ◌-◌, ◌++◌, ◌∷◌, [], arith, ap, sym, ◌∙◌}
use Rattle.std.proofs.lemmas.List.{append_assoc, append-nil}
use Rattle.run_limits.proofs.Way.{onwards, way_step, way_ends, way_none, way_zero}
use Rattle.run_limits.proofs.way_up.way_up.Goals as goal

pub returns-in_default : goal.returns-in_default
returns-in_default c =
    sym (append-nil c.loop.places.items)
    ∙ ap (λ rest. c.loop.places.items ++ rest) (sym (ap (onwards
    (16 - c.loop.counter) c.args.records.now) c.in_default.is ∙ way_none (16 - c.loop.counter) c.args.records.now))
    ∙ c.loop.invariant.places

pub returns-in_default-get : goal.returns-in_default-get
returns-in_default-get c =
    sym (append-nil c.loop.places.items)
    ∙ ap (λ rest. c.loop.places.items ++ rest) (sym (ap (onwards
    (16 - c.loop.counter) c.args.records.now) c.in-Some.is
    ∙ way_ends (16 - c.loop.counter) c.args.records.now c.in-Some.place c.in_default-get.ensures.lookup.0))
    ∙ c.loop.invariant.places

pub loop-preserved : goal.loop-preserved
loop-preserved c = record {
  places =
      ap (λ front. front ++ onwards (16 -
      (c.loop.counter + 1)) c.args.records.now c.in-Some-get.assoc.now.conf.parent) c.push.ensures.items
      ∙ append_assoc c.loop.places.items (c.in-Some.place ∷ []) (onwards (16 -
      (c.loop.counter + 1)) c.args.records.now c.in-Some-get.assoc.now.conf.parent)
      ∙ ap (λ rest. c.loop.places.items ++ rest) (sym (ap (onwards
      (16 - c.loop.counter) c.args.records.now) c.in-Some.is
      ∙ way_step (16 - (c.loop.counter + 1))
      (16 - c.loop.counter) c.args.records.now c.in-Some.place c.in-Some-get.assoc.now
      (omega (arith, c.loop-test.true)) c.in-Some-get.ensures.lookup.0 c.in-Some-get.ensures.lookup.1))
      ∙ c.loop.invariant.places;
  few = omega (arith, c.push.ensures.len, c.loop.invariant.few);
}

pub returns : goal.returns
returns c =
    sym (append-nil c.loop.places.items)
    ∙ ap (λ rest. c.loop.places.items ++ rest) (sym (ap (λ most. onwards most c.args.records.now c.loop.next) (omega
    (arith, c.loop-test.false)) ∙ way_zero c.args.records.now c.loop.next))
    ∙ c.loop.invariant.places
