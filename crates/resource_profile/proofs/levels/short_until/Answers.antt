use Rattle.std.proofs.Common.{◌-◌, ◌<◌, length, get_or, arith, inl, inr}
use Rattle.std.proofs.lemmas.Bool.{cases_lt}
use Rattle.std.proofs.lemmas.List.{get_or_default}
use Rattle.resource_profile.specs.declared.levels.Level.{Level}
use Rattle.resource_profile.proofs.Short.{short-window}
use Rattle.resource_profile.proofs.levels.short_until.Goals as goal

pub returns-then-is_short : goal.returns-then-is_short
returns-then-is_short c = λ free levelled.
    let levels = c.args.levels.now in
    let place = c.loop-place.place in
    let none : Level = record { from = 0; free = record { cpus = 0; mem = 0 } } in
    let read = get_or levels (place - 1) none in
    let inside : place - 1 < length levels = omega (arith, c.loop-place-test.true, c.loop-place.invariant.high) in
    let later : c.args.from < c.begin_of.result = elim (cases_lt place (length levels)) [
      | inl next ↦ omega (arith, c.begin_of.ensures.inside none next, c.loop-place.invariant.behind none next)
      | inr past ↦ omega (arith, c.begin_of.ensures.past past, c.requires.window, c.ranges.until.fits)
    ] in
    short-window free levels c.args.amount c.args.from c.args.until place c.begin_of.result read levelled c.loop-place-test.true c.loop-place.invariant.high
    (get_or_default levels (place - 1) none read inside) (c.loop-place.invariant.begin (place - 1) none (omega (arith, c.loop-place-test.true)))
    c.begin_of.ensures.inside later (c.is_short.ensures.0 c.if-is_short.true)
