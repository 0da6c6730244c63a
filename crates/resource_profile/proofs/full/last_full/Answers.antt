use Rattle.std.proofs.Common.{◌≡◌, ◌-◌, ◌+◌, ◌<◌, length, ap, sym, ◌∙◌, arith}
use Rattle.resource_profile.specs.declared.levels.Amount.{Amount}
use Rattle.resource_profile.specs.declared.levels.Level.{Level}
use Rattle.resource_profile.proofs.full.last_full.Goals as goal

pub returns-then-level-eq0 : goal.returns-then-level-eq0
returns-then-level-eq0 c = λ free levelled moment low high.
    let levels = c.args.levels.now in
    let place = c.loop-place.place in
    let none : Level = record { from = 0; free = record { cpus = 0; mem = 0 } } in
    let inside : place - 1 < length levels = omega (arith, c.loop-place-test.true, c.loop-place.invariant) in
    let e : (place - 1) + 1 ≡ place = omega (arith, c.loop-place-test.true) in
    let says = levelled.said (place - 1) moment none inside low (rw e (λ next. omega (arith, c.begin_of.ensures.inside none next, high))) in
    ap (λ (a : Amount). a.cpus) (sym says) ∙ c.if-level-eq0.true

pub returns : goal.returns
returns c = λ free levelled. c.never.ensures free
