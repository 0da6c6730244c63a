use Rattle.std.proofs.Common.{arith}
use Rattle.std.proofs.lemmas.List.Sums.{sum_by_push}
use Rattle.resource_profile.specs.Sets.{capacity}
use Rattle.resource_profile.proofs.Beginnings.{IsRequiredBeginning-take, none_from_empty_place}
use Rattle.resource_profile.proofs.choice.required_places.Goals as goal

pub returns-then-given-eq0-clause-none : goal.returns-then-given-eq0-clause-none
returns-then-given-eq0-clause-none c =
    none_from_empty_place c.args.caps.now c.args.need.now c.loop-place.place c.loop-place-test.true c.if-given-eq0.true

pub loop-place-preserved : goal.loop-place-preserved
loop-place-preserved c =
    let sum = sum_by_push (λ place. capacity c.args.caps.now place) c.loop-place.set.items c.loop-place.place in
    rw c.in_ok-push.ensures.items (record {
      begun = IsRequiredBeginning-take c.args.caps.now c.args.need.now c.loop-place.place c.loop-place.set.items c.loop-place.invariant.begun (omega arith) (omega arith);
      wanting = omega (arith, sum, c.loop-place.invariant.wanting, c.saturating_sub-wanting.ensures);
    })
