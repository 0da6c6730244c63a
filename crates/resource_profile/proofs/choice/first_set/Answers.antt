use Rattle.std.proofs.Common.{inl, inr, arith}
use Rattle.resource_profile.proofs.Beginnings.{none_from_required}
use Rattle.resource_profile.proofs.Walk.{none_from_short}
use Rattle.resource_profile.proofs.choice.first_set.Goals as goal
use Rattle.resource_profile.proofs.choice.first_set.Goals.{then-need-count-via-then-need-count, then-need-count-via-else-need-count+then-need-most}
use Rattle.resource_profile.proofs.choice.first_set.Goals.{then-need-reserve-via-then-need-reserve, then-need-reserve-via-else-need-reserve+then-reserve-from}

pub returns-then-need-count-clause-none : goal.returns-then-need-count-clause-none
returns-then-need-count-clause-none c =
    none_from_required c.args.caps.now c.args.need.now
    (elim c.then-need-count.branch [
      | then-need-count-via-then-need-count w ↦ inl (omega (arith, c.in-Ok.ensures.1))
      | then-need-count-via-else-need-count+then-need-most w ↦ inr (omega arith)
    ])

pub returns-then-need-reserve-clause-none : goal.returns-then-need-reserve-clause-none
returns-then-need-reserve-clause-none c =
    none_from_short c.args.caps.now c.args.need.now c.in-Some.begun.set.items c.in-Some.begun.wanting c.in_ok-reserve.reserve (rw c.in-Some.is at c.in_ok-begun.ensures.begun) (rw c.in-Some.is at c.in_ok-begun.ensures.wanting) c.in_ok-reserve.ensures.reserve (rw c.min-most.ensures at c.in_ok-reserve.ensures.full)
    (elim c.then-need-reserve.branch [
      | then-need-reserve-via-then-need-reserve w ↦ inl (omega arith)
      | then-need-reserve-via-else-need-reserve+then-reserve-from w ↦ inr (omega arith)
    ])
