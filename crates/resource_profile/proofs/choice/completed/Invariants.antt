use Rattle.resource_profile.proofs.Walk.{IsOnTheWay}
use Rattle.resource_profile.proofs.choice.completed.Given as goal

abbrev pub invariant-loop-place : goal.invariant-loop-place
invariant-loop-place l = IsOnTheWay l.caps l.need l.place l.set.items l.wanting l.reserve
