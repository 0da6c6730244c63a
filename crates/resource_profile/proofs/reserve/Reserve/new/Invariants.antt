use Rattle.resource_profile.proofs.Filling.{IsFilling}
use Rattle.resource_profile.proofs.reserve.Reserve.new.Given as goal

abbrev pub invariant-loop-i : goal.invariant-loop-i
invariant-loop-i l = IsFilling l.caps l.candidates.items l.least l.i l.held.items l.tasks
