use Rattle.resource_profile.specs.Holding.{AreCandidates}
use Rattle.resource_profile.proofs.reserve.ranked.Given as goal

abbrev pub invariant-loop-place : goal.invariant-loop-place
invariant-loop-place l = AreCandidates l.caps l.required l.place l.candidates.items
