use Rattle.std.proofs.Common.{◌≢◌, ◌-◌, length}
use Rattle.std.specs.List.{AllWithin}
use Rattle.resource_profile.specs.declared.Hold.{Hold}
use Rattle.resource_profile.proofs.profile.place_of.Given as goal

-- the hold isn't among those passed
abbrev pub invariant-loop-place : goal.invariant-loop-place
invariant-loop-place l = AllWithin (λ (one : Hold). one ≢ l.hold) l.holds 0 l.place

abbrev pub decreases-loop-place : goal.decreases-loop-place
decreases-loop-place l = length l.holds - l.place
