use Rattle.std.proofs.Common.{◌≤◌, length}
use Rattle.resource_profile.proofs.full.last_full.Given as goal

-- the levels left to read are some of them
abbrev pub invariant-loop-place : goal.invariant-loop-place
invariant-loop-place l = l.place ≤ length l.levels

abbrev pub decreases-loop-place : goal.decreases-loop-place
decreases-loop-place l = l.place
