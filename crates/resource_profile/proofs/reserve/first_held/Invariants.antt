use Rattle.std.proofs.Common.{length, ◌-◌, ◌≡◌, ◌≤◌, slice_index}
use Rattle.std.specs.List.{AllWithin}
use Rattle.resource_profile.specs.declared.reserve.Candidate.{Candidate}
use Rattle.resource_profile.proofs.reserve.first_held.Given as goal

-- none before the index is held
abbrev pub invariant-loop-index : goal.invariant-loop-index
invariant-loop-index l =
    (l.from ≤ l.index) × AllWithin (λ (one : Candidate). slice_index l.held one.place ≡ 0) l.candidates l.from l.index

abbrev pub decreases-loop-index : goal.decreases-loop-index
decreases-loop-index l = length l.candidates - l.index
