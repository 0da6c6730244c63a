use Rattle.std.proofs.Common.{◌≡◌, ℕ, ◌-◌, ◌<◌, false, slice_index_or}
use Rattle.ctl_state.specs.Planning.{is_taken_before}
use Rattle.ctl_state.proofs.planning.are_in_order.Given as goal

-- none so far is taken before the one that stands before it
abbrev pub invariant-loop-i : goal.invariant-loop-i
invariant-loop-i l = (k d : ℕ) → 0 < k → k < l.i
    → is_taken_before l.nodes (slice_index_or l.places k d) (slice_index_or l.places (k - 1) d) ≡ false
