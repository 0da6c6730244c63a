-- The new places so far.
use Rattle.std.proofs.Common.{◌≡◌}
use Rattle.std.specs.Prelude.{None, filter, slice_index_or}
use Rattle.std.specs.List.{range_with_len}
use Rattle.node_state.specs.Moving.{was_in}
use Rattle.node_state.proofs.reservations.row_moved.Given as goal

abbrev pub invariant-loop-place : goal.invariant-loop-place
invariant-loop-place l =
    l.moved ≡ filter (λ place. was_in l.row (slice_index_or l.origins place None)) (range_with_len 0 l.place)
