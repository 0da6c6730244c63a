-- Reservations of nodes whose places are others now. For each new place the old one of its node is told, if it had one.
use Rattle.std.specs.Prelude.{ℕ, Bool, false, List, length, filter, Option, Some, None, slice_index_or}
use Rattle.std.specs.List.{range_with_len}
use Rattle.plain_data.specs.Rows.{has_id}
use Rattle.node_state.specs.declared.reservation_record.Reservation.{Reservation}

-- the old place, if there was one, is in the row
abbrev pub was_in : List ℕ → Option ℕ → Bool
was_in row None = false
was_in row (Some place) = has_id row place

-- the new places of the nodes of a row, which rise
abbrev pub row_moved : List (Option ℕ) → List ℕ → List ℕ
row_moved origins row =
    filter (λ place. was_in row (slice_index_or origins place None)) (range_with_len 0 (length origins))

abbrev pub reservation_moved : List (Option ℕ) → Reservation → Reservation
reservation_moved origins reservation = record reservation { nodes = row_moved origins reservation.nodes }
