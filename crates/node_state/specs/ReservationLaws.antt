-- What holds of all reservations. Each is proved as the contract of a law.
use Rattle.std.specs.Prelude.{◌≡◌, ℕ, Bool, List, [], ◌∷◌, ◌++◌, filter}
use Rattle.node_state.specs.declared.reservation_record.Reservation.{Reservation}
use Rattle.node_state.specs.Reservations.{AreReservations, Fits, lasting}

-- fewer reservations are reservations again,
abbrev pub Fewer : Type 0
Fewer = (stays : Reservation → Bool) (reservations : List Reservation)
    → AreReservations reservations → AreReservations (filter stays reservations)

-- and one more is that can stand beside them
abbrev pub OneMore : Type 0
OneMore = (reservations : List Reservation) (wanted : Reservation)
    → AreReservations reservations → Fits reservations wanted → AreReservations (reservations ++ wanted ∷ [])

-- those that aren't over, taken twice
abbrev pub LastingTwice : Type 0
LastingTwice = (now : ℕ) (reservations : List Reservation)
    → lasting now (lasting now reservations) ≡ lasting now reservations
