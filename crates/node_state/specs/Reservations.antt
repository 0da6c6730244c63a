-- Reservations: nodes that are kept for some users from one second to before another.
use Rattle.std.specs.Prelude.{◌≡◌, ◌≢◌, ℕ, ◌<◌, ◌≤◌, Bool, false, ◌&&◌, ◌||◌, is_some, nat_lt, nat_le, List, length, filter, find, bytes_eq, All, AllPairs, Option}
use Rattle.std.specs.List.{list_any}
use Rattle.plain_data.specs.Rows.{has_id}
use Rattle.node_state.specs.declared.reservation_record.Reservation.{Reservation}

-- the name is among the names
abbrev pub has : List (List ℕ) → List ℕ → Bool
has names name = list_any (bytes_eq name) names

-- the reservation's time crosses the seconds from `from` on and before `until`
abbrev pub crosses : ℕ → ℕ → Reservation → Bool
crosses from until reservation = nat_lt from reservation.end && nat_lt reservation.start until

-- it has this name
abbrev pub is_named : List ℕ → Reservation → Bool
is_named name reservation = bytes_eq name reservation.name

-- the reservation of this name
abbrev pub reservation_named : List ℕ → List Reservation → Option Reservation
reservation_named name reservations = find (is_named name) reservations

-- the user, whose jobs count for the account, may use it
abbrev pub may_use : List ℕ → List ℕ → Reservation → Bool
may_use user account reservation = has reservation.users user || has reservation.accounts account

-- two rows of nodes have one in common
abbrev pub shares : List ℕ → List ℕ → Bool
shares one other = list_any (has_id other) one

-- it has one of these nodes at this time
abbrev pub overlaps : List ℕ → ℕ → ℕ → Reservation → Bool
overlaps nodes start end reservation = crosses start end reservation && shares reservation.nodes nodes

-- those that aren't over
abbrev pub lasting : ℕ → List Reservation → List Reservation
lasting now reservations = filter (λ (one : Reservation). nat_lt now one.end) reservations

-- There can't be one of this name and time more: the name is taken, the time isn't after its start and after now, or
-- there are 256.
abbrev pub is_refused : ℕ → List ℕ → ℕ → ℕ → List Reservation → Bool
is_refused now name start end reservations =
    is_some (reservation_named name reservations)
    || (nat_le end start || (nat_le end now || nat_le 256 (length reservations)))

-- each is over after it begins, no two have one name, no two have a node at one time, and there are at most 256
pub record AreReservations (reservations : List Reservation) : Type 0 where
  pub each : All (λ (one : Reservation). one.start < one.end) reservations
  pub named : AllPairs (λ (one other : Reservation). one.name ≢ other.name) reservations
  pub apart : AllPairs (λ (one other : Reservation). overlaps other.nodes other.start other.end one ≡ false)
      reservations
  pub few : length reservations ≤ 256

-- it can stand beside them
pub record Fits (reservations : List Reservation) (wanted : Reservation) : Type 0 where
  pub later : wanted.start < wanted.end
  pub named : is_some (reservation_named wanted.name reservations) ≡ false
  pub apart : list_any (overlaps wanted.nodes wanted.start wanted.end) reservations ≡ false
  pub few : length reservations < 256
