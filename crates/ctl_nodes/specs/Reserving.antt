-- What operators say of reservations: why it is refused, and what it makes.
use Rattle.std.specs.Prelude.{ℕ, Bool, ◌&&◌, ◌||◌, not, is_none, nat_lt, List, [], ◌∷◌, ◌++◌, length, filter, Option}
use Rattle.std.specs.List.{list_any, range_with_len}
use Rattle.reply_data.specs.declared.refusal.Refusal.{Refusal}
use Rattle.reply_data.specs.declared.refusal.Refusal.TheVariants.{AccessDenied, InvalidReservation, ReservationOverlap, UnknownNode}
use Rattle.reply_data.specs.declared.reply.Reply.TheVariants.{Done}
use Rattle.request_data.specs.declared.reservation.ReservationDesc.{ReservationDesc}
use Rattle.plain_data.specs.Rows.{has_id}
use Rattle.node_state.specs.declared.record.NodeRecord.{NodeRecord}
use Rattle.node_state.specs.Nodes.{place_named}
use Rattle.resource_profile.specs.declared.Hold.{Hold}
use Rattle.job_table.specs.declared.record.JobRecord.{JobRecord}
use Rattle.node_state.specs.declared.reservation_record.Reservation.{Reservation}
use Rattle.node_state.specs.Reservations.{is_named, is_refused, overlaps, reservation_named}
use Rattle.ctl_state.specs.Holds.{holds_of_job}
use Rattle.ctl_state.specs.Planning.{is_at}
use Rattle.ctl_nodes.specs.Updating.{is_among}
use Rattle.ctl_state.specs.Refusals.{is_privileged, refused_if}
use Rattle.ctl_state.specs.State.{State}
use Rattle.ctl_state.specs.Verdicts.{Verdict, Makes}

-- the places of the nodes with these names, from the least on
abbrev pub places_among : List NodeRecord → List (List ℕ) → List ℕ
places_among nodes names = filter (is_at (is_among names) nodes) (range_with_len 0 (length nodes))

-- the reservation that is asked for
abbrev pub reservation_of : List NodeRecord → ReservationDesc → Reservation
reservation_of nodes desc = record {
  name = desc.name;
  start = desc.start;
  end = desc.end;
  nodes = places_among nodes desc.nodes;
  names = desc.nodes;
  users = desc.users;
  accounts = desc.accounts;
}

-- the hold has one of these nodes at this time
abbrev pub is_in_way : List ℕ → ℕ → ℕ → Hold → Bool
is_in_way nodes start end hold =
    (nat_lt start hold.until && nat_lt hold.from end) && has_id nodes hold.node

-- jobs hold one of these nodes at this time
abbrev pub are_held : ℕ → List ℕ → ℕ → ℕ → List JobRecord → Bool
are_held now nodes start end jobs =
    list_any (λ (job : JobRecord). list_any (is_in_way nodes start end) (holds_of_job now job)) jobs

-- another reservation, or a job, has some of it
abbrev pub is_taken : State → ℕ → Reservation → Bool
is_taken s now wanted =
    list_any (overlaps wanted.nodes wanted.start wanted.end) s.reservations
    || are_held now wanted.nodes wanted.start wanted.end s.jobs

-- why it isn't made, in their order
abbrev pub create_refusals : State → ℕ → List ℕ → ReservationDesc → List (Option Refusal)
create_refusals s now user desc =
    refused_if (not (is_privileged s user)) AccessDenied
    ∷ refused_if (is_refused now desc.name desc.start desc.end s.reservations) InvalidReservation
    ∷ refused_if (list_any (λ name. is_none (place_named name s.nodes)) desc.nodes) UnknownNode
    ∷ refused_if (is_taken s now (reservation_of s.nodes desc)) ReservationOverlap
    ∷ []

-- the state with it
abbrev pub created : State → ReservationDesc → State
created s desc = record s { reservations = s.reservations ++ reservation_of s.nodes desc ∷ [] }

abbrev pub create_made : State → ReservationDesc → Verdict
create_made s desc = Makes Done (created s desc)

-- why one isn't taken back, in their order
abbrev pub delete_refusals : State → List ℕ → List ℕ → List (Option Refusal)
delete_refusals s user name =
    refused_if (not (is_privileged s user)) AccessDenied
    ∷ refused_if (is_none (reservation_named name s.reservations)) InvalidReservation
    ∷ []

-- the state without it
abbrev pub deleted : State → List ℕ → State
deleted s name = record s {
  reservations = filter (λ (one : Reservation). not (is_named name one)) s.reservations;
}

abbrev pub delete_made : State → List ℕ → Verdict
delete_made s name = Makes Done (deleted s name)
