-- Reservations stay of the nodes with their names.
use Rattle.std.proofs.Common.{ℕ, ◌≡◌, ◌∙◌, true, false, not, List, [], ◌∷◌, All, Option, Some, None, refl, ap, sym, arith}
use Rattle.std.specs.Prelude.{is_none, is_some, nat_lt}
use Rattle.std.specs.List.{list_all, list_any}
use Rattle.std.proofs.lemmas.Bool.{both_ways, cond_both, or_parts}
use Rattle.std.proofs.lemmas.List.Elements.{All-filter, All-push}
use Rattle.request_data.specs.declared.report.Report.{Report as Told}
use Rattle.request_data.specs.declared.request.Request.{Request}
use Rattle.reply_data.specs.declared.refusal.Refusal.TheVariants.{UnknownNode}
use Rattle.request_data.specs.declared.reservation.ReservationDesc.{ReservationDesc}
use Rattle.node_state.specs.declared.record.NodeRecord.{NodeRecord}
use Rattle.node_state.specs.declared.reservation_record.Reservation.{Reservation}
use Rattle.node_state.specs.Nodes.{place_named}
use Rattle.node_state.specs.Reservations.{is_named}
use Rattle.ctl_state.specs.Refusals.{first_refusal}
use Rattle.ctl_state.specs.State.{State}
use Rattle.ctl_nodes.specs.Reserving.{create_refusals, reservation_of}
use Rattle.ctl_node_side.specs.Answering.{is_restarted}
use Rattle.ctl_node_side.specs.Restarting.{met}
use Rattle.ctl_node_side.specs.Silence.{any_silent, silenced}
use Rattle.ctl_core.specs.Step.{refusals_of}
use Rattle.step_lemmas.proofs.Making.{ByCreateReservation, ByDeleteReservation, ByPass, ByReconfigure, ByReport, MayMake}
use Rattle.saved_laws.specs.Kept.{IsAsOpened, IsInTypes, IsReserved, confs_of, is_reconfigure}
use Rattle.saved_laws.proofs.NumbersWalk.{later-none, not-refused, passed}
use Rattle.saved_laws.proofs.PlacesBack.{same_places}
use Rattle.saved_laws.proofs.ReservationsBack.{same_places_among}

-- each reservation is of nodes that the opening has
abbrev pub AreReserved : State → State → Type 0
AreReserved opened s = All (IsReserved opened.nodes) s.reservations

-- names that all lead to nodes lead to nodes of the same names
some-found : (found : Option ℕ) → is_none found ≡ false → is_some found ≡ true
some-found None some = absurd (cc)
some-found (Some place) some = refl

all_known : (names : List (List ℕ)) (one other : List NodeRecord) → confs_of one ≡ confs_of other
    → list_any (λ name. is_none (place_named name one)) names ≡ false
    → list_all (λ name. is_some (place_named name other)) names ≡ true
all_known [] one other same none = refl
all_known (name ∷ names) one other same none =
    let both = or_parts (is_none (place_named name one)) (list_any (λ name. is_none (place_named name one)) names) none in
    let here : is_some (place_named name other) ≡ true =
    ap is_some (sym (same_places name one other same)) ∙ some-found (place_named name one) both.0 in
    rw here (all_known names one other same both.1)

-- who makes a reservation names nodes that there are
creation-known : (s : State) (moment : ℕ) (user : List ℕ) (desc : ReservationDesc)
    → first_refusal (create_refusals s moment user desc) ≡ None
    → list_any (λ name. is_none (place_named name s.nodes)) desc.nodes ≡ false
creation-known s moment user desc none =
    let unknown = list_any (λ name. is_none (place_named name s.nodes)) desc.nodes in
    not-refused unknown UnknownNode (passed _ _ (later-none 2 (create_refusals s moment user desc) none)).0

met-reserved : (opened s : State) (now node : ℕ) (report : Told) → AreReserved opened s
    → AreReserved opened (met s now node report)
met-reserved opened s now node report of =
    cond_both (is_restarted s report) _ s (AreReserved opened) (λ restarted. of) (λ not. of)

silenced-reserved : (opened s : State) (now : ℕ) → AreReserved opened s → AreReserved opened (silenced s now)
silenced-reserved opened s now of =
    cond_both (any_silent s now) _ s (AreReserved opened) (λ some. of) (λ none. of)

pub made_reserved : (opened s : State) (moment : ℕ) (user : List ℕ) (request : Request) (after : State)
    → is_reconfigure request ≡ false → first_refusal (refusals_of s moment user request) ≡ None → IsAsOpened opened s
    → IsInTypes request → AreReserved opened s → MayMake s moment user request after → AreReserved opened after
made_reserved opened s moment user request after other none stays types of (ByCreateReservation desc) =
    All-push (IsReserved opened.nodes) s.reservations (reservation_of s.nodes desc) of
    (record {
      places = same_places_among desc.nodes s.nodes opened.nodes stays.nodes;
      known = all_known desc.nodes s.nodes opened.nodes stays.nodes (creation-known s moment user desc none);
      start = omega (arith, types.0);
      end = types.1;
    })
made_reserved opened s moment user request after other none stays types of (ByDeleteReservation name) =
    All-filter (λ (one : Reservation). not (is_named name one)) (IsReserved opened.nodes) s.reservations of
made_reserved opened s moment user request after other none stays types of (ByReport report node found) =
    met-reserved opened s moment node report of
made_reserved opened s moment user request after other none stays types of ByPass =
    All-filter (λ (one : Reservation). nat_lt moment one.end) (IsReserved opened.nodes) (silenced s moment).reservations
    (silenced-reserved opened s moment of)
made_reserved opened s moment user request after other none stays types of (ByReconfigure conf bytes) =
    absurd (both_ways true other refl)
made_reserved opened s moment user request after other none stays types of kind = of
