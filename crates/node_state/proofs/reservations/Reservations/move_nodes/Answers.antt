-- Each row has the new places of its nodes, and so the reservations stay apart.
use Rattle.std.proofs.Common.{◌≡◌, ◌∙◌, length, map, ap, subst, sym}
use Rattle.std.specs.Vec.{with_items}
use Rattle.std.proofs.lemmas.List.{length-map, with_items_is}
use Rattle.node_state.specs.Moving.{reservation_moved}
use Rattle.node_state.specs.Reservations.{AreReservations}
use Rattle.node_state.proofs.Apart.{reservations-moved}
use Rattle.node_state.proofs.reservations.Reservations.move_nodes.Goals as goal

pub invariant_of-self : goal.invariant_of-self
invariant_of-self c =
    let f = reservation_moved c.args.origins.now in
    let records = c.self.inside.records in
    let moved = c.move_all.new.reservations in
    let long : length moved ≡ records.len =
    ap length c.move_all.ensures ∙ length-map c.as_mut_slice.result.now f ∙ c.as_mut_slice.ensures.len in
    let is : (with_items records moved).items ≡ map f records.items =
    with_items_is records moved long ∙ c.move_all.ensures ∙ ap (map f) c.as_mut_slice.ensures.value in
    subst AreReservations (sym is) (reservations-moved c.args.origins.now records.items c.self.invariant)

pub returns : goal.returns
returns c =
    let f = reservation_moved c.args.origins.now in
    let records = c.self.inside.records in
    let moved = c.move_all.new.reservations in
    let long : length moved ≡ records.len =
    ap length c.move_all.ensures ∙ length-map c.as_mut_slice.result.now f ∙ c.as_mut_slice.ensures.len in
    with_items_is records moved long ∙ c.move_all.ensures ∙ ap (map f) c.as_mut_slice.ensures.value
    ∙ ap (map f) c.self.view_is
