-- What is retained is what has another name.
use Rattle.std.proofs.Common.{◌∙◌, Bool, not, ap, rules, tests}
use Rattle.std.specs.List.{filter}
use Rattle.std.proofs.lemmas.Fn.{filter_same}
use Rattle.node_state.specs.declared.reservation_record.Reservation.{Reservation}
use Rattle.node_state.specs.Reservations.{is_named}
use Rattle.node_state.proofs.Beside.{fewer}
use Rattle.node_state.proofs.reservations.Reservations.delete.Goals as goal

pub invariant_of-self : goal.invariant_of-self
invariant_of-self c =
    let stays : Reservation → Bool = λ one. not (is_named c.args.name.now one) in
    rw (filter_same _ stays _ (λ x b f' k. search (rules, tests)) _ _ c.retain.ensures.filtered)
    (fewer stays c.self.inside.records.items c.self.invariant)

pub returns : goal.returns
returns c =
    let stays : Reservation → Bool = λ one. not (is_named c.args.name.now one) in
    filter_same _ stays _ (λ x b f' k. search (rules, tests)) _ _ c.retain.ensures.filtered
    ∙ ap (filter stays) c.self.view_is
