-- What is retained is what isn't over.
use Rattle.std.proofs.Common.{◌∙◌, Bool, ap, rules, tests}
use Rattle.std.specs.Prelude.{nat_lt}
use Rattle.std.specs.List.{filter}
use Rattle.std.proofs.lemmas.Fn.{filter_same}
use Rattle.node_state.specs.declared.reservation_record.Reservation.{Reservation}
use Rattle.node_state.proofs.Beside.{fewer}
use Rattle.node_state.proofs.reservations.Reservations.drop_ended.Goals as goal

pub invariant_of-self : goal.invariant_of-self
invariant_of-self c =
    let stays : Reservation → Bool = λ one. nat_lt c.args.now one.end in
    rw (filter_same _ stays _ (λ x b f' k. search (rules, tests)) _ _ c.retain.ensures.filtered)
    (fewer stays c.self.inside.records.items c.self.invariant)

pub returns : goal.returns
returns c =
    let stays : Reservation → Bool = λ one. nat_lt c.args.now one.end in
    filter_same _ stays _ (λ x b f' k. search (rules, tests)) _ _ c.retain.ensures.filtered
    ∙ ap (filter stays) c.self.view_is
