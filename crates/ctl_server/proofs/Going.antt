-- A desk that goes on twice goes on.
use Rattle.std.proofs.Common.{◌≡◌, ◌∙◌, ◌==◌, List, ◌++◌, sym, ap, append_assoc}
use Rattle.std.proofs.lemmas.List.Elements.{filter-append}
use Rattle.ctl_desk.specs.declared.entry.Entry.{Entry}
use Rattle.ctl_desk.specs.Desk.{Sight, GoesOn, later}
use Rattle.ctl_desk.specs.History.{of_session}

later_twice : (desk : Sight) (more again : List Entry) → later (later desk more) again ≡ later desk (more ++ again)
later_twice desk more again =
    let since : (desk.since ++ more) ++ again ≡ desk.since ++ (more ++ again) = append_assoc desk.since more again in
    let mine : (desk.mine ++ of_session desk.number more) ++ of_session desk.number again
    ≡ desk.mine ++ of_session desk.number (more ++ again) =
    append_assoc desk.mine (of_session desk.number more) (of_session desk.number again)
    ∙ ap (λ (es : List Entry). desk.mine ++ es) (sym (filter-append (λ (e : Entry). e.session == desk.number) more again)) in
    λ i. record desk { since = since i; mine = mine i }

pub goes_on_twice : (desk middle desk' : Sight) → GoesOn desk middle → GoesOn middle desk' → GoesOn desk desk'
goes_on_twice desk middle desk' first next = (
  first.0 ++ next.0,
  next.1 ∙ (ap (λ (d : Sight). later d next.0) first.1 ∙ later_twice desk first.0 next.0),
)
