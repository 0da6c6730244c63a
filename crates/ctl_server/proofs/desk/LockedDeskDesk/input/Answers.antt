use Rattle.std.proofs.Common.{rules, ◌≡◌, Option, Some, IfOk, refl, sym, ap, ◌∙◌, subst}
use Rattle.ctl_pass.specs.Views.{InputView}
use Rattle.ctl_state.specs.State.{State}
use Rattle.ctl_core.specs.Step.{input_at}
use Rattle.ctl_desk.specs.History.{BookState}
use Rattle.ctl_server.specs.Locked.{BookView, LockedSeat}
use Rattle.ctl_server.proofs.Locking.{adds_none, turn_asked, keeps_desk, seat_goes_on, seat_mine, seen_present}
use Rattle.ctl_server.proofs.desk.LockedDeskDesk.input.Goals as goal

pub leave-pass-requires-clause-entries : goal.leave-pass-requires-clause-entries
leave-pass-requires-clause-entries g c =
    adds_none c.enter-held.result.turn c.input-input.new.self
    (ap (λ (h : BookState). h.entries) c.input-input.ensures.stays ∙ c.enter-held.ensures.entries)

pub invariant_of-self : goal.invariant_of-self
invariant_of-self g c =
    let is : c.self.inside.pass ≡ Some c.in-Some.pass = search rules in
    let t = turn_asked _ _ _ _ _ c.self.inside.pass c.in-Some.pass c.enter-held.result.turn c.leave-pass.result c.enter-held.result.value c.input-input.new.self c.self.invariant is c.enter-held.ensures c.number.ensures.known c.input-input.ensures.stays c.leave-pass.ensures in
    keeps_desk t _ _ c.number-2.ensures.known c.len-self-inside.ensures.history c.len-self-inside.ensures.len (search rules)

pub returns-clause-goes_on : goal.returns-clause-goes_on
returns-clause-goes_on g c =
    let is : c.self.inside.pass ≡ Some c.in-Some.pass = search rules in
    let t = turn_asked _ _ _ _ _ c.self.inside.pass c.in-Some.pass c.enter-held.result.turn c.leave-pass.result c.enter-held.result.value c.input-input.new.self c.self.invariant is c.enter-held.ensures c.number.ensures.known c.input-input.ensures.stays c.leave-pass.ensures in
    seat_goes_on t c.args.self.now
    (ap (λ (o : Option BookView). record { opening = c.self.inside.first.value.opening; before = c.self.inside.before; pass = o }) (sym is) ∙ c.self.view_is)

pub returns-clause-mine : goal.returns-clause-mine
returns-clause-mine g c =
    let is : c.self.inside.pass ≡ Some c.in-Some.pass = search rules in
    let t = turn_asked _ _ _ _ _ c.self.inside.pass c.in-Some.pass c.enter-held.result.turn c.leave-pass.result c.enter-held.result.value c.input-input.new.self c.self.invariant is c.enter-held.ensures c.number.ensures.known c.input-input.ensures.stays c.leave-pass.ensures in
    seat_mine t c.args.self.now
    (ap (λ (o : Option BookView). record { opening = c.self.inside.first.value.opening; before = c.self.inside.before; pass = o }) (sym is) ∙ c.self.view_is)
    refl

pub returns-clause-input : goal.returns-clause-input
returns-clause-input g c =
    let is : c.self.inside.pass ≡ Some c.in-Some.pass = search rules in
    let t = turn_asked _ _ _ _ _ c.self.inside.pass c.in-Some.pass c.enter-held.result.turn c.leave-pass.result c.enter-held.result.value c.input-input.new.self c.self.invariant is c.enter-held.ensures c.number.ensures.known c.input-input.ensures.stays c.leave-pass.ensures in
    subst (λ (s : State). IfOk c.input-input.result (λ (input : InputView). input.parts ≡ input_at s c.args.now))
    (sym (seen_present t refl)) c.input-input.ensures.input
