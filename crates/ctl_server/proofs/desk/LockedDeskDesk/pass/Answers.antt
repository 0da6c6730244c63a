use Rattle.std.proofs.Common.{rules, ◌≡◌, Option, Some, IfSome, sym, ap, ◌∙◌, subst}
use Rattle.backfill_planner.specs.Plans.{PlannedView}
use Rattle.ctl_state.specs.State.{State}
use Rattle.ctl_core.specs.Step.{IsHinted}
use Rattle.ctl_server.specs.Locked.{BookView, LockedSeat}
use Rattle.ctl_server.proofs.Locking.{adds_to, tail_of, turn_worked, keeps_desk, seat_goes_on, seat_answered, seat_counted, seat_counted_up_to, seat_there, seat_there_err}
use Rattle.ctl_server.proofs.desk.LockedDeskDesk.pass.Goals as goal

pub leave-pass-requires-clause-entries : goal.leave-pass-requires-clause-entries
leave-pass-requires-clause-entries g c =
    adds_to c.enter-held.result.turn c.enter-held.result.value c.pass_book-answer.new.book c.number-number.result c.number-number.ensures.number c.enter-held.ensures.entries
    (tail_of _ _ _ _ _ _ _ c.pass_book-answer.ensures.worked)

pub invariant_of-self : goal.invariant_of-self
invariant_of-self g c =
    let is : c.self.inside.pass ≡ Some c.in-Some.pass = search rules in
    let t = turn_worked _ _ _ _ _ c.self.inside.pass c.in-Some.pass c.enter-held.result.turn c.leave-pass.result _ _ c.number-number.result _ _ _ _ c.self.invariant is c.enter-held.ensures c.number-number.ensures.known c.number-number.ensures.number c.pass_book-answer.ensures.worked c.leave-pass.ensures in
    keeps_desk t _ _ c.number.ensures.known c.len-self-inside.ensures.history c.len-self-inside.ensures.len (search rules)

pub returns-clause-goes_on : goal.returns-clause-goes_on
returns-clause-goes_on g c =
    let is : c.self.inside.pass ≡ Some c.in-Some.pass = search rules in
    let t = turn_worked _ _ _ _ _ c.self.inside.pass c.in-Some.pass c.enter-held.result.turn c.leave-pass.result _ _ c.number-number.result _ _ _ _ c.self.invariant is c.enter-held.ensures c.number-number.ensures.known c.number-number.ensures.number c.pass_book-answer.ensures.worked c.leave-pass.ensures in
    seat_goes_on t c.args.self.now
    (ap (λ (o : Option BookView). record { opening = c.self.inside.first.value.opening; before = c.self.inside.before; pass = o }) (sym is) ∙ c.self.view_is)

pub returns-clause-answered : goal.returns-clause-answered
returns-clause-answered g c =
    let is : c.self.inside.pass ≡ Some c.in-Some.pass = search rules in
    let t = turn_worked _ _ _ _ _ c.self.inside.pass c.in-Some.pass c.enter-held.result.turn c.leave-pass.result _ _ c.number-number.result _ _ _ _ c.self.invariant is c.enter-held.ensures c.number-number.ensures.known c.number-number.ensures.number c.pass_book-answer.ensures.worked c.leave-pass.ensures in
    seat_answered t c.args.self.now
    (ap (λ (o : Option BookView). record { opening = c.self.inside.first.value.opening; before = c.self.inside.before; pass = o }) (sym is) ∙ c.self.view_is)
    _ _ _ _ c.number-number.result c.number-number.ensures.number c.pass_book-answer.ensures.worked

pub returns-clause-steps : goal.returns-clause-steps
returns-clause-steps g c =
    let is : c.self.inside.pass ≡ Some c.in-Some.pass = search rules in
    let t = turn_worked _ _ _ _ _ c.self.inside.pass c.in-Some.pass c.enter-held.result.turn c.leave-pass.result _ _ c.number-number.result _ _ _ _ c.self.invariant is c.enter-held.ensures c.number-number.ensures.known c.number-number.ensures.number c.pass_book-answer.ensures.worked c.leave-pass.ensures in
    seat_counted t c.args.self.now
    (ap (λ (o : Option BookView). record { opening = c.self.inside.first.value.opening; before = c.self.inside.before; pass = o }) (sym is) ∙ c.self.view_is)
    _ _ _ _ _ _ c.pass_book-answer.ensures.worked c.pass_book-answer.ensures.steps

pub returns-clause-steps_err : goal.returns-clause-steps_err
returns-clause-steps_err g c =
    let is : c.self.inside.pass ≡ Some c.in-Some.pass = search rules in
    let t = turn_worked _ _ _ _ _ c.self.inside.pass c.in-Some.pass c.enter-held.result.turn c.leave-pass.result _ _ c.number-number.result _ _ _ _ c.self.invariant is c.enter-held.ensures c.number-number.ensures.known c.number-number.ensures.number c.pass_book-answer.ensures.worked c.leave-pass.ensures in
    seat_counted_up_to t _ _ _ _ _ _ c.pass_book-answer.ensures.worked c.pass_book-answer.ensures.steps

pub returns-clause-over : goal.returns-clause-over
returns-clause-over g c =
    let is : c.self.inside.pass ≡ Some c.in-Some.pass = search rules in
    let t = turn_worked _ _ _ _ _ c.self.inside.pass c.in-Some.pass c.enter-held.result.turn c.leave-pass.result _ _ c.number-number.result _ _ _ _ c.self.invariant is c.enter-held.ensures c.number-number.ensures.known c.number-number.ensures.number c.pass_book-answer.ensures.worked c.leave-pass.ensures in
    let hinted = λ (s : State). IfSome c.args.hint (λ (hint : PlannedView). IsHinted hint s c.args.now c.args.steps.now c.pass_book-answer.new.steps) in
    seat_there t c.args.self.now
    (ap (λ (o : Option BookView). record { opening = c.self.inside.first.value.opening; before = c.self.inside.before; pass = o }) (sym is) ∙ c.self.view_is)
    hinted _ _ _ _ _ c.pass_book-answer.ensures.worked c.pass_book-answer.ensures.over

pub returns-clause-over_err : goal.returns-clause-over_err
returns-clause-over_err g c =
    let is : c.self.inside.pass ≡ Some c.in-Some.pass = search rules in
    let t = turn_worked _ _ _ _ _ c.self.inside.pass c.in-Some.pass c.enter-held.result.turn c.leave-pass.result _ _ c.number-number.result _ _ _ _ c.self.invariant is c.enter-held.ensures c.number-number.ensures.known c.number-number.ensures.number c.pass_book-answer.ensures.worked c.leave-pass.ensures in
    let hinted = λ (s : State). IfSome c.args.hint (λ (hint : PlannedView). IsHinted hint s c.args.now c.args.steps.now c.pass_book-answer.new.steps) in
    seat_there_err t hinted _ _ _ _ _ c.pass_book-answer.ensures.worked c.pass_book-answer.ensures.over
