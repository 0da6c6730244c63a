use Rattle.request_data.specs.declared.request.Request.TheVariants.{Pass}
use Rattle.std.proofs.Common.{IfOk, IfSome, ap, refl, subst}
use Rattle.backfill_planner.specs.Plans.{PlannedView}
use Rattle.ctl_state.specs.State.{State}
use Rattle.ctl_core.specs.Step.{IsHinted}
use Rattle.ctl_desk.specs.Desk.{Seat, seen, state_at}
use Rattle.ctl_desk.specs.History.{entry_of, after_all, history_in}
use Rattle.ctl_desk.proofs.Owning.{at_book, own_goes_on, own_answered, own_counted, own_counted_up_to, own_there, own_there_err, stays_past}
use Rattle.ctl_desk.proofs.own_desk.OwnDeskDesk.pass.Goals as goal

pub returns-clause-goes_on : goal.returns-clause-goes_on
returns-clause-goes_on c =
    let h = history_in c.self.inside.book in
    let entry = entry_of (after_all h.opening h.entries) 0 c.args.now c.args.user.now Pass in
    rw (← c.self.view_is)
    (own_goes_on _ c.self.inside.before entry h (history_in c.pass.new.self) c.self.invariant refl c.pass.ensures.opening
    c.pass.ensures.entries
    (stays_past c.pass.result c.self.inside.book c.pass.new.self c.pass.ensures.err))

pub returns-clause-answered : goal.returns-clause-answered
returns-clause-answered c =
    let called = c.pass.ensures in
    rw (← c.self.view_is)
    (own_answered _ c.args.now c.args.user.now Pass c.self.inside.before (history_in c.self.inside.book)
    (history_in c.pass.new.self)
    c.self.invariant called.opening called.reply called.place called.entries)

pub returns-clause-steps : goal.returns-clause-steps
returns-clause-steps c =
    let called = c.pass.ensures in
    rw (← c.self.view_is)
    (own_counted _ c.args.now c.args.user.now c.self.inside.before _ _ (history_in c.self.inside.book)
    (history_in c.pass.new.self)
    called.place called.entries called.steps)

pub returns-clause-steps_err : goal.returns-clause-steps_err
returns-clause-steps_err c =
    let called = c.pass.ensures in
    own_counted_up_to _ c.args.now c.args.user.now c.self.inside.before _ _ (history_in c.self.inside.book)
    (history_in c.pass.new.self)
    (stays_past c.pass.result c.self.inside.book c.pass.new.self called.err) called.steps

pub returns-clause-over : goal.returns-clause-over
returns-clause-over c =
    let called = c.pass.ensures in
    let hinted = λ (s : State). IfSome c.args.hint (λ (hint : PlannedView).
    IsHinted hint s c.args.now c.args.steps.now c.pass.new.steps) in
    subst (λ (opening : State). IfOk c.pass.result (λ answer. hinted
    (state_at opening (seen (at_book c.self.inside.before (history_in c.pass.new.self))) answer.place)))
    (ap (λ (seat : Seat). seat.opening) c.self.view_is)
    (own_there hinted c.pass.result c.args.now c.args.user.now c.self.inside.before (history_in c.self.inside.book)
    (history_in c.pass.new.self)
    called.place called.entries called.over)

pub returns-clause-over_err : goal.returns-clause-over_err
returns-clause-over_err c =
    let called = c.pass.ensures in
    let hinted = λ (s : State). IfSome c.args.hint (λ (hint : PlannedView).
    IsHinted hint s c.args.now c.args.steps.now c.pass.new.steps) in
    own_there_err hinted c.pass.result c.self.inside.before (history_in c.self.inside.book)
    (history_in c.pass.new.self) (stays_past c.pass.result c.self.inside.book c.pass.new.self called.err) called.over
