use Rattle.std.proofs.Common.{◌≡◌, IfOk, ap, subst, sym}
use Rattle.ctl_pass.specs.Views.{InputView}
use Rattle.ctl_state.specs.State.{State}
use Rattle.ctl_core.specs.Step.{input_at}
use Rattle.ctl_desk.specs.Desk.{GoesOn}
use Rattle.ctl_desk.specs.History.{BookState, history_in}
use Rattle.ctl_desk.proofs.Owning.{at_book, goes_nowhere, own_present}
use Rattle.ctl_desk.proofs.own_desk.OwnDeskDesk.input.Goals as goal

pub returns-clause-goes_on : goal.returns-clause-goes_on
returns-clause-goes_on c =
    let before = c.self.inside.before in
    let old = history_in c.self.inside.book in
    rw (← c.self.view_is)
    (subst (λ (book : BookState). GoesOn (at_book before old) (at_book before (history_in book))) (sym c.input.ensures.stays)
    (goes_nowhere (at_book before old)))

pub returns-clause-input : goal.returns-clause-input
returns-clause-input c =
    subst (λ (s : State). IfOk c.input.result (λ (input : InputView). input.parts ≡ input_at s c.args.now))
    (sym (own_present c.self.inside.before (history_in c.self.inside.book) (history_in c.input.new.self)
    (ap (λ (book : BookState). history_in book) c.input.ensures.stays)))
    c.input.ensures.input
