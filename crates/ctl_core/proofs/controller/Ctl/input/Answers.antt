use Rattle.std.proofs.Common.{◌≡◌, ◌∙◌, Option, IfOk, ap, subst}
use Rattle.backfill_planner.specs.Plans.{PlannedView}
use Rattle.ctl_pass.specs.Views.{InputView}
use Rattle.ctl_core.specs.Views.{CtlView}
use Rattle.ctl_core.proofs.controller.Ctl.input.Goals as goal

pub returns-clause-input : goal.returns-clause-input
returns-clause-input c = rw (← ap (λ (v : CtlView). v.state) c.self.view_is) c.find_input.ensures.input

pub returns-clause-kept : goal.returns-clause-kept
returns-clause-kept c =
    subst (λ (kept : Option PlannedView). IfOk c.find_input.result (λ (input : InputView). input.kept ≡ kept))
    (c.as_ref.ensures.value ∙ ap (λ (v : CtlView). v.kept) c.self.view_is) c.find_input.ensures.kept
