use Rattle.std.proofs.Common.{◌≡◌, OnOk, ap, subst}
use Rattle.ctl_core.specs.Step.{kept_after}
use Rattle.ctl_core.specs.Views.{CtlView}
use Rattle.ctl_core.proofs.controller.Ctl.ask.Goals as goal

pub returns-clause-reply : goal.returns-clause-reply
returns-clause-reply c = rw (← ap (λ (v : CtlView). v.state) c.self.view_is) c.ask.ensures.reply

pub returns-clause-kept : goal.returns-clause-kept
returns-clause-kept c =
    subst (λ (v : CtlView). OnOk c.ask.result
    (c.ask.new.kept ≡ kept_after v.state v.kept c.args.now c.args.user.now c.args.request.now)) c.self.view_is
    c.ask.ensures.kept
