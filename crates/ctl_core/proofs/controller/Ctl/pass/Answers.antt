use Rattle.std.proofs.Common.{◌≡◌, Option, IfSome, OnOk, ap, subst}
use Rattle.std.specs.Prelude.{IfNone}
use Rattle.request_data.specs.declared.request.Request.TheVariants.{Pass}
use Rattle.backfill_planner.specs.Plans.{PlannedView}
use Rattle.ctl_state.specs.State.{state_of}
use Rattle.ctl_core.specs.Step.{IsHinted, kept_after, nearest}
use Rattle.ctl_core.specs.Views.{CtlView}
use Rattle.ctl_core.proofs.Keeping.{over-hint, over-kept}
use Rattle.ctl_core.proofs.controller.Ctl.pass.Goals as goal

pub returns-clause-reply : goal.returns-clause-reply
returns-clause-reply g c = rw (← ap (λ (v : CtlView). v.state) c.self.view_is) c.ask.ensures.reply

pub returns-clause-after : goal.returns-clause-after
returns-clause-after g c = rw (← ap (λ (v : CtlView). v.state) c.self.view_is) c.ask.ensures.after

pub returns-clause-kept : goal.returns-clause-kept
returns-clause-kept g c =
    subst (λ (v : CtlView). OnOk c.ask.result
    (c.ask.new.kept ≡ kept_after v.state v.kept c.args.now c.args.user.now Pass)) c.self.view_is
    c.ask.ensures.kept

pub returns-clause-steps : goal.returns-clause-steps
returns-clause-steps g c = rw (← ap (λ (v : CtlView). v.state) c.self.view_is) c.ask.ensures.counted.0

pub returns-clause-over : goal.returns-clause-over
returns-clause-over g c =
    subst (λ (v : CtlView). IfSome c.args.hint (λ (old : PlannedView).
    IsHinted old v.state c.args.now c.args.steps.now c.ask.new.steps)) c.self.view_is
    (over-hint c.args.hint c.self.inside.kept
    (λ (old : PlannedView). IsHinted old (state_of c.self.inside.cluster) c.args.now c.args.steps.now c.ask.new.steps)
    (subst (λ (hint : Option PlannedView). IfSome (nearest hint c.self.inside.kept) (λ (old : PlannedView).
    IsHinted old (state_of c.self.inside.cluster) c.args.now c.args.steps.now c.ask.new.steps))
    c.as_ref-older.ensures.value c.ask.ensures.counted.1))

pub returns-clause-over_kept : goal.returns-clause-over_kept
returns-clause-over_kept g c =
    subst (λ (v : CtlView). IfNone c.args.hint (IfSome v.kept (λ (old : PlannedView).
    IsHinted old v.state c.args.now c.args.steps.now c.ask.new.steps))) c.self.view_is
    (over-kept c.args.hint c.self.inside.kept
    (λ (old : PlannedView). IsHinted old (state_of c.self.inside.cluster) c.args.now c.args.steps.now c.ask.new.steps)
    (subst (λ (hint : Option PlannedView). IfSome (nearest hint c.self.inside.kept) (λ (old : PlannedView).
    IsHinted old (state_of c.self.inside.cluster) c.args.now c.args.steps.now c.ask.new.steps))
    c.as_ref-older.ensures.value c.ask.ensures.counted.1))
