use Rattle.std.proofs.Common.{◌≡◌, ap, ◌∙◌, sym, subst, ℕ, Option, IfSome}
use Rattle.std.specs.Prelude.{IfNone}
use Rattle.request_data.specs.declared.request.Request.TheVariants.{Pass}
use Rattle.ctl_state.specs.State.{State}
use Rattle.backfill_planner.specs.Plans.{PlannedView}
use Rattle.ctl_core.specs.Step.{IsHinted, kept_after, raised, reply_of, steps_of}
use Rattle.ctl_desk.specs.History.{BookState, history_in, present}
use Rattle.ctl_desk.proofs.Entered.{entered_as}
use Rattle.ctl_desk.proofs.Entering.{IsHistory-decided}
use Rattle.resource_profile.specs.Counts.{IsTickedUpTo}
use Rattle.ctl_desk.proofs.book.Book.pass.Goals as goal

pub invariant_of-self : goal.invariant_of-self
invariant_of-self g c =
    let decided = c.in-Ok.ensures in
    IsHistory-decided c.passes_are_free.ensures
    (record { opening = c.self.inside.opening.state; entries = c.self.inside.entries.items })
    c.args.session c.args.now c.args.user.now Pass c.in-Ok.decided c.self.inside.ctl.state
    c.decide_pass.new.ctl.state c.enter.new.entries.items
    (record {
      reply = c.raised_moments_decide_alike.ensures.reply;
      state =
          c.raised_moments_decide_alike.ensures.state;
    })
    c.self.invariant.0
    c.self.invariant.1
    (record { reply = decided.reply; moment = decided.moment; after = decided.after; sound = decided.sound })
    (rw (decided.name, decided.items) at c.enter.ensures.entries)

pub returns-in-Ok-clause-reply : goal.returns-in-Ok-clause-reply
returns-in-Ok-clause-reply g c =
    c.enter.ensures.reply ∙ c.in-Ok.ensures.reply
    ∙ ap (λ (s : State). reply_of s c.args.now c.args.user.now Pass)
    (c.self.invariant.1 ∙ ap (λ (book : BookState). present (history_in book)) c.self.view_is)

pub returns-in-Err-clause-steps : goal.returns-in-Err-clause-steps
returns-in-Err-clause-steps g c = rw (sym (c.self.invariant.1 ∙ ap (λ (book : BookState). present (history_in book)) c.self.view_is)) c.in-Err.ensures.steps

pub returns-in-Ok-clause-steps : goal.returns-in-Ok-clause-steps
returns-in-Ok-clause-steps g c = rw (sym (c.self.invariant.1 ∙ ap (λ (book : BookState). present (history_in book)) c.self.view_is)) c.in-Ok.ensures.steps

pub returns-in-Ok-clause-entries : goal.returns-in-Ok-clause-entries
returns-in-Ok-clause-entries g c =
    let h = c.args.self.now in
    let now = c.args.now in
    let user = c.args.user.now in
    let decided = c.in-Ok.ensures in
    let same : c.self.inside.ctl.state ≡ present (history_in h) =
    c.self.invariant.1 ∙ ap (λ (book : BookState). present (history_in book)) c.self.view_is in
    entered_as c.enter.new.entries.items c.decide_pass.new.entries.items h.entries c.args.session c.in-Ok.decided.moment
    (raised (present (history_in h)) now) c.in-Ok.name user Pass c.in-Ok.decided.reply
    (reply_of (present (history_in h)) now user Pass) c.enter.result.reply c.enter.ensures.entries c.enter.ensures.reply
    (decided.items ∙ ap (λ (book : BookState). book.entries) c.self.view_is)
    (decided.moment ∙ ap (λ (s : State). raised s now) same) decided.name
    (decided.reply ∙ ap (λ (s : State). reply_of s now user Pass) same)

pub returns-in-Err-clause-over : goal.returns-in-Err-clause-over
returns-in-Err-clause-over g c =
    subst (λ (s : State). IfSome c.args.hint (λ (hint : PlannedView).
    IsHinted hint s c.args.now c.args.steps.now c.decide_pass.new.steps))
    (c.self.invariant.1 ∙ ap (λ (book : BookState). present (history_in book)) c.self.view_is) c.in-Err.ensures.over

pub returns-in-Ok-clause-over : goal.returns-in-Ok-clause-over
returns-in-Ok-clause-over g c =
    subst (λ (s : State). IfSome c.args.hint (λ (hint : PlannedView).
    IsHinted hint s c.args.now c.args.steps.now c.decide_pass.new.steps))
    (c.self.invariant.1 ∙ ap (λ (book : BookState). present (history_in book)) c.self.view_is) c.in-Ok.ensures.over

pub returns-in-Ok-clause-kept : goal.returns-in-Ok-clause-kept
returns-in-Ok-clause-kept g c =
    let h = c.args.self.now in
    let now = c.args.now in
    let user = c.args.user.now in
    c.in-Ok.ensures.kept
    ∙ ap (λ (s : State). kept_after s c.self.inside.ctl.kept now user Pass)
    (c.self.invariant.1 ∙ ap (λ (book : BookState). present (history_in book)) c.self.view_is)
    ∙ ap (λ (kept : Option PlannedView). kept_after (present (history_in h)) kept now user Pass)
    (ap (λ (book : BookState). book.kept) c.self.view_is)

pub returns-in-Err-clause-over_kept : goal.returns-in-Err-clause-over_kept
returns-in-Err-clause-over_kept g c =
    subst (λ (book : BookState). IfNone c.args.hint (IfSome book.kept (λ (kept : PlannedView).
    IsHinted kept (present (history_in book)) c.args.now c.args.steps.now c.decide_pass.new.steps))) c.self.view_is
    (subst (λ (s : State). IfNone c.args.hint (IfSome c.self.inside.ctl.kept (λ (kept : PlannedView).
    IsHinted kept s c.args.now c.args.steps.now c.decide_pass.new.steps))) c.self.invariant.1
    c.in-Err.ensures.over_kept)

pub returns-in-Ok-clause-over_kept : goal.returns-in-Ok-clause-over_kept
returns-in-Ok-clause-over_kept g c =
    subst (λ (book : BookState). IfNone c.args.hint (IfSome book.kept (λ (kept : PlannedView).
    IsHinted kept (present (history_in book)) c.args.now c.args.steps.now c.decide_pass.new.steps))) c.self.view_is
    (subst (λ (s : State). IfNone c.args.hint (IfSome c.self.inside.ctl.kept (λ (kept : PlannedView).
    IsHinted kept s c.args.now c.args.steps.now c.decide_pass.new.steps))) c.self.invariant.1
    c.in-Ok.ensures.over_kept)
