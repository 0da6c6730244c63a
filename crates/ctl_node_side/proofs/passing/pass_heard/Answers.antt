use Rattle.std.proofs.Common.{◌∙◌, Some, ap, refl, subst, sym}
use Rattle.std.specs.Prelude.{option_copied}
use Rattle.backfill_planner.specs.Plans.{PlannedView}
use Rattle.ctl_state.specs.State.{state_of}
use Rattle.ctl_node_side.specs.declared.passing.PassOutcome.TheVariants.{Idle}
use Rattle.ctl_node_side.specs.Came.{Came}
use Rattle.ctl_node_side.proofs.Coming.{came_passed}
use Rattle.ctl_node_side.proofs.Made.{made-there}
use Rattle.ctl_node_side.proofs.Over.{over-found}
use Rattle.ctl_node_side.proofs.Silent.{silenced_none}
use Rattle.ctl_node_side.proofs.passing.pass_heard.Goals as goal

pub returns-clause-came : goal.returns-clause-came
returns-clause-came g c =
    let s = state_of c.args.cluster.now in
    let after = state_of c.finish.new.cluster in
    subst (Came s after c.args.moment c.args.room) (sym c.finish.ensures.passed)
    (came_passed s after c.args.moment c.in_ok-decided.decided.ended c.args.room c.requires.heard
    (sym c.is_idle.ensures ∙ c.if-is_idle.false) c.if-not-room.false
    c.in_ok-decided.ensures.decided.ended c.finish.ensures.after)

pub returns-then-is_idle-clause-plan : goal.returns-then-is_idle-clause-plan
returns-then-is_idle-clause-plan g c =
    let s = state_of c.args.cluster.now in
    made-there s s c.args.moment Idle Idle (Some c.in_ok-decided.decided.planned)
    (sym (silenced_none s c.args.moment c.requires.heard)) refl
    (ap (λ (plan : PlannedView). Some plan) c.in_ok-decided.ensures.decided.planned)

pub returns-clause-plan : goal.returns-clause-plan
returns-clause-plan g c =
    let s = state_of c.args.cluster.now in
    made-there s s c.args.moment c.finish.result.outcome _ c.finish.result.plan
    (sym (silenced_none s c.args.moment c.requires.heard)) c.finish.ensures.passed c.finish.ensures.plan

pub returns-in_err-decided-clause-over : goal.returns-in_err-decided-clause-over
returns-in_err-decided-clause-over g c =
    let s = state_of c.args.cluster.now in
    over-found (option_copied c.args.older) s s c.args.moment c.args.steps.now c.decide.new.steps
    (sym (silenced_none s c.args.moment c.requires.heard)) c.in_err-decided.ensures.over

pub returns-then-is_idle-clause-over : goal.returns-then-is_idle-clause-over
returns-then-is_idle-clause-over g c =
    let s = state_of c.args.cluster.now in
    over-found (option_copied c.args.older) s s c.args.moment c.args.steps.now c.decide.new.steps
    (sym (silenced_none s c.args.moment c.requires.heard)) c.in_ok-decided.ensures.over

pub returns-then-not-room-clause-over : goal.returns-then-not-room-clause-over
returns-then-not-room-clause-over g c =
    let s = state_of c.args.cluster.now in
    over-found (option_copied c.args.older) s s c.args.moment c.args.steps.now c.decide.new.steps
    (sym (silenced_none s c.args.moment c.requires.heard)) c.in_ok-decided.ensures.over

pub returns-clause-over : goal.returns-clause-over
returns-clause-over g c =
    let s = state_of c.args.cluster.now in
    over-found (option_copied c.args.older) s s c.args.moment c.args.steps.now c.decide.new.steps
    (sym (silenced_none s c.args.moment c.requires.heard)) c.in_ok-decided.ensures.over
