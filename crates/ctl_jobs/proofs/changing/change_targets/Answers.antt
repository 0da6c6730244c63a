use Rattle.std.proofs.Common.{◌∙◌, ap, map, sym}
use Rattle.std.proofs.lemmas.List.{drop_all, map-id}
use Rattle.ctl_state.specs.State.{state_of}
use Rattle.ctl_jobs.specs.Changing.{are_naming, done_if}
use Rattle.ctl_jobs.proofs.Changed.{next_target, others_stay, still_rising, still_together}
use Rattle.ctl_jobs.proofs.changing.change_targets.Goals as goal

pub loop-target-preserved : goal.loop-target-preserved
loop-target-preserved c =
    let s = state_of c.args.cluster.now in
    let before = state_of c.loop-target.cluster in
    let after = state_of c.change_target.new.cluster in
    let jobs = c.loop-target.cluster.jobs.records in
    let held = c.loop-target.invariant in
    let now = c.args.moment in
    let user = c.args.user.now in
    let action = c.args.action.now in
    record {
      others = others_stay s before after now user action _ jobs _ _ held.others c.change_target.ensures.after;
      rest = next_target s before after now user action c.args.targets.now c.loop-target.target-index _ jobs _ _ held.others
          c.change_target.ensures.after c.loop-target-test.true
          ∙ held.rest;
      charges = c.who_leaves_is_charged.ensures.on now _ _ _ held.charges c.change_target.ensures.charges;
      held = c.change_target.ensures.held ∙ held.held;
      rising = still_rising s before after now user action _ jobs _ _ held.others c.change_target.ensures.after held.rising;
      together = still_together s before after now user action _ jobs _ _ held.others c.change_target.ensures.after
          held.together;
    }

pub returns-clause-after : goal.returns-clause-after
returns-clause-after c =
    let s = state_of c.args.cluster.now in
    let jobs = c.loop-target.cluster.jobs.records in
    let targets = c.args.targets.now in
    c.loop-target.invariant.others
    ∙ ap (λ jobs. record s { jobs = jobs; usage = c.loop-target.cluster.jobs.usage })
    (sym (map-id jobs)
    ∙ ap (λ later. map (done_if s c.args.moment c.args.user.now c.args.action.now (are_naming later)) jobs)
    (sym (drop_all c.loop-target.target-index targets c.loop-target-test.false))
    ∙ c.loop-target.invariant.rest)
