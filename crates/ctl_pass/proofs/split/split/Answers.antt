use Rattle.std.proofs.Common.{ap, sym, ◌∙◌}
use Rattle.std.proofs.lemmas.Result.{IfOk-weaker, on_ok_weaker}
use Rattle.ctl_state.specs.State.{state_of}
use Rattle.ctl_pass.specs.Awaiting.{placements_of}
use Rattle.ctl_pass.specs.Readiness.{goes, jobs_left, placements}
use Rattle.ctl_pass.specs.Starting.{due, started}
use Rattle.ctl_pass.proofs.Due.{due-jobs}
use Rattle.ctl_pass.proofs.Planned.{can-begin-ready}
use Rattle.ctl_pass.proofs.Readied.{going}
use Rattle.ctl_pass.proofs.Splits.{none-starts}
use Rattle.ctl_pass.proofs.Tasks.{holding-left}
use Rattle.ctl_pass.proofs.split.split.Goals as goal

pub returns-then-not-any_begins-clause-starts : goal.returns-then-not-any_begins-clause-starts
returns-then-not-any_begins-clause-starts c =
    let s = state_of c.args.cluster.now in
    let none = rw (c.deref.ensures.value, c.requires.plan) at (sym c.any_begins.ensures ∙ c.if-not-any_begins.true) in
    ap placements_of c.new.ensures.items
    ∙ sym (none-starts s c.args.now (jobs_left s c.args.now) (placements s c.args.now) none).0

pub returns-then-not-any_begins-clause-stays : goal.returns-then-not-any_begins-clause-stays
returns-then-not-any_begins-clause-stays c =
    let s = state_of c.args.cluster.now in
    let none = rw (c.deref.ensures.value, c.requires.plan) at (sym c.any_begins.ensures ∙ c.if-not-any_begins.true) in
    c.requires.plan ∙ sym (none-starts s c.args.now (jobs_left s c.args.now) (placements s c.args.now) none).1

pub returns-clause-starts : goal.returns-clause-starts
returns-clause-starts c =
    let s = state_of c.args.cluster.now in
    let left = jobs_left s c.args.now in
    let sound = c.what_a_pass_plans_is_sound.ensures s c.args.now c.requires.sound c.requires.raised
    c.requires.in_time in
    let can = can-begin-ready c.who_is_awaited_stays.ensures.changes
    c.a_stable_sort_makes_the_order.ensures.moves c.a_stable_sort_makes_the_order.ensures.apart
    c.placements_are_of_ranked_jobs.ensures.ids c.placements_are_of_ranked_jobs.ensures.apart s c.args.now c.args.tally.now
    c.args.placements.items c.requires.sound sound c.requires.plan c.requires.counted in
    IfOk-weaker c.settle.result _ _ (λ both has. has left can
    ∙ ap (λ plan. due s c.args.now left plan) c.requires.plan) c.settle.ensures.starts

pub returns-clause-stays : goal.returns-clause-stays
returns-clause-stays c =
    let s = state_of c.args.cluster.now in
    let left = jobs_left s c.args.now in
    let sound = c.what_a_pass_plans_is_sound.ensures s c.args.now c.requires.sound c.requires.raised
    c.requires.in_time in
    let can = can-begin-ready c.who_is_awaited_stays.ensures.changes
    c.a_stable_sort_makes_the_order.ensures.moves c.a_stable_sort_makes_the_order.ensures.apart
    c.placements_are_of_ranked_jobs.ensures.ids c.placements_are_of_ranked_jobs.ensures.apart s c.args.now c.args.tally.now
    c.args.placements.items c.requires.sound sound c.requires.plan c.requires.counted in
    IfOk-weaker c.settle.result _ _ (λ both has. has left can
    ∙ ap (λ plan. (started s c.args.now left plan).stays) c.requires.plan) c.settle.ensures.stays

pub returns-then-not-any_begins-clause-after : goal.returns-then-not-any_begins-clause-after
returns-then-not-any_begins-clause-after c =
    let s = state_of c.args.cluster.now in
    let now = c.args.now in
    let left = jobs_left s now in
    let none = rw (c.deref.ensures.value, c.requires.plan) at (sym c.any_begins.ensures ∙ c.if-not-any_begins.true) in
    let gone = going c.who_is_awaited_stays.ensures.changes s now in
    rw (
      due-jobs s now left (placements s now),
      (none-starts s now left (placements s now) none).0,
      holding-left now (goes s now) s.jobs gone,
    ) c.requires.counted

pub returns-clause-after : goal.returns-clause-after
returns-clause-after c =
    let s = state_of c.args.cluster.now in
    let left = jobs_left s c.args.now in
    let sound = c.what_a_pass_plans_is_sound.ensures s c.args.now c.requires.sound c.requires.raised
    c.requires.in_time in
    let can = can-begin-ready c.who_is_awaited_stays.ensures.changes
    c.a_stable_sort_makes_the_order.ensures.moves c.a_stable_sort_makes_the_order.ensures.apart
    c.placements_are_of_ranked_jobs.ensures.ids c.placements_are_of_ranked_jobs.ensures.apart s c.args.now c.args.tally.now
    c.args.placements.items c.requires.sound sound c.requires.plan c.requires.counted in
    on_ok_weaker c.settle.result (λ shows. rw (← c.requires.plan) (shows left can)) c.settle.ensures.counted
