use Rattle.std.proofs.Common.{◌≡◌, ◌≤◌, List, [], map, get_or, unwrap_or, All, None, Some, subst, ap, sym, refl, ◌∙◌, arith}
use Rattle.std.proofs.lemmas.Result.{IfOk-weaker}
use Rattle.backfill_planner.specs.declared.Placed.{Placed}
use Rattle.job_table.specs.declared.record.JobRecord.{JobRecord}
use Rattle.resource_profile.specs.declared.Hold.{Hold}
use Rattle.backfill_planner.specs.Going.{kept_holds}
use Rattle.ctl_state.specs.Planning.{room_of}
use Rattle.ctl_state.specs.State.{last_moment, state_of}
use Rattle.ctl_pass.specs.declared.preemptable.Preemptable.{Preemptable}
use Rattle.ctl_pass.specs.Limits.{holds_of_job}
use Rattle.ctl_pass.specs.Preempting.{ids_at, preemptable, staying_holds}
use Rattle.ctl_pass.specs.Readiness.{jobs_left, placements}
use Rattle.ctl_pass.proofs.Beside.{all-back, gone-is, holds-are, within-front}
use Rattle.ctl_pass.proofs.Due.{due-now}
use Rattle.ctl_pass.proofs.Gone.{preemptable-all}
use Rattle.ctl_pass.proofs.victims.gone_for.Goals as goal

pub base_beside-requires-clause-due : goal.base_beside-requires-clause-due
base_beside-requires-clause-due c =
    let s = state_of c.args.cluster.now in
    let now = c.args.factors.now.moment in
    subst (All (λ (placed : Placed). placed.start ≤ last_moment)) (sym c.requires.starts)
    (λ k d below. omega (arith, due-now s now (jobs_left s now) (placements s now) k d below, c.requires.in_time))

pub base_beside-requires-clause-within : goal.base_beside-requires-clause-within
base_beside-requires-clause-within c =
    let s = state_of c.args.cluster.now in
    let now = c.args.factors.now.moment in
    let high = c.args.high.now in
    within-front (map room_of s.nodes) (staying_holds s now high)
    (kept_holds 0 (map (holds_of_job now) (preemptable s now high)) [])
    (c.what_stays_held_fits.ensures s now high c.requires.sound c.requires.raised c.requires.in_time)

pub holds_of_each-requires-clause-started : goal.holds_of_each-requires-clause-started
holds_of_each-requires-clause-started c =
    let s = state_of c.args.cluster.now in
    let now = c.args.factors.now.moment in
    let high = c.args.high.now in
    let job = λ (one : Preemptable). one.job.now in
    let Started : JobRecord → Type 0 = λ one. unwrap_or one.started 0 ≤ last_moment in
    let all : All Started (preemptable s now high) =
    preemptable-all c.a_stable_sort_makes_the_order.ensures.moves Started s now high
    (λ k d below might. omega (
      arith,
      (c.requires.sound.jobs k d below).run.start_passed,
      c.requires.raised,
      c.requires.in_time,
    )) in
    subst (All (λ (one : Preemptable). Started one.job.now)) (sym c.deref.ensures.value)
    (all-back Started job c.in_ok-going.going.items (subst (All Started) (sym c.in_ok-going.ensures) all))

pub victims-requires-clause-within : goal.victims-requires-clause-within
victims-requires-clause-within c =
    let s = state_of c.args.cluster.now in
    let now = c.args.factors.now.moment in
    let high = c.args.high.now in
    let holds = holds-are now c.in_ok-going.going.items c.deref.result.now (preemptable s now high)
    c.in_ok-holds.holds.items c.deref-2.result.now c.deref.ensures.value c.in_ok-going.ensures c.in_ok-holds.ensures
    c.deref-2.ensures.value in
    rw (c.in_ok-base.ensures.rooms, c.in_ok-base.ensures.holds, holds)
    (c.what_stays_held_fits.ensures s now high c.requires.sound c.requires.raised c.requires.in_time)

pub returns-in-Some : goal.returns-in-Some
returns-in-Some c =
    let s = state_of c.args.cluster.now in
    let now = c.args.factors.now.moment in
    let high = c.args.high.now in
    let going = c.in_ok-going.going.items in
    let places = c.in-Some.places.items in
    let job = λ (one : Preemptable). one.job.now in
    let holds = holds-are now going c.deref.result.now (preemptable s now high) c.in_ok-holds.holds.items
    c.deref-2.result.now c.deref.ensures.value c.in_ok-going.ensures c.in_ok-holds.ensures c.deref-2.ensures.value in
    let gone = gone-is s now c.args.need.now high c.in_ok-base.base.rooms c.in_ok-base.base.holds c.deref-2.result.now
    (Some places) c.in_ok-base.ensures.rooms c.in_ok-base.ensures.holds holds
    (rw c.in-Some.is at c.in_ok-places.ensures.some) in
    let seen : ids_at (map job c.deref-in-Some.result.now) c.deref-in-Some-2.result.now
    ≡ ids_at (preemptable s now high) places =
    ap (λ (some : List Preemptable). ids_at (map job some) c.deref-in-Some-2.result.now) c.deref-in-Some.ensures.value
    ∙ ap (ids_at (map job going)) c.deref-in-Some-2.ensures.value
    ∙ ap (λ (some : List JobRecord). ids_at some places) c.in_ok-going.ensures in
    IfOk-weaker c.ids_at.result _ _ (λ ids has. has ∙ seen ∙ sym gone) c.ids_at.ensures

pub returns : goal.returns
returns c =
    let s = state_of c.args.cluster.now in
    let now = c.args.factors.now.moment in
    let high = c.args.high.now in
    let holds = holds-are now c.in_ok-going.going.items c.deref.result.now (preemptable s now high)
    c.in_ok-holds.holds.items c.deref-2.result.now c.deref.ensures.value c.in_ok-going.ensures c.in_ok-holds.ensures
    c.deref-2.ensures.value in
    c.new.ensures.items
    ∙ sym (gone-is s now c.args.need.now high c.in_ok-base.base.rooms c.in_ok-base.base.holds c.deref-2.result.now None
    c.in_ok-base.ensures.rooms c.in_ok-base.ensures.holds holds (rw c.in-None.is at c.in_ok-places.ensures.none))
