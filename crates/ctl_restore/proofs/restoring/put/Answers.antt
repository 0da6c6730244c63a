use Rattle.std.proofs.Common.{map, refl}
use Rattle.std.proofs.lemmas.Bool.{both_ways}
use Rattle.ctl_state.specs.Soundness.{PlansPending}
use Rattle.ctl_state.specs.State.{state_of}
use Rattle.ctl_restore.specs.Parts.{AreWellKept}
use Rattle.ctl_restore.specs.Restored.{gone_names, restored_job, restored_node, restored_over, restored_placed, standings}
use Rattle.ctl_restore.proofs.Assembly.{sound-restored}
use Rattle.ctl_restore.proofs.Fitting.{are-restored, parts-there, plan-sound, rising-restored, well-kept}
use Rattle.ctl_restore.proofs.restoring.put.Goals as goal

pub hold_well-requires-clause-there : goal.hold_well-requires-clause-there
hold_well-requires-clause-there c =
    rw (c.as_slice-2.ensures.value, c.requires.parts.jobs)
    (parts-there (state_of c.args.cluster.now) c.args.saved.now c.requires.known.jobs
    c.requires.opened.sound.nodes.named.few)

pub returns-then-not-hold_well-clause-unfit : goal.returns-then-not-hold_well-clause-unfit
returns-then-not-hold_well-clause-unfit c = λ unfit once sound.
    both_ways c.hold_well.result c.if-not-hold_well.true
    (c.hold_well.ensures.well.1
    (rw (c.in_ok-stand_nodes.ensures.records, c.as_slice-2.ensures.value, c.requires.parts.jobs)
    (well-kept (state_of c.args.cluster.now) c.args.saved.now sound)))

pub add_jobs-requires-clause-rising : goal.add_jobs-requires-clause-rising
add_jobs-requires-clause-rising c =
    rw c.requires.parts.jobs
    (rising-restored (state_of c.args.cluster.now) c.args.saved.now c.requires.plain.numbered.rising)

pub returns-then-not-branch-clause-unfit : goal.returns-then-not-branch-clause-unfit
returns-then-not-branch-clause-unfit c = λ unfit once sound.
    both_ways c.in_ok-plans_pending.field-0 c.if-not-branch.true
    (c.in_ok-plans_pending.ensures.1
    (rw (
      c.in_ok-add_jobs.ensures.records,
      c.requires.parts.jobs,
      c.as_slice-3.ensures.value,
      c.requires.parts.plan,
    )
    (plan-sound (state_of c.args.cluster.now) c.args.saved.now sound)))

pub returns-clause-state : goal.returns-clause-state
unfolding restored_over
returns-clause-state c =
    rw (
      c.restore_partitions.ensures,
      c.as_slice.ensures,
      c.hold_well.ensures.records,
      c.in_ok-stand_nodes.ensures.records,
      c.requires.parts.dropped,
      c.put_usage_back.ensures.records,
      c.in_ok-add_jobs.ensures.records,
      c.requires.parts.jobs,
      c.put_usage_back.ensures.usage,
      c.requires.usage,
      c.requires.reservations,
      c.requires.parts.arrays,
      c.requires.parts.plan,
      c.requires.parts.gone,
    )
    refl

pub returns-clause-sound : goal.returns-clause-sound
returns-clause-sound c =
    let s = state_of c.args.cluster.now in
    let saved = c.args.saved.now in
    let kept : AreWellKept saved.moment (map (restored_node (standings saved)) s.nodes) (map (restored_job s) saved.jobs) =
    rw (c.in_ok-stand_nodes.ensures.records, c.as_slice-2.ensures.value, c.requires.parts.jobs)
    at (c.hold_well.ensures.well.0 c.if-not-hold_well.false) in
    let plan : PlansPending (map (restored_job s) saved.jobs) (map (restored_placed s.nodes (gone_names s.nodes saved.plan)) saved.plan) =
    rw (
      c.in_ok-add_jobs.ensures.records,
      c.requires.parts.jobs,
      c.as_slice-3.ensures.value,
      c.requires.parts.plan,
    )
    at (c.in_ok-plans_pending.ensures.0 c.if-not-branch.false) in
    rw (returns-clause-state c)
    (sound-restored c.nodes_that_stay_keep_all_sound.ensures.hold s saved c.requires.opened.sound c.requires.opened.jobs
    (are-restored s saved c.requires.plain c.requires.known c.requires.reserved kept plan))
