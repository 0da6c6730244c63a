use Rattle.std.proofs.Common.{◌∙◌, ◌&&◌, ap, arith, count_by, subst, sym}
use Rattle.std.specs.Prelude.{option_copied}
use Rattle.plain_data.specs.Rows.{has_id}
use Rattle.job_table.specs.declared.record.JobRecord.{JobRecord}
use Rattle.job_table.specs.JobStates.{is_running}
use Rattle.ctl_state.specs.Index.{IsIndexed}
use Rattle.ctl_state.specs.Soundness.{IsSound}
use Rattle.ctl_state.specs.State.{state_of}
use Rattle.ctl_nodes.specs.Failing.{loses}
use Rattle.ctl_node_side.specs.Came.{Came}
use Rattle.ctl_node_side.proofs.Back.{index_back, state_back}
use Rattle.ctl_node_side.proofs.Coming.{busy_silenced, came_fallen, failing_alike, few_ended, few_failed}
use Rattle.ctl_node_side.proofs.Made.{made-there}
use Rattle.ctl_node_side.proofs.Over.{not-over, over-found}
use Rattle.ctl_node_side.proofs.Silent.{silenced_some}
use Rattle.ctl_node_side.proofs.passing.pass_silenced.Goals as goal

pub decide-requires-clause-sound : goal.decide-requires-clause-sound
decide-requires-clause-sound g c =
    let s = state_of c.args.cluster.now in
    subst IsSound (sym (c.fall_silent.ensures.after ∙ sym (silenced_some s c.args.moment c.requires.some)))
    (c.silence_keeps_all_sound.ensures s c.args.moment c.requires.sound c.requires.raised c.requires.in_time)

pub finish-requires-clause-sound : goal.finish-requires-clause-sound
finish-requires-clause-sound g c =
    let s = state_of c.args.cluster.now in
    subst IsSound (sym (c.fall_silent.ensures.after ∙ sym (silenced_some s c.args.moment c.requires.some)))
    (c.silence_keeps_all_sound.ensures s c.args.moment c.requires.sound c.requires.raised c.requires.in_time)

pub overflow_cast-failed : goal.overflow_cast-failed
overflow_cast-failed g c =
    let s = state_of c.args.cluster.now in
    let fails = λ (job : JobRecord). is_running job.state && loses (has_id c.args.silent.now) job in
    omega (
      arith,
      few_failed c.there_are_few_jobs.ensures s c.args.moment c.count_failing-failed.result fails c.requires.sound
          (c.count_failing-failed.ensures ∙ ap (count_by fails) c.records.ensures.value),
    )

pub finish-requires-clause-few : goal.finish-requires-clause-few
finish-requires-clause-few g c =
    let s = state_of c.args.cluster.now in
    let fails = λ (job : JobRecord). is_running job.state && loses (has_id c.args.silent.now) job in
    omega (
      arith,
      few_failed c.there_are_few_jobs.ensures s c.args.moment c.count_failing-failed.result fails c.requires.sound
          (c.count_failing-failed.ensures ∙ ap (count_by fails) c.records.ensures.value),
      few_ended c.few_end.ensures (state_of c.fall_silent.new.cluster) c.args.moment c.in-Ok.decided.ended
          (finish-requires-clause-sound g c) c.in-Ok.ensures.decided.ended,
    )

pub returns-in-Ok-clause-came : goal.returns-in-Ok-clause-came
returns-in-Ok-clause-came g c =
    let s = state_of c.args.cluster.now in
    let now = c.args.moment in
    let after = state_of c.finish.new.cluster in
    let lost = has_id c.args.silent.now in
    let fails = λ (job : JobRecord). is_running job.state && loses lost job in
    subst (Came s after now c.args.room) (sym c.finish.ensures.passed)
    (came_fallen s after (state_of c.fall_silent.new.cluster) now c.count_failing-failed.result c.in-Ok.decided.ended
    c.args.room c.fall_silent.ensures.after c.requires.some c.if-room.true
    (c.count_failing-failed.ensures ∙ ap (count_by fails) c.records.ensures.value
    ∙ failing_alike s now lost c.requires.places)
    c.in-Ok.ensures.decided.ended c.finish.ensures.after)

pub returns-in-Ok-2-clause-came : goal.returns-in-Ok-2-clause-came
returns-in-Ok-2-clause-came g c = (
  busy_silenced (state_of c.args.cluster.now) c.args.moment c.requires.some,
  c.if-room.false,
  ap state_of c.put_back.ensures
      ∙ state_back c.kept_jobs_are_put_back.ensures c.args.moment (has_id c.args.silent.now) c.args.cluster.now
      c.fall_silent.new.cluster c.in_ok-before.before c.requires.places c.in_ok-before.ensures c.requires.sound.rising
      c.fall_silent.ensures.after,
)

pub returns-in-Ok-2-clause-indexed : goal.returns-in-Ok-2-clause-indexed
returns-in-Ok-2-clause-indexed g c =
    subst IsIndexed (sym c.put_back.ensures)
    (index_back c.kept_jobs_are_put_back.ensures c.args.moment (has_id c.args.silent.now) c.args.cluster.now
    c.fall_silent.new.cluster c.in_ok-before.before c.requires.places c.in_ok-before.ensures c.requires.sound.rising
    c.fall_silent.ensures.after c.requires.indexed)

pub returns-in-Err-clause-err : goal.returns-in-Err-clause-err
returns-in-Err-clause-err g c =
    ap state_of c.put_back-in-Err.ensures
    ∙ state_back c.kept_jobs_are_put_back.ensures c.args.moment (has_id c.args.silent.now) c.args.cluster.now
    c.fall_silent.new.cluster c.in_ok-before.before c.requires.places c.in_ok-before.ensures c.requires.sound.rising
    c.fall_silent.ensures.after

pub returns-in-Err-clause-indexed : goal.returns-in-Err-clause-indexed
returns-in-Err-clause-indexed g c =
    subst IsIndexed (sym c.put_back-in-Err.ensures)
    (index_back c.kept_jobs_are_put_back.ensures c.args.moment (has_id c.args.silent.now) c.args.cluster.now
    c.fall_silent.new.cluster c.in_ok-before.before c.requires.places c.in_ok-before.ensures c.requires.sound.rising
    c.fall_silent.ensures.after c.requires.indexed)

pub returns-in_err-before-clause-over : goal.returns-in_err-before-clause-over
returns-in_err-before-clause-over g c = not-over (option_copied c.args.older) (state_of c.args.cluster.now) c.args.moment c.args.steps.now

pub returns-in-Ok-clause-over : goal.returns-in-Ok-clause-over
returns-in-Ok-clause-over g c =
    let s = state_of c.args.cluster.now in
    over-found (option_copied c.args.older) s (state_of c.fall_silent.new.cluster) c.args.moment c.args.steps.now c.decide.new.steps
    (c.fall_silent.ensures.after ∙ sym (silenced_some s c.args.moment c.requires.some)) c.in-Ok.ensures.over

pub returns-in-Ok-2-clause-over : goal.returns-in-Ok-2-clause-over
returns-in-Ok-2-clause-over g c =
    let s = state_of c.args.cluster.now in
    over-found (option_copied c.args.older) s (state_of c.fall_silent.new.cluster) c.args.moment c.args.steps.now c.decide.new.steps
    (c.fall_silent.ensures.after ∙ sym (silenced_some s c.args.moment c.requires.some)) c.in-Ok.ensures.over

pub returns-in-Err-clause-over : goal.returns-in-Err-clause-over
returns-in-Err-clause-over g c =
    let s = state_of c.args.cluster.now in
    over-found (option_copied c.args.older) s (state_of c.fall_silent.new.cluster) c.args.moment c.args.steps.now c.decide.new.steps
    (c.fall_silent.ensures.after ∙ sym (silenced_some s c.args.moment c.requires.some)) c.in-Err.ensures.over

pub returns-in-Ok-clause-plan : goal.returns-in-Ok-clause-plan
returns-in-Ok-clause-plan g c =
    let s = state_of c.args.cluster.now in
    made-there s (state_of c.fall_silent.new.cluster) c.args.moment c.finish.result.outcome _ c.finish.result.plan
    (c.fall_silent.ensures.after ∙ sym (silenced_some s c.args.moment c.requires.some)) c.finish.ensures.passed
    c.finish.ensures.plan
