use Rattle.std.proofs.Common.{◌∙◌, ap, subst, sym}
use Rattle.plain_data.specs.Rows.{has_id}
use Rattle.ctl_state.specs.Index.{IsIndexed}
use Rattle.ctl_state.specs.Soundness.{IsSound}
use Rattle.ctl_state.specs.State.{state_of}
use Rattle.ctl_node_side.proofs.Back.{index_back, state_back}
use Rattle.ctl_node_side.proofs.Silent.{silenced_some}
use Rattle.ctl_node_side.proofs.inputs.input_silenced.Goals as goal

pub plan_input-input-requires-clause-sound : goal.plan_input-input-requires-clause-sound
plan_input-input-requires-clause-sound c =
    let s = state_of c.args.cluster.now in
    subst IsSound (sym (c.fall_silent.ensures.after ∙ sym (silenced_some s c.args.moment c.requires.some)))
    (c.silence_keeps_all_sound.ensures s c.args.moment c.requires.sound c.requires.raised c.requires.in_time)

pub returns-clause-stays : goal.returns-clause-stays
returns-clause-stays c =
    ap state_of c.put_back.ensures
    ∙ state_back c.kept_jobs_are_put_back.ensures c.args.moment (has_id c.args.silent.now) c.args.cluster.now
    c.fall_silent.new.cluster c.in_ok-before.before c.requires.places c.in_ok-before.ensures c.requires.sound.rising
    c.fall_silent.ensures.after

pub returns-clause-indexed : goal.returns-clause-indexed
returns-clause-indexed c =
    subst IsIndexed (sym c.put_back.ensures)
    (index_back c.kept_jobs_are_put_back.ensures c.args.moment (has_id c.args.silent.now) c.args.cluster.now
    c.fall_silent.new.cluster c.in_ok-before.before c.requires.places c.in_ok-before.ensures c.requires.sound.rising
    c.fall_silent.ensures.after c.requires.indexed)
