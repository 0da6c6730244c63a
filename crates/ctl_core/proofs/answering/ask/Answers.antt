use Rattle.ctl_state.specs.State.{state_of}
use Rattle.ctl_core.specs.Step.{state_after}
use Rattle.ctl_core.proofs.Stepping.{sound-either}
use Rattle.ctl_core.proofs.answering.ask.Goals as goal

pub returns-clause-sound : goal.returns-clause-sound
returns-clause-sound g c =
    let s = state_of c.args.cluster.now in
    sound-either c.answer.result (state_of c.answer.new.cluster) s
    (state_after s c.args.now c.args.user.now c.args.request.now)
    c.answer.ensures.after c.answer.ensures.err c.requires.sound
    (c.a_step_keeps_all_sound.ensures s c.args.now c.args.user.now c.args.request.now
    c.requires.sound c.in_range.ensures)
