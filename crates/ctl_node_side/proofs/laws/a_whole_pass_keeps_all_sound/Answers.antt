use Rattle.ctl_node_side.specs.Silence.{silenced}
use Rattle.ctl_node_side.proofs.Silent.{silenced_raised}
use Rattle.ctl_node_side.proofs.laws.a_whole_pass_keeps_all_sound.Goals as goal

pub returns : goal.returns
returns c = λ s now sound raised in_time.
    c.a_pass_keeps_all_sound.ensures (silenced s now) now (c.silence_keeps_all_sound.ensures s now sound raised in_time)
    (silenced_raised s now raised) in_time
