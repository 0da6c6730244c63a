use Rattle.ctl_node_side.specs.Silence.{silenced}
use Rattle.ctl_node_side.proofs.Silent.{silenced_raised}
use Rattle.ctl_node_side.proofs.laws.starts_of_passes_get_all_they_planned.Goals as goal

pub returns : goal.returns
returns c = λ s now sound raised in_time.
    c.starts_get_all_they_planned.ensures (silenced s now) now
    (c.silence_keeps_all_sound.ensures s now sound raised in_time) (silenced_raised s now raised) in_time
