use Rattle.ctl_node_side.specs.Silence.{silenced}
use Rattle.ctl_node_side.proofs.laws.a_whole_pass_over_its_own_plan_counts_nothing.Goals as goal

pub returns : goal.returns
returns c = λ s now before after sound raised in_time over.
    c.a_pass_over_its_own_plan_counts_nothing.ensures (silenced s now) now before after
    (c.silence_keeps_all_sound.ensures s now sound raised in_time) over
