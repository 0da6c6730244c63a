use Rattle.ctl_node_side.specs.Silence.{silenced}
use Rattle.ctl_node_side.proofs.laws.passes_are_free.Goals as goal

pub returns : goal.returns
returns c = λ s now. c.starts_are_free.ensures (silenced s now) now
