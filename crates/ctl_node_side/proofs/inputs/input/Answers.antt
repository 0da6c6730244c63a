use Rattle.std.proofs.lemmas.Bool.{both_ways}
use Rattle.ctl_state.specs.State.{state_of}
use Rattle.ctl_node_side.specs.Silence.{falls_silent}
use Rattle.ctl_node_side.proofs.Places.{none_found, some_found}
use Rattle.ctl_node_side.proofs.inputs.input.Goals as goal

pub input_heard-requires-clause-heard : goal.input_heard-requires-clause-heard
input_heard-requires-clause-heard c =
    let s = state_of c.args.cluster.now in
    none_found c.silent_places-silent.result (falls_silent s.settings.slurmd_timeout c.args.moment) s.nodes
    c.silent_places-silent.ensures (c.is_empty.ensures.0 c.if-is_empty.true)

pub input_silenced-requires-clause-some : goal.input_silenced-requires-clause-some
input_silenced-requires-clause-some c =
    let s = state_of c.args.cluster.now in
    some_found c.silent_places-silent.result (falls_silent s.settings.slurmd_timeout c.args.moment) s.nodes
    c.silent_places-silent.ensures (λ none. both_ways c.is_empty.result c.if-is_empty.false (c.is_empty.ensures.1 none))
