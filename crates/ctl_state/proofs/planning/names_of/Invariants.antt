use Rattle.std.proofs.Common.{◌≡◌, take}
use Rattle.ctl_state.specs.Planning
use Rattle.ctl_state.proofs.planning.names_of.Given as goal

abbrev pub invariant-loop-part : goal.invariant-loop-part
invariant-loop-part l = l.names.items ≡ Planning.names_of l.nodes (take l.part-index l.parts)
