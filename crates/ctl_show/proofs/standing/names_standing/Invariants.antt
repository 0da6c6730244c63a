use Rattle.std.proofs.Common.{◌≡◌, take}
use Rattle.ctl_state.specs.State.{state_of}
use Rattle.ctl_show.specs.Standing
use Rattle.ctl_show.proofs.standing.names_standing.Given as goal

abbrev pub invariant-loop-place : goal.invariant-loop-place
invariant-loop-place l =
    l.names.items ≡ Standing.names_standing (state_of l.cluster) l.group (take l.place-index l.places)
