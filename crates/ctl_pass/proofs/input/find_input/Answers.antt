use Rattle.std.proofs.Common.{◌≡◌, ◌∙◌, length, ap, arith}
use Rattle.std.proofs.lemmas.List.{length-map}
use Rattle.ctl_state.specs.Planning.{room_of}
use Rattle.ctl_state.specs.State.{state_of}
use Rattle.ctl_pass.specs.Readiness.{ready}
use Rattle.ctl_pass.proofs.Planned.{base-rooms}
use Rattle.ctl_pass.proofs.input.find_input.Goals as goal

pub invariant_of-result : goal.invariant_of-result
invariant_of-result c =
    let s = state_of c.args.cluster.now in
    let rooms : length c.in_ok-base.base.rooms ≡ length s.nodes =
    ap length (base-rooms (ready s c.args.now) c.args.now c.in_ok-base.base c.in_ok-base.ensures)
    ∙ length-map s.nodes room_of in
    λ k d below place node inside. omega (arith, rooms, c.in_ok-ranked.ensures.nodes k d below place node inside)
