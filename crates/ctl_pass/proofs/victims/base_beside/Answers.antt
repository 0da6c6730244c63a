use Rattle.std.proofs.Common.{◌≡◌, map, ap, ◌∙◌, arith}
use Rattle.ctl_state.specs.Planning.{room_of}
use Rattle.ctl_state.specs.State.{state_of}
use Rattle.ctl_pass.specs.Awaiting.{placements_of}
use Rattle.ctl_pass.proofs.Beside.{staying-is}
use Rattle.ctl_pass.proofs.victims.base_beside.Goals as goal

pub returns-clause-holds : goal.returns-clause-holds
returns-clause-holds c =
    staying-is (state_of c.args.cluster.now) c.args.factors.now.moment c.args.high.now c.from_vec-2.result
    c.in_ok-holds.holds.items (placements_of c.args.starts.now) c.in_ok-holds.ensures c.requires.starts
    (c.from_vec-2.ensures ∙ c.in_ok-push_starts.ensures)

pub invariant_of-result : goal.invariant_of-result
invariant_of-result c =
    let rooms : c.from_vec.result ≡ map room_of c.args.cluster.now.nodes.records =
    c.from_vec.ensures ∙ c.in_ok-rooms.ensures ∙ ap (map room_of) c.records.ensures.value in
    (rw (rooms, returns-clause-holds c) c.requires.within, omega (arith, c.requires.in_time))
