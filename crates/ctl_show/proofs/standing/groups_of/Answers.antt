use Rattle.std.proofs.Common.{◌≡◌, length, arith, refl, ap}
use Rattle.std.proofs.lemmas.Option.{slice_get_read}
use Rattle.ctl_state.specs.State.{state_of}
use Rattle.ctl_show.proofs.Stands.{group-here, groups-more, groups-all}
use Rattle.ctl_show.proofs.standing.groups_of.Goals as goal

pub loop-place-preserved : goal.loop-place-preserved
loop-place-preserved c =
    let s = state_of c.args.cluster.now in
    let before = c.loop-place.invariant in
    let nodes = c.records-nodes.ensures.value in
    let inside = rw nodes at c.loop-place-test.true in
    let there = slice_get_read s.nodes (length s.nodes) c.loop-place.place c.index-nodes-place.result refl inside
    (rw nodes at c.index-nodes-place.is) in
    let here = group-here s c.in_ok-held.held.items c.loop-place.place c.index.result.now c.index-nodes-place.result
    c.group_of.result c.in_ok-held.ensures.counts (omega (arith, c.in_ok-held.ensures.len, inside)) there
    c.index.ensures c.group_of.ensures in
    record {
      len = omega (arith, c.in_ok-push.ensures.len, before.len);
      each = rw c.in_ok-push.ensures.items
          (groups-more s c.loop-place.groups.items c.group_of.result c.loop-place.place before.len before.each here);
    }

pub returns : goal.returns
returns c =
    let s = state_of c.args.cluster.now in
    let nodes = c.records-nodes.ensures.value in
    let done = c.loop-place.invariant in
    let all : c.loop-place.place ≡ length s.nodes =
    omega (arith, c.loop-place.auto.place-end, c.loop-place-test.false, ap length nodes) in
    groups-all s c.loop-place.groups.items (omega (arith, done.len, all))
    (λ k inside. done.each k (omega (arith, inside, all)))
