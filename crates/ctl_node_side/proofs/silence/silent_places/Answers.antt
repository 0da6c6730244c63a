use Rattle.std.proofs.Common.{◌∙◌, ◌||◌, ap, nat_eq, sym}
use Rattle.ctl_node_side.specs.Silence.{falls_silent}
use Rattle.ctl_node_side.proofs.Places.{at_more, at_other}
use Rattle.ctl_node_side.proofs.silence.silent_places.Goals as goal
use Rattle.ctl_node_side.proofs.silence.silent_places.Goals.{then-falls_silent, else-falls_silent}

pub loop-place-preserved : goal.loop-place-preserved
loop-place-preserved c = λ place.
    let value = c.records-node-items.ensures.value in
    let nodes = c.args.cluster.now.nodes.records in
    let test = falls_silent c.get-timeout.result c.args.now in
    let k = c.loop-place.place in
    let below = rw value at c.loop-place-test.true in
    let read = rw value at c.node-item.is in
    elim c.if-falls_silent.branch [
      | then-falls_silent w ↦
          rw w.places-is
          (w.insert.ensures.added place ∙ ap (λ has. has || nat_eq k place) (c.loop-place.invariant place)
          ∙ sym (at_more test nodes k place c.node-item.result below read
          (sym c.falls_silent.ensures ∙ w.if-falls_silent.true)))
      | else-falls_silent w ↦
          rw w.places-is
          (c.loop-place.invariant place
          ∙ sym (at_other test nodes k place c.node-item.result below read
          (sym c.falls_silent.ensures ∙ w.if-falls_silent.false)))
    ]
