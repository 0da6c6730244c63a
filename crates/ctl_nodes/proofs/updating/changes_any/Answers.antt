use Rattle.std.proofs.Common.{◌∙◌, ◌&&◌, Bool, ap, sym}
use Rattle.std.specs.List.{list_any}
use Rattle.std.proofs.lemmas.Bool.{and_left, and_right}
use Rattle.std.proofs.lemmas.List.{drop_all}
use Rattle.node_state.specs.declared.record.NodeRecord.{NodeRecord}
use Rattle.ctl_state.specs.Planning.{is_at}
use Rattle.ctl_nodes.specs.Updating.{alters, is_among}
use Rattle.ctl_nodes.proofs.Named.{turned_there, unturned_there}
use Rattle.ctl_nodes.proofs.updating.changes_any.Goals as goal
use Rattle.ctl_nodes.proofs.updating.changes_any.Goals.{else-contains-via-then-contains+else-alters, else-contains-via-else-contains}

pub returns-then-alters : goal.returns-then-alters
returns-then-alters c =
    let value = c.records-node-items.ensures.value in
    sym (turned_there c.args.state c.args.nodes.now c.args.cluster.now.nodes.records c.loop-place.place
    c.node-item.result (rw value at c.loop-place-test.true) (rw value at c.node-item.is)
    (sym (rw c.as_slice.ensures at (c.places_of-named.ensures c.loop-place.place)) ∙ sym c.contains.ensures
    ∙ c.if-contains.true)
    (sym c.alters.ensures ∙ c.if-alters.true))

pub loop-place-preserved : goal.loop-place-preserved
loop-place-preserved c =
    let value = c.records-node-items.ensures.value in
    let nodes = c.args.cluster.now.nodes.records in
    let names = c.args.nodes.now in
    let place = c.loop-place.place in
    let named = rw c.as_slice.ensures at (c.places_of-named.ensures place) in
    c.loop-place.invariant
    ∙ unturned_there c.args.state names nodes place c.node-item.result (rw value at c.loop-place-test.true)
    (rw value at c.node-item.is)
    (elim c.else-contains.branch [
      | else-contains-via-then-contains+else-alters w ↦
          and_right (is_at (is_among names) nodes place) (alters c.args.state c.node-item.result)
          (sym w.alters.ensures ∙ w.if-alters.false)
      | else-contains-via-else-contains w ↦
          and_left (is_at (is_among names) nodes place) (alters c.args.state c.node-item.result)
          (sym named ∙ sym c.contains.ensures ∙ w.if-contains.false)
    ])

pub returns : goal.returns
returns c =
    let turns : NodeRecord → Bool = λ node. is_among c.args.nodes.now node && alters c.args.state node in
    sym (c.loop-place.invariant
    ∙ ap (list_any turns) (drop_all c.loop-place.place c.args.cluster.now.nodes.records
    (rw c.records-node-items.ensures.value at c.loop-place-test.false)))
