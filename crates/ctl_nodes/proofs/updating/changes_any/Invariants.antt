use Rattle.std.proofs.Common.{◌≡◌, ◌&&◌, Bool, drop}
use Rattle.std.specs.List.{list_any}
use Rattle.node_state.specs.declared.record.NodeRecord.{NodeRecord}
use Rattle.ctl_nodes.specs.Updating.{alters, is_among}
use Rattle.ctl_nodes.proofs.updating.changes_any.Given as goal

abbrev pub invariant-loop-place : goal.invariant-loop-place
invariant-loop-place l =
    let turns : NodeRecord → Bool = λ node. is_among l.nodes node && alters l.state node in
    list_any turns l.cluster.nodes.records ≡ list_any turns (drop l.place l.cluster.nodes.records)
