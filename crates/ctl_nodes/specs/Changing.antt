-- Nodes that change, by what holds of them.
use Rattle.std.specs.Prelude.{Bool, if◌then◌else◌}
use Rattle.node_state.specs.declared.record.NodeRecord.{NodeRecord}
use Rattle.node_state.specs.declared.record.NodeChange.{NodeChange}
use Rattle.node_state.specs.Nodes.{changed}

-- the node once this was done to those of which something holds
abbrev pub changed_where : NodeChange → (NodeRecord → Bool) → NodeRecord → NodeRecord
changed_where change test node = if test node then changed change node else node
