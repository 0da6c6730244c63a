-- The nodes of another slurm.conf, matched by their names with those that there are.
use Rattle.std.specs.Prelude.{ℕ, false, List, [], map, position, bytes_eq, slice_get, Option, Some, None}
use Rattle.std.specs.Option.{option_and_then}
use Rattle.plain_data.specs.declared.conf.NodeConf.{NodeConf}
use Rattle.node_state.specs.declared.record.DownBy.TheVariants as down
use Rattle.node_state.specs.declared.record.NodeRecord.{NodeRecord}
use Rattle.node_state.specs.declared.record.DroppedNode.{DroppedNode}
use Rattle.node_state.specs.declared.record.Held.{Held}
use Rattle.node_state.specs.Held.{IsWithin, held_at}
use Rattle.node_state.specs.Nodes.{NodesView, opened, place_named}

-- the node with this name
abbrev pub node_named : List ℕ → List NodeRecord → Option NodeRecord
node_named name nodes = option_and_then (slice_get nodes) (place_named name nodes)

abbrev pub dropped_names : List DroppedNode → List (List ℕ)
dropped_names dropped = map (λ (node : DroppedNode). node.name) dropped

-- the node of this name that was heard and dropped
abbrev pub dropped_named : List ℕ → List DroppedNode → Option DroppedNode
dropped_named name dropped = option_and_then (slice_get dropped) (position (bytes_eq name) (dropped_names dropped))

-- a node that stays stands as it stood, whatever its new line says of that
abbrev pub staying : NodeConf → NodeRecord → NodeRecord
staying conf node = record node { conf = conf }

-- One that was heard, dropped and comes back counts as heard now, and is down until it is heard again.
abbrev pub returned : ℕ → NodeConf → DroppedNode → NodeRecord
returned moment conf dropped = record {
  conf = conf;
  down = down.Silent;
  drain = false;
  empty = false;
  heard = Some (record { boot = dropped.boot; number = dropped.number; moment = moment });
}

-- a node that comes: back, or for the first time
abbrev pub come : ℕ → NodeConf → Option DroppedNode → NodeRecord
come moment conf None = opened conf
come moment conf (Some dropped) = returned moment conf dropped

-- the node of a new line: the one with its name stays, if there is one
abbrev pub renewed_from : List DroppedNode → ℕ → NodeConf → Option NodeRecord → NodeRecord
renewed_from dropped moment conf None = come moment conf (dropped_named conf.name dropped)
renewed_from dropped moment conf (Some node) = staying conf node

abbrev pub renewed : List NodeRecord → List DroppedNode → ℕ → NodeConf → NodeRecord
renewed nodes dropped moment conf = renewed_from dropped moment conf (node_named conf.name nodes)

-- what is held of the node at a place, if there is one
abbrev pub held_of : List Held → Option ℕ → Held
held_of held None = record { cpus = []; mem = 0 }
held_of held (Some place) = held_at held place

-- what is held of the node with this name
abbrev pub held_by_name : NodesView → List ℕ → Held
held_by_name nodes name = held_of nodes.held (place_named name nodes.records)

-- of the node of a new line no more is held than it has then
abbrev pub FitsHeld : NodesView → NodeConf → Type 0
FitsHeld nodes conf = IsWithin (opened conf) (held_by_name nodes conf.name)
