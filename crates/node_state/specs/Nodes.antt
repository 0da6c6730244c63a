-- Nodes, how each stands, and what may happen to one.
use Rattle.std.specs.Prelude.{◌≢◌, ◌≤◌, ℕ, zero, suc, Bool, true, false, ◌&&◌, ◌||◌, not, is_none, if◌then◌else◌, List, [], ◌∷◌, length, position, bytes_eq, AllPairs, Option, Some, None}
use Rattle.std.specs.List.{list_all, list_any}
use Rattle.plain_data.specs.declared.conf.NodeConf.{NodeConf}
use Rattle.plain_data.specs.declared.conf.NodeStart.{NodeStart}
use Rattle.plain_data.specs.declared.conf.NodeStart.TheVariants as start
use Rattle.plain_data.specs.declared.features.FeatureExpr.{FeatureExpr}
use Rattle.node_state.specs.declared.record.DownBy.{DownBy}
use Rattle.node_state.specs.declared.record.DownBy.TheVariants as down
use Rattle.node_state.specs.declared.record.NodeRecord.{NodeRecord}
use Rattle.node_state.specs.declared.record.NodeChange.{NodeChange}
use Rattle.node_state.specs.declared.record.Held.{Held}
use Rattle.node_state.specs.declared.record.NodeChange.TheVariants as change

-- what contracts see of the nodes: their records, in the order of slurm.conf, and what is held of each
pub record NodesView : Type 0 where
  pub records : List NodeRecord
  pub held : List Held

-- a node is down, or to be drained, from the start where slurm.conf says so
abbrev pub down_at_start : NodeStart → DownBy
down_at_start start.Unknown = down.No
down_at_start start.Down = down.Set
down_at_start start.Drain = down.No

abbrev pub drained_at_start : NodeStart → Bool
drained_at_start start.Unknown = false
drained_at_start start.Down = false
drained_at_start start.Drain = true

-- a node before anything was heard of it
abbrev pub opened : NodeConf → NodeRecord
opened conf = record {
  conf = conf;
  down = down_at_start conf.state;
  drain = drained_at_start conf.state;
  empty = false;
  heard = None;
}

abbrev pub is_up : DownBy → Bool
is_up down.No = true
is_up down.Silent = false
is_up down.Set = false

-- jobs may start there
abbrev pub is_available : NodeRecord → Bool
is_available node = is_up node.down && not node.drain

-- the node has this name
abbrev pub is_named : List ℕ → NodeRecord → Bool
is_named name node = bytes_eq node.conf.name name

-- the place of the node with this name
abbrev pub place_named : List ℕ → List NodeRecord → Option ℕ
place_named name nodes = position (is_named name) nodes

-- the node has one of the lists of features whole
abbrev pub has_features : FeatureExpr → NodeRecord → Bool
has_features features node =
    list_any (λ names. list_all (λ name. list_any (bytes_eq name) node.conf.features) names) features.alternatives

-- a node that was not down by silence is now
abbrev pub silent : NodeRecord → DownBy → NodeRecord
silent node down.No = record node { down = down.Silent }
silent node by = node

-- an operator sets it down, unless one did before
abbrev pub set_down : NodeRecord → DownBy → NodeRecord
set_down node down.Set = node
set_down node by = record node { down = down.Set; empty = false }

-- by whom a node is down that was set down and goes on: it is up where nothing can run there any more, or never did
abbrev pub down_after_set : NodeRecord → DownBy
down_after_set node = if is_none node.heard || node.empty then down.No else down.Silent

-- an operator lets it go on: only one that was set down may come up by that
abbrev pub resumed : NodeRecord → DownBy → NodeRecord
resumed node down.Set = record node { down = down_after_set node; drain = false; empty = false }
resumed node by = record node { drain = false }

-- a report of it came, which lists no running start where it is `empty`
abbrev pub noted : NodeRecord → Bool → DownBy → NodeRecord
noted node empty down.No = node
noted node empty down.Silent = record node { down = if empty then down.No else down.Silent }
noted node empty down.Set = record node { empty = node.empty || empty }

-- The node after a change.
abbrev pub changed : NodeChange → NodeRecord → NodeRecord
changed change.Silent node = silent node node.down
changed change.Down node = set_down node node.down
changed change.Drain node = record node { drain = true }
changed change.Resume node = resumed node node.down
changed (change.Heard heard empty) node = record (noted node empty node.down) { heard = Some heard }

-- the nodes after a change of the one at a place
abbrev pub change_at : ℕ → NodeChange → List NodeRecord → List NodeRecord
change_at place change [] = []
change_at zero change (node ∷ later) = changed change node ∷ later
change_at (suc place) change (node ∷ later) = node ∷ change_at place change later

-- there are at most 1,024 nodes, each named once
pub record AreNamedOnce (nodes : List NodeRecord) : Type 0 where
  pub few : length nodes ≤ 1024
  pub once : AllPairs (λ (one other : NodeRecord). one.conf.name ≢ other.conf.name) nodes
