-- What operators say of nodes: why it is refused, and what it makes.
use Rattle.std.specs.Prelude.{ℕ, Bool, true, false, ◌&&◌, ◌||◌, not, is_none, if◌then◌else◌, List, [], ◌∷◌, map, Option}
use Rattle.std.specs.List.{list_any}
use Rattle.reply_data.specs.declared.refusal.Refusal.{Refusal}
use Rattle.reply_data.specs.declared.refusal.Refusal.TheVariants.{AccessDenied, UnknownNode}
use Rattle.reply_data.specs.declared.reply.Reply.TheVariants.{Done}
use Rattle.request_data.specs.declared.request.NodeOrder.{NodeOrder}
use Rattle.request_data.specs.declared.request.NodeOrder.TheVariants as order
use Rattle.node_state.specs.declared.record.DownBy.{DownBy}
use Rattle.node_state.specs.declared.record.DownBy.TheVariants as down
use Rattle.node_state.specs.declared.record.NodeRecord.{NodeRecord}
use Rattle.node_state.specs.declared.record.NodeChange.{NodeChange}
use Rattle.node_state.specs.declared.record.NodeChange.TheVariants as change
use Rattle.node_state.specs.Nodes.{place_named}
use Rattle.node_state.specs.Reservations.{has}
use Rattle.ctl_state.specs.Planning.{is_at}
use Rattle.ctl_state.specs.Refusals.{is_privileged, refused_if}
use Rattle.ctl_state.specs.State.{State}
use Rattle.ctl_state.specs.Verdicts.{Verdict, Stays, Makes}
use Rattle.ctl_nodes.specs.Changing.{changed_where}
use Rattle.ctl_nodes.specs.Failing.{lost_after}

-- why an order to nodes is refused, in their order; all names are tested before any node changes
abbrev pub update_refusals : State → List ℕ → List (List ℕ) → List (Option Refusal)
update_refusals s user names =
    refused_if (not (is_privileged s user)) AccessDenied
    ∷ refused_if (list_any (λ name. is_none (place_named name s.nodes)) names) UnknownNode
    ∷ []

-- what an order does to a node
abbrev pub change_by : NodeOrder → NodeChange
change_by order.Down = change.Down
change_by order.Drain = change.Drain
change_by order.Resume = change.Resume

-- the node has one of the names
abbrev pub is_among : List (List ℕ) → NodeRecord → Bool
is_among names node = has names node.conf.name

-- the node once this was done to those with these names
abbrev pub changed_if : NodeChange → List (List ℕ) → NodeRecord → NodeRecord
changed_if change names node = changed_where change (is_among names) node

-- a node that is set down is lost
abbrev pub is_lost_by : NodeOrder → Bool
is_lost_by order.Down = true
is_lost_by order.Drain = false
is_lost_by order.Resume = false

-- whether the node at a place is lost by an order to those with these names
abbrev pub lost_by : List NodeRecord → List (List ℕ) → NodeOrder → ℕ → Bool
lost_by nodes names state place = is_lost_by state && is_at (is_among names) nodes place

abbrev pub is_set_down : DownBy → Bool
is_set_down down.No = false
is_set_down down.Silent = false
is_set_down down.Set = true

-- the order makes another one of the node
abbrev pub alters : NodeOrder → NodeRecord → Bool
alters order.Down node = not (is_set_down node.down)
alters order.Drain node = not node.drain
alters order.Resume node = is_set_down node.down || node.drain

-- the order makes another one of a node that it names
abbrev pub changes_any : State → List (List ℕ) → NodeOrder → Bool
changes_any s names state = list_any (λ (node : NodeRecord). is_among names node && alters state node) s.nodes

-- the state after an order to the nodes with these names: what is lost is lost, and the nodes have changed
abbrev pub update_after : State → ℕ → List (List ℕ) → NodeOrder → State
update_after s now names state = record (lost_after s now (lost_by s.nodes names state)) {
  nodes = map (changed_if (change_by state) names) s.nodes;
}

-- what an order makes that isn't refused: nothing where it changes no node
abbrev pub update_made : State → ℕ → List (List ℕ) → NodeOrder → Verdict
update_made s now names state =
    if changes_any s names state then Makes Done (update_after s now names state) else Stays
