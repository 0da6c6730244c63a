-- How nodes stand stays as it may.
use Rattle.std.proofs.Common.{ℕ, ◌≡◌, ◌≤◌, zero, suc, Bool, false, List, [], ◌∷◌, get_or, map, All, Option, Some, None, IfSome, refl, slice_get, arith}
use Rattle.std.specs.Option.{option_and_then}
use Rattle.std.proofs.lemmas.Bool.{cond_both}
use Rattle.std.proofs.lemmas.List.Elements.{All-cons, All-head, All-map, All-tail, All-weaker}
use Rattle.plain_data.specs.Confs.{ConfView}
use Rattle.plain_data.specs.declared.conf.NodeConf.{NodeConf}
use Rattle.request_data.specs.declared.report.Heard.{Heard as HeardLast}
use Rattle.request_data.specs.declared.report.Report.{Report as Told}
use Rattle.request_data.specs.declared.request.NodeOrder.{NodeOrder}
use Rattle.request_data.specs.declared.request.NodeOrder.TheVariants as order
use Rattle.request_data.specs.declared.request.Request.{Request}
use Rattle.node_state.specs.declared.record.DroppedNode.{DroppedNode}
use Rattle.node_state.specs.declared.record.DownBy.{DownBy}
use Rattle.node_state.specs.declared.record.DownBy.TheVariants as down
use Rattle.node_state.specs.declared.record.NodeChange.{NodeChange}
use Rattle.node_state.specs.declared.record.NodeChange.TheVariants as change
use Rattle.node_state.specs.declared.record.NodeRecord.{NodeRecord}
use Rattle.node_state.specs.Nodes.{change_at, changed, noted, place_named, resumed, set_down, silent}
use Rattle.node_state.specs.Renewing.{come, dropped_named, node_named, renewed, renewed_from}
use Rattle.ctl_state.specs.State.{State}
use Rattle.ctl_nodes.specs.Changing.{changed_where}
use Rattle.ctl_nodes.specs.Updating.{change_by, is_among}
use Rattle.ctl_node_side.specs.Answering.{is_restarted}
use Rattle.ctl_node_side.specs.Reporting.{heard_by, lists_nothing}
use Rattle.ctl_node_side.specs.Restarting.{met}
use Rattle.ctl_node_side.specs.Silence.{any_silent, falls_silent, silenced}
use Rattle.ctl_reconfigure.specs.Reconfiguring.{reconfigured}
use Rattle.step_lemmas.proofs.Making.{ByPass, ByReconfigure, ByReport, ByUpdateNode, MayMake}
use Rattle.saved_laws.specs.Kept.{Stands}
use Rattle.saved_laws.proofs.Positions.{all_at}

-- ---- one node

-- a node that isn't empty
not-empty : (moment : ℕ) (node : NodeRecord) → node.empty ≡ false
    → IfSome node.heard (λ (heard : HeardLast). heard.moment ≤ moment) → Stands moment node
not-empty moment node not heard = record {
  empty = λ is. absurd (let no = not in cc);
  heard = heard;
}

silent-stands : (moment : ℕ) (node : NodeRecord) (by : DownBy) → node.down ≡ by → Stands moment node
    → Stands moment (silent node by)
silent-stands moment node down.No is stands = record {
  empty = λ empty. absurd (let set = (stands.empty empty).0 in let no = is in cc);
  heard = stands.heard;
}
silent-stands moment node down.Silent is stands = stands
silent-stands moment node down.Set is stands = stands

down-stands : (moment : ℕ) (node : NodeRecord) (by : DownBy) → Stands moment node → Stands moment (set_down node by)
down-stands moment node down.No stands = not-empty moment (set_down node down.No) refl stands.heard
down-stands moment node down.Silent stands = not-empty moment (set_down node down.Silent) refl stands.heard
down-stands moment node down.Set stands = stands

resumed-stands : (moment : ℕ) (node : NodeRecord) (by : DownBy) → Stands moment node → Stands moment (resumed node by)
resumed-stands moment node down.No stands = record { empty = stands.empty; heard = stands.heard }
resumed-stands moment node down.Silent stands = record { empty = stands.empty; heard = stands.heard }
resumed-stands moment node down.Set stands = not-empty moment (resumed node down.Set) refl stands.heard

noted-stands : (moment : ℕ) (node : NodeRecord) (heard : HeardLast) (empty : Bool) (by : DownBy) → node.down ≡ by
    → heard.moment ≤ moment → Stands moment node → Stands moment (record (noted node empty by) { heard = Some heard })
noted-stands moment node heard empty down.No is later stands = record {
  empty = λ empty. ((stands.empty empty).0, refl);
  heard = later;
}
noted-stands moment node heard empty down.Silent is later stands = record {
  empty = λ empty. absurd (let set = (stands.empty empty).0 in let no = is in cc);
  heard = later;
}
noted-stands moment node heard empty down.Set is later stands = record { empty = λ empty. (is, refl); heard = later }

-- what is heard isn't of a later moment
abbrev IsHeardBy : ℕ → NodeChange → Type 0
IsHeardBy moment change.Silent = Unit {0}
IsHeardBy moment change.Down = Unit {0}
IsHeardBy moment change.Drain = Unit {0}
IsHeardBy moment change.Resume = Unit {0}
IsHeardBy moment (change.Heard heard empty) = heard.moment ≤ moment

changed-stands : (moment : ℕ) (one : NodeChange) (node : NodeRecord) → IsHeardBy moment one → Stands moment node
    → Stands moment (changed one node)
changed-stands moment change.Silent node by stands = silent-stands moment node node.down refl stands
changed-stands moment change.Down node by stands = down-stands moment node node.down stands
changed-stands moment change.Drain node by stands = record { empty = stands.empty; heard = stands.heard }
changed-stands moment change.Resume node by stands = resumed-stands moment node node.down stands
changed-stands moment (change.Heard heard empty) node by stands =
    noted-stands moment node heard empty node.down refl by stands

-- ---- all nodes

where-stand : (moment : ℕ) (one : NodeChange) (test : NodeRecord → Bool) (nodes : List NodeRecord) → IsHeardBy moment one
    → All (Stands moment) nodes → All (Stands moment) (map (changed_where one test) nodes)
where-stand moment one test nodes by stand =
    All-map (Stands moment) (changed_where one test) nodes
    (All-weaker (Stands moment) (λ (node : NodeRecord). Stands moment (changed_where one test node))
    (λ node stands. cond_both (test node) (changed one node) node (Stands moment)
    (λ is. changed-stands moment one node by stands) (λ not. stands)) nodes stand)

at-stand : (moment place : ℕ) (one : NodeChange) (nodes : List NodeRecord) → IsHeardBy moment one
    → All (Stands moment) nodes → All (Stands moment) (change_at place one nodes)
at-stand moment place one [] by stand = stand
at-stand moment zero one (node ∷ nodes) by stand =
    All-cons (Stands moment) (changed one node) nodes
    (changed-stands moment one node by (All-head (Stands moment) node nodes stand)) (All-tail (Stands moment) node nodes stand)
at-stand moment (suc place) one (node ∷ nodes) by stand =
    All-cons (Stands moment) node (change_at place one nodes) (All-head (Stands moment) node nodes stand)
    (at-stand moment place one nodes by (All-tail (Stands moment) node nodes stand))

later-stands : (moment later : ℕ) (node : NodeRecord) → moment ≤ later → Stands moment node → Stands later node
later-stands moment later node after stands = record {
  empty = stands.empty;
  heard = by node.heard stands.heard;
}
  where
    by : (heard : Option HeardLast) → IfSome heard (λ (heard : HeardLast). heard.moment ≤ moment)
        → IfSome heard (λ (heard : HeardLast). heard.moment ≤ later)
    by None is = tt
    by (Some heard) is = omega (arith, is, after)

pub all_later : (moment later : ℕ) (nodes : List NodeRecord) → moment ≤ later → All (Stands moment) nodes
    → All (Stands later) nodes
all_later moment later nodes after stand =
    All-weaker (Stands moment) (Stands later) (λ node stands. later-stands moment later node after stands) nodes stand

-- ---- what each request makes

-- the state's nodes stand as they may at the moment
abbrev pub Standing : ℕ → State → Type 0
Standing moment s = All (Stands moment) s.nodes

met-stand : (s : State) (moment node : ℕ) (report : Told) → Standing moment s → Standing moment (met s moment node report)
met-stand s moment node report stand =
    cond_both (is_restarted s report) _ s (Standing moment) (λ restarted. stand) (λ not. stand)

silenced-stand : (s : State) (moment : ℕ) → Standing moment s → Standing moment (silenced s moment)
silenced-stand s moment stand =
    cond_both (any_silent s moment) _ s (Standing moment)
    (λ some. where-stand moment change.Silent (falls_silent s.settings.slurmd_timeout moment) s.nodes tt stand)
    (λ none. stand)

-- the nodes of a new slurm.conf
at-stands : (moment : ℕ) (nodes : List NodeRecord) (place : Option ℕ) → All (Stands moment) nodes
    → IfSome (option_and_then (slice_get nodes) place) (Stands moment)
at-stands moment nodes None stand = tt
at-stands moment nodes (Some place) stand =
    each (slice_get nodes place) (λ node is. all_at (Stands moment) nodes place node stand is)
  where
    each : (found : Option NodeRecord) → ((node : NodeRecord) → found ≡ Some node → Stands moment node)
        → IfSome found (Stands moment)
    each None stands = tt
    each (Some node) stands = stands node refl

come-stands : (moment : ℕ) (conf : NodeConf) (found : Option DroppedNode) → Stands moment (come moment conf found)
come-stands moment conf None = record { empty = λ is. absurd (cc); heard = tt }
come-stands moment conf (Some dropped) = record { empty = λ is. absurd (cc); heard = omega arith }

from-stands : (dropped : List DroppedNode) (moment : ℕ) (conf : NodeConf) (found : Option NodeRecord)
    → IfSome found (Stands moment) → Stands moment (renewed_from dropped moment conf found)
from-stands dropped moment conf None stands = come-stands moment conf (dropped_named conf.name dropped)
from-stands dropped moment conf (Some node) stands = record { empty = stands.empty; heard = stands.heard }

renewed-stand : (s : State) (moment : ℕ) (conf : ConfView) → Standing moment s
    → Standing moment (reconfigured s moment conf)
renewed-stand s moment conf stand =
    All-map (Stands moment) (renewed s.nodes s.dropped moment) conf.nodes
    (λ k d below. from-stands s.dropped moment (get_or conf.nodes k d)
    (node_named (get_or conf.nodes k d).name s.nodes)
    (at-stands moment s.nodes (place_named (get_or conf.nodes k d).name s.nodes) stand))

ordered : (moment : ℕ) (state : NodeOrder) → IsHeardBy moment (change_by state)
ordered moment order.Down = tt
ordered moment order.Drain = tt
ordered moment order.Resume = tt

pub made_standing : (s : State) (moment : ℕ) (user : List ℕ) (request : Request) (after : State)
    → Standing moment s → MayMake s moment user request after → Standing moment after
made_standing s moment user request after stand (ByUpdateNode names order) =
    where-stand moment (change_by order) (is_among names) s.nodes (ordered moment order) stand
made_standing s moment user request after stand (ByReport report node found) =
    at-stand moment node (change.Heard (heard_by moment report) (lists_nothing report.running))
    (met s moment node report).nodes (omega arith) (met-stand s moment node report stand)
made_standing s moment user request after stand ByPass = silenced-stand s moment stand
made_standing s moment user request after stand (ByReconfigure conf bytes) = renewed-stand s moment conf stand
made_standing s moment user request after stand kind = stand
