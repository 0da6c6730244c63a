-- What the two files say is left as it was by each request but a new slurm.conf.
use Rattle.std.proofs.lemmas.Bool.{both_ways, cond_both}
use Rattle.std.proofs.Common.{ℕ, ◌≡◌, ◌∙◌, zero, suc, Bool, true, false, List, [], ◌∷◌, get_or, map, refl, ap, sym, subst, nat_eq}
use Rattle.plain_data.specs.Confs.{ConfView}
use Rattle.plain_data.specs.declared.conf.NodeConf.{NodeConf}
use Rattle.plain_data.specs.declared.conf.PartConf.{PartConf}
use Rattle.plain_data.specs.declared.conf.PartState.{PartState}
use Rattle.plain_data.specs.declared.conf.Settings.{Settings}
use Rattle.plain_data.specs.declared.conf.PartState.TheVariants.{Up}
use Rattle.request_data.specs.declared.report.Report.{Report as Told}
use Rattle.request_data.specs.declared.request.Request.{Request}
use Rattle.node_state.specs.declared.record.DownBy.{DownBy}
use Rattle.node_state.specs.declared.record.DownBy.TheVariants as down
use Rattle.node_state.specs.declared.record.NodeChange.{NodeChange}
use Rattle.node_state.specs.declared.record.NodeChange.TheVariants as change
use Rattle.node_state.specs.declared.record.NodeRecord.{NodeRecord}
use Rattle.node_state.specs.Nodes.{change_at, changed, noted, resumed, set_down, silent}
use Rattle.node_state.specs.declared.partition_record.PartRecord.{PartRecord}
use Rattle.node_state.specs.Partitions.{in_state, in_state_at}
use Rattle.ctl_state.specs.State.{State}
use Rattle.ctl_state.specs.Verdicts.{stamped}
use Rattle.ctl_nodes.specs.Changing.{changed_where}
use Rattle.ctl_nodes.specs.Updating.{change_by, is_among}
use Rattle.ctl_nodes.specs.Failing.{lost_after}
use Rattle.ctl_node_side.specs.Answering.{is_restarted}
use Rattle.ctl_node_side.specs.Reporting.{heard_by, lists_nothing}
use Rattle.ctl_node_side.specs.Restarting.{met}
use Rattle.ctl_node_side.specs.Silence.{any_silent, falls_silent, silenced, without_silent}
use Rattle.step_lemmas.proofs.Making.{ByPass, ByReconfigure, ByReport, ByUpdateNode, ByUpdatePartition, MayMake}
use Rattle.saved_laws.specs.Kept.{AreDropped, AreGone, confs_of, in_force, is_reconfigure, part_confs_of, without_states}
use Rattle.saved_laws.proofs.PlacesBack.{same_places}

-- what the two files say is as before, and so are the nodes that are dropped and gone
pub record LeavesFiles (s after : State) : Type 0 where
  pub settings : after.settings ≡ s.settings
  pub assocs : after.assocs ≡ s.assocs
  pub qos : after.qos ≡ s.qos
  pub partitions : without_states after.partitions ≡ without_states s.partitions
  pub nodes : confs_of after.nodes ≡ confs_of s.nodes
  pub dropped : after.dropped ≡ s.dropped
  pub gone : after.gone ≡ s.gone

pub leaves_itself : (s : State) → LeavesFiles s s
leaves_itself s = record {
  settings = refl;
  assocs = refl;
  qos = refl;
  partitions = refl;
  nodes = refl;
  dropped = refl;
  gone = refl;
}

-- partitions that differ in their states alone are of the same lines
lines-of : (partitions : List PartRecord) → part_confs_of (without_states partitions) ≡ part_confs_of partitions
lines-of [] = refl
lines-of (partition ∷ partitions) =
    ap (λ (later : List PartConf). partition.conf ∷ later) (lines-of partitions)

-- the same slurm.conf is in force
pub same_force : (s after : State) → LeavesFiles s after → in_force after ≡ in_force s
same_force s after leaves =
    let lines : part_confs_of after.partitions ≡ part_confs_of s.partitions =
    sym (lines-of after.partitions) ∙ ap part_confs_of leaves.partitions ∙ lines-of s.partitions in
    ap (λ settings. force settings (confs_of after.nodes) (part_confs_of after.partitions)) leaves.settings
    ∙ ap (λ nodes. force s.settings nodes (part_confs_of after.partitions)) leaves.nodes
    ∙ ap (force s.settings (confs_of s.nodes)) lines
  where
    force : Settings → List NodeConf → List PartConf → ConfView
    force settings nodes partitions = record { settings = settings; nodes = nodes; partitions = partitions }

-- and the same nodes are absent
pub left_dropped : (s after : State) → LeavesFiles s after → AreDropped s.nodes s.dropped
    → AreDropped after.nodes after.dropped
left_dropped s after leaves are =
    subst (AreDropped after.nodes) (sym leaves.dropped) (record {
      ordered = are.ordered;
      once = are.once;
      absent = λ k d below. same_places (get_or s.dropped k d).name after.nodes s.nodes leaves.nodes
          ∙ are.absent k d below;
    })

pub left_gone : (s after : State) → LeavesFiles s after → AreGone s.nodes s.gone → AreGone after.nodes after.gone
left_gone s after leaves are =
    subst (AreGone after.nodes) (sym leaves.gone) (record {
      once = are.once;
      absent = λ k d below. same_places (get_or s.gone k d) after.nodes s.nodes leaves.nodes ∙ are.absent k d below;
    })

-- ---- no change of a node changes what slurm.conf says of it

silent-conf : (node : NodeRecord) (by : DownBy) → (silent node by).conf ≡ node.conf
silent-conf node down.No = refl
silent-conf node down.Silent = refl
silent-conf node down.Set = refl

set-down-conf : (node : NodeRecord) (by : DownBy) → (set_down node by).conf ≡ node.conf
set-down-conf node down.No = refl
set-down-conf node down.Silent = refl
set-down-conf node down.Set = refl

resumed-conf : (node : NodeRecord) (by : DownBy) → (resumed node by).conf ≡ node.conf
resumed-conf node down.No = refl
resumed-conf node down.Silent = refl
resumed-conf node down.Set = refl

noted-conf : (node : NodeRecord) (empty : Bool) (by : DownBy) → (noted node empty by).conf ≡ node.conf
noted-conf node empty down.No = refl
noted-conf node empty down.Silent = refl
noted-conf node empty down.Set = refl

changed-conf : (one : NodeChange) (node : NodeRecord) → (changed one node).conf ≡ node.conf
changed-conf change.Silent node = silent-conf node node.down
changed-conf change.Down node = set-down-conf node node.down
changed-conf change.Drain node = refl
changed-conf change.Resume node = resumed-conf node node.down
changed-conf (change.Heard heard empty) node = noted-conf node empty node.down

where-conf : (one : NodeChange) (test : NodeRecord → Bool) (node : NodeRecord)
    → (changed_where one test node).conf ≡ node.conf
where-conf one test node =
    cond_both (test node) (changed one node) node (λ (other : NodeRecord). other.conf ≡ node.conf)
    (λ is. changed-conf one node) (λ not. refl)

pub confs_where : (one : NodeChange) (test : NodeRecord → Bool) (nodes : List NodeRecord)
    → confs_of (map (changed_where one test) nodes) ≡ confs_of nodes
confs_where one test [] = refl
confs_where one test (node ∷ nodes) =
    ap (λ conf. conf ∷ confs_of (map (changed_where one test) nodes)) (where-conf one test node)
    ∙ ap (λ later. node.conf ∷ later) (confs_where one test nodes)

pub confs_at : (place : ℕ) (one : NodeChange) (nodes : List NodeRecord)
    → confs_of (change_at place one nodes) ≡ confs_of nodes
confs_at place one [] = refl
confs_at zero one (node ∷ nodes) = ap (λ conf. conf ∷ confs_of nodes) (changed-conf one node)
confs_at (suc place) one (node ∷ nodes) = ap (λ later. node.conf ∷ later) (confs_at place one nodes)

shapes-at : (place : ℕ) (state : PartState) (partitions : List PartRecord)
    → without_states (in_state_at place state partitions) ≡ without_states partitions
shapes-at place state [] = refl
shapes-at zero state (partition ∷ partitions) = refl
shapes-at (suc place) state (partition ∷ partitions) =
    ap (λ later. in_state Up partition ∷ later) (shapes-at place state partitions)

-- ---- what each request makes

-- what leaves the other files' lines, and the partitions and nodes their own
leaves : (s after : State) → (after.settings ≡ s.settings) × (after.assocs ≡ s.assocs) × (after.qos ≡ s.qos)
    → (after.dropped ≡ s.dropped) × (after.gone ≡ s.gone) → without_states after.partitions ≡ without_states s.partitions
    → confs_of after.nodes ≡ confs_of s.nodes → LeavesFiles s after
leaves s after files absent partitions nodes = record {
  settings = files.0;
  assocs = files.1;
  qos = files.2;
  partitions = partitions;
  nodes = nodes;
  dropped = absent.0;
  gone = absent.1;
}

silenced-opened : (s : State) (now : ℕ) → LeavesFiles s (silenced s now)
silenced-opened s now =
    cond_both (any_silent s now) (without_silent s now) s (LeavesFiles s)
    (λ some. leaves s (without_silent s now) (refl, refl, refl) (refl, refl) refl
    (confs_where change.Silent (falls_silent s.settings.slurmd_timeout now) s.nodes))
    (λ none. leaves_itself s)

met-opened : (s : State) (now node : ℕ) (report : Told) → LeavesFiles s (met s now node report)
met-opened s now node report =
    let lost = stamped now (lost_after s now (nat_eq node)) in
    cond_both (is_restarted s report) lost s (LeavesFiles s)
    (λ restarted. leaves s lost (refl, refl, refl) (refl, refl) refl refl) (λ not. leaves_itself s)

pub made_opened : (s : State) (moment : ℕ) (user : List ℕ) (request : Request) (after : State)
    → is_reconfigure request ≡ false → MayMake s moment user request after → LeavesFiles s after
made_opened s moment user request after other (ByUpdateNode names order) =
    leaves s after (refl, refl, refl) (refl, refl) refl (confs_where (change_by order) (is_among names) s.nodes)
made_opened s moment user request after other (ByUpdatePartition name state place) =
    leaves s after (refl, refl, refl) (refl, refl) (shapes-at place state s.partitions) refl
made_opened s moment user request after other (ByReport report node found) =
    let stays = met-opened s moment node report in
    leaves s after (stays.settings, stays.assocs, stays.qos) (stays.dropped, stays.gone) stays.partitions
    (confs_at node (change.Heard (heard_by moment report) (lists_nothing report.running)) (met s moment node report).nodes
    ∙ stays.nodes)
made_opened s moment user request after other ByPass =
    let stays = silenced-opened s moment in
    leaves s after (stays.settings, stays.assocs, stays.qos) (stays.dropped, stays.gone) stays.partitions stays.nodes
made_opened s moment user request after other (ByReconfigure conf bytes) = absurd (both_ways true other refl)
made_opened s moment user request after other kind = leaves s after (refl, refl, refl) (refl, refl) refl refl
