-- A new file that says what is in force leaves the state as it is, and only such a one does.
use Rattle.std.proofs.Common.{◌≡◌, ℕ, ◌<◌, Bool, true, false, ◌&&◌, eqb, List, [], ◌∷◌, ◌++◌, length, map, get_or, All, Option, Some, None, subst, refl, sym, ap, ◌∙◌, arith}
use Rattle.std.specs.Cmp.Lexicographic.{pointwise}
use Rattle.std.proofs.lemmas.Bool.{and_from, and_parts}
use Rattle.std.proofs.lemmas.List.Elements.{All-head, All-tail}
use Rattle.std.proofs.lemmas.List.Folds.{map_fixed}
use Rattle.std.proofs.lemmas.Option.{slice_get-get_or}
use Rattle.plain_data.specs.Confs.{ConfView}
use Rattle.plain_data.specs.declared.conf.NodeConf.{NodeConf}
use Rattle.plain_data.specs.declared.conf.PartConf.{PartConf}
use Rattle.backfill_planner.specs.declared.Placed.{Placed}
use Rattle.backfill_planner.specs.declared.Share.{Share}
use Rattle.node_state.specs.declared.record.NodeRecord.{NodeRecord}
use Rattle.node_state.specs.declared.partition_record.PartRecord.{PartRecord}
use Rattle.node_state.specs.Nodes.{AreNamedOnce}
use Rattle.node_state.specs.Partitions.{opened, places_of}
use Rattle.node_state.specs.Renewing.{node_named, renewed, renewed_from, staying}
use Rattle.job_table.specs.declared.record.JobRecord.{JobRecord}
use Rattle.job_table.specs.declared.record.Part.{Part}
use Rattle.ctl_state.specs.Soundness.{IsSound}
use Rattle.ctl_state.specs.State.{State}
use Rattle.ctl_reconfigure.specs.Names.{conf_names, line_names, new_place, node_names, partition_names, same_names}
use Rattle.ctl_reconfigure.specs.Reconfiguring.{dropped_after, gone_after, job_after, keeps_places, nodes_after, part_after, partitions_after, plan_after, reconfigured, reservations_after, settings_after, share_after, share_names}
use Rattle.ctl_reconfigure.specs.Same.{is_same, same_line, same_node, same_nodes, same_partition, same_settings, same_state}
use Rattle.ctl_reconfigure.proofs.NameLists.{same-names}
use Rattle.ctl_reconfigure.proofs.Places.{conf-renewed, named-itself, names-after}
use Rattle.ctl_reconfigure.proofs.SameRecords.{line-same, list-made, list-same, node-same, numbers-same, own-numbers, same-line, same-list, same-node, same-settings, same-state, settings-same, state-same}

-- ---- places that stay

place-kept : (before now : List (List ℕ)) (place : ℕ) → before ≡ now → new_place before now place ≡ place
place-kept before now place same = rw (same-names before now same) refl

-- ---- nodes

each-stays : (s : State) (moment : ℕ) (nodes : List NodeRecord)
    → All (λ (node : NodeRecord). node_named node.conf.name s.nodes ≡ Some node) nodes
    → map (renewed s.nodes s.dropped moment) (map (λ (node : NodeRecord). node.conf) nodes) ≡ nodes
each-stays s moment [] finds = refl
each-stays s moment (node ∷ nodes) finds =
    let here = All-head (λ (node : NodeRecord). node_named node.conf.name s.nodes ≡ Some node) node nodes finds in
    let rest = each-stays s moment nodes
    (All-tail (λ (node : NodeRecord). node_named node.conf.name s.nodes ≡ Some node) node nodes finds) in
    λ i. renewed_from s.dropped moment node.conf (here i) ∷ rest i

nodes-stay : (s : State) (moment : ℕ) (conf : ConfView) → AreNamedOnce s.nodes → same_nodes s.nodes conf.nodes ≡ true
    → nodes_after s moment conf ≡ s.nodes
nodes-stay s moment conf once same =
    let lines = list-same (λ (node : NodeRecord) (line : NodeConf). same_node node.conf line)
    (λ (node : NodeRecord). node.conf) (λ node line is. node-same node.conf line is) s.nodes conf.nodes same in
    ap (map (renewed s.nodes s.dropped moment)) (sym lines)
    ∙ each-stays s moment s.nodes (λ k d below. named-itself s.nodes k (get_or s.nodes k d) once below
    (slice_get-get_or s.nodes k d below))

names-stay : (s : State) (moment : ℕ) (conf : ConfView) → nodes_after s moment conf ≡ s.nodes
    → node_names s.nodes ≡ conf_names conf.nodes
names-stay s moment conf stay = sym (ap node_names stay) ∙ names-after s moment conf

-- ---- partitions

partition-same : (nodes : List NodeRecord) (partition : PartRecord) (line : PartConf)
    → same_partition nodes partition line ≡ true → partition ≡ opened nodes line
partition-same nodes partition line same =
    let first = and_parts (same_line partition.conf line)
    (same_state partition.state line.state && pointwise eqb partition.nodes (places_of nodes line.nodes)) same in
    let rest = and_parts (same_state partition.state line.state)
    (pointwise eqb partition.nodes (places_of nodes line.nodes)) first.1 in
    let conf = line-same partition.conf line first.0 in
    let state = state-same partition.state line.state rest.0 in
    let places = numbers-same partition.nodes (places_of nodes line.nodes) rest.1 in
    λ i. record { conf = conf i; state = state i; nodes = places i }

same-partition : (nodes : List NodeRecord) (line : PartConf) → same_partition nodes (opened nodes line) line ≡ true
same-partition nodes line =
    and_from (same_line line line) (same_state line.state line.state && pointwise eqb (places_of nodes line.nodes) (places_of nodes line.nodes))
    (same-line line) (and_from (same_state line.state line.state)
    (pointwise eqb (places_of nodes line.nodes) (places_of nodes line.nodes)) (same-state line.state)
    (own-numbers (places_of nodes line.nodes)))

names-opened : (nodes : List NodeRecord) (lines : List PartConf)
    → partition_names (map (opened nodes) lines) ≡ line_names lines
names-opened nodes [] = refl
names-opened nodes (line ∷ lines) = ap (λ names. line.name ∷ names) (names-opened nodes lines)

-- ---- jobs and the plan

job-stays : (s : State) (conf : ConfView) (job : JobRecord) → node_names s.nodes ≡ conf_names conf.nodes
    → partition_names s.partitions ≡ line_names conf.partitions → job_after s conf job ≡ job
job-stays s conf job nodes lines =
    let parts = map_fixed (part_after s conf) job.parts
    (λ k d below i. record (get_or job.parts k d) {
      node = place-kept (node_names s.nodes) (conf_names conf.nodes) (get_or job.parts k d).node nodes i;
    }) in
    let partition = place-kept (partition_names s.partitions) (line_names conf.partitions) job.partition lines in
    λ i. record job { parts = parts i; partition = partition i }

placed-stays : (s : State) (conf : ConfView) (placed : Placed) → share_names s ≡ conf_names conf.nodes ++ gone_after s conf
    → map (share_after s conf) placed.parts ≡ placed.parts
placed-stays s conf placed names =
    map_fixed (share_after s conf) placed.parts
    (λ k d below i. record (get_or placed.parts k d) {
      node = place-kept (share_names s) (conf_names conf.nodes ++ gone_after s conf) (get_or placed.parts k d).node names i;
    })

-- ---- all

pub idle : (s : State) (moment : ℕ) (conf : ConfView) → IsSound s → is_same s conf ≡ true → reconfigured s moment conf ≡ s
idle s moment conf sound same =
    let first = and_parts (same_settings s.settings conf.settings)
    (same_nodes s.nodes conf.nodes && pointwise (same_partition s.nodes) s.partitions conf.partitions) same in
    let rest = and_parts (same_nodes s.nodes conf.nodes)
    (pointwise (same_partition s.nodes) s.partitions conf.partitions) first.1 in
    let settings = settings-same s.settings conf.settings first.0 in
    let nodes = nodes-stay s moment conf sound.nodes.named rest.0 in
    let made : s.partitions ≡ map (opened s.nodes) conf.partitions =
    list-made (same_partition s.nodes) (opened s.nodes) (partition-same s.nodes) s.partitions conf.partitions rest.1 in
    let partitions : partitions_after s moment conf ≡ s.partitions =
    ap (λ nodes. map (opened nodes) conf.partitions) nodes ∙ sym made in
    let names = names-stay s moment conf nodes in
    let lines = ap partition_names made ∙ names-opened s.nodes conf.partitions in
    let kept : keeps_places s conf ≡ true = same-names (node_names s.nodes) (conf_names conf.nodes) names in
    let dropped : dropped_after s conf ≡ s.dropped = rw kept refl in
    let reservations : reservations_after s conf ≡ s.reservations = rw kept refl in
    let gone : gone_after s conf ≡ s.gone = rw kept refl in
    let jobs = map_fixed (job_after s conf) s.jobs (λ k d below. job-stays s conf (get_or s.jobs k d) names lines) in
    let shares : share_names s ≡ conf_names conf.nodes ++ gone_after s conf =
    λ i. names i ++ sym gone i in
    let plan : plan_after s conf ≡ s.plan =
    map_fixed (λ (placed : Placed). record placed { parts = map (share_after s conf) placed.parts }) s.plan
    (λ k d below i. record (get_or s.plan k d) { parts = placed-stays s conf (get_or s.plan k d) shares i }) in
    λ i. record s {
      settings = settings i;
      partitions = partitions i;
      nodes = nodes i;
      dropped = dropped i;
      reservations = reservations i;
      jobs = jobs i;
      plan = plan i;
      gone = gone i;
    }

pub only : (s : State) (moment : ℕ) (conf : ConfView) → reconfigured s moment conf ≡ s → is_same s conf ≡ true
only s moment conf is =
    let settings = same-settings s.settings conf.settings (ap (λ (t : State). t.settings) is) in
    let stay : nodes_after s moment conf ≡ s.nodes = ap (λ (t : State). t.nodes) is in
    let made : partitions_after s moment conf ≡ s.partitions = ap (λ (t : State). t.partitions) is in
    let nodes : same_nodes s.nodes conf.nodes ≡ true =
    subst (λ nodes. same_nodes nodes conf.nodes ≡ true) stay
    (same-list (λ (node : NodeRecord) (line : NodeConf). same_node node.conf line) (renewed s.nodes s.dropped moment)
    (λ line. ap (λ (conf : NodeConf). same_node conf line) (conf-renewed s moment line) ∙ same-node line) conf.nodes) in
    let opens : pointwise (same_partition (nodes_after s moment conf)) (partitions_after s moment conf) conf.partitions
    ≡ true = same-list (same_partition (nodes_after s moment conf)) (opened (nodes_after s moment conf))
    (same-partition (nodes_after s moment conf)) conf.partitions in
    let partitions : pointwise (same_partition s.nodes) s.partitions conf.partitions ≡ true =
    subst (λ nodes. pointwise (same_partition nodes) s.partitions conf.partitions ≡ true) stay
    (subst (λ partitions. pointwise (same_partition (nodes_after s moment conf)) partitions conf.partitions ≡ true)
    made opens) in
    and_from (same_settings s.settings conf.settings)
    (same_nodes s.nodes conf.nodes && pointwise (same_partition s.nodes) s.partitions conf.partitions) settings
    (and_from (same_nodes s.nodes conf.nodes) (pointwise (same_partition s.nodes) s.partitions conf.partitions)
    nodes partitions)
