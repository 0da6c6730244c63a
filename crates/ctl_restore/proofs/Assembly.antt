-- A restored state is sound: what is saved of jobs fits, and the rest is as slurm.conf says it.
use Rattle.std.proofs.Common.{◌≡◌, ℕ, ◌+◌, ◌<◌, ◌≤◌, Bool, List, [], ◌∷◌, length, map, All, get_or, Option, Some, None, refl, ap, ◌∙◌, arith}
use Rattle.std.specs.Prelude.{find, bytes_eq, option_map}
use Rattle.std.specs.List.{range_with_len}
use Rattle.std.proofs.lemmas.List.{length-map}
use Rattle.std.proofs.lemmas.List.FromFn.{length-range_with_len}
use Rattle.std.proofs.lemmas.List.Elements.{All-map}
use Rattle.plain_data.specs.declared.conf.PartState.{PartState}
use Rattle.node_state.specs.declared.record.NodeRecord.{NodeRecord}
use Rattle.node_state.specs.declared.partition_record.PartRecord.{PartRecord}
use Rattle.node_state.specs.Partitions.{IsOnNodes, in_state}
use Rattle.node_state.specs.Reservations.{AreReservations}
use Rattle.job_table.specs.declared.record.JobRecord.{JobRecord}
use Rattle.job_table.specs.Table.{HaveRisingIds}
use Rattle.job_table.specs.Targets.{AreTogether}
use Rattle.ctl_state.specs.Holding.{IsHeldOnce, parts_of}
use Rattle.ctl_state.specs.Laws.{NodesHold}
use Rattle.ctl_state.specs.Planning.{room_of}
use Rattle.ctl_state.specs.Soundness.{AreOfPartitions, AreUp, HasLimits, IsKept, IsOfAccounts, IsSound, PlansPending}
use Rattle.ctl_state.specs.State.{State, last_job_id, last_moment}
use Rattle.saved_data.specs.declared.saved.Saved.{Saved}
use Rattle.saved_data.specs.declared.parts.SavedNode.{SavedNode}
use Rattle.saved_data.specs.declared.parts.SavedPartition.{SavedPartition}
use Rattle.ctl_restore.proofs.Usages.{found-passes}
use Rattle.ctl_restore.specs.Restored.{gone_names, in_saved_state, restored_job, restored_node, restored_over, restored_partition, restored_placed, restored_reservation, restored_usage, restored_usages, standing_as, standings}

-- a partition in another state has its limits, and is on its nodes
pub partition-keeps : (P : PartRecord → Type 0)
    → ((partition : PartRecord) (line : SavedPartition) → P partition → P (in_saved_state partition (Some line)))
    → (lines : List SavedPartition) (partitions : List PartRecord)
    → All P partitions → All P (map (restored_partition lines) partitions)
partition-keeps P stays lines partitions all =
    All-map P (restored_partition lines) partitions
    (λ k d below. at (get_or partitions k d)
    (find (λ (line : SavedPartition). bytes_eq line.name (get_or partitions k d).conf.name) lines) (all k d below))
  where
    at : (partition : PartRecord) (line : Option SavedPartition) → P partition → P (in_saved_state partition line)
    at partition None is = is
    at partition (Some line) is = stays partition line is

pub on-nodes : (count : ℕ) (lines : List SavedPartition) (partitions : List PartRecord)
    → All (IsOnNodes count) partitions → All (IsOnNodes count) (map (restored_partition lines) partitions)
on-nodes count lines partitions all =
    partition-keeps (IsOnNodes count) (λ partition line is. record { there = is.there; once = is.once }) lines partitions all

pub limits-stay : (lines : List SavedPartition) (partitions : List PartRecord)
    → All HasLimits partitions → All HasLimits (map (restored_partition lines) partitions)
limits-stay lines partitions all =
    partition-keeps HasLimits (λ partition line is. record { longest = is.longest; unasked = is.unasked }) lines partitions all

-- a node stays as it is configured
conf-stays : (node : NodeRecord) (line : Option SavedNode) → (standing_as node line).conf ≡ node.conf
conf-stays node None = refl
conf-stays node (Some line) = refl

pub confs-stay : (lines : List SavedNode) (nodes : List NodeRecord)
    → map (λ (node : NodeRecord). node.conf) (map (restored_node lines) nodes) ≡ map (λ (node : NodeRecord). node.conf) nodes
confs-stay lines [] = refl
confs-stay lines (node ∷ nodes) =
    let conf = conf-stays node (find (λ (line : SavedNode). bytes_eq line.name node.conf.name) lines) in
    ap (λ confs. (restored_node lines node).conf ∷ confs) (confs-stay lines nodes)
    ∙ ap (λ conf. conf ∷ map (λ (node : NodeRecord). node.conf) nodes) conf

-- the facts about what is restored of the jobs, their parts and the plan
pub record AreRestored (s : State) (saved : Saved) : Type 0 where
  pub of_partitions : AreOfPartitions s.partitions (map (restored_job s) saved.jobs)
  pub of_accounts : All (IsOfAccounts s.assocs s.qos) (map (restored_job s) saved.jobs)
  pub reservations : AreReservations (map (restored_reservation s.nodes) saved.reservations)
  pub rising : HaveRisingIds (map (restored_job s) saved.jobs)
  pub below_next : All (λ (job : JobRecord). job.id < saved.next_id) (map (restored_job s) saved.jobs)
  pub together : AreTogether (map (restored_job s) saved.jobs)
  pub next : saved.next_id ≤ last_job_id + 1
  pub moment : saved.moment ≤ last_moment
  pub jobs : All (IsKept saved.moment) (map (restored_job s) saved.jobs)
  pub held : IsHeldOnce (map room_of (map (restored_node (standings saved)) s.nodes)) (parts_of (map (restored_job s) saved.jobs))
  pub up : AreUp (map (restored_node (standings saved)) s.nodes) (parts_of (map (restored_job s) saved.jobs))
  pub plan : PlansPending (map (restored_job s) saved.jobs) (map (restored_placed s.nodes (gone_names s.nodes saved.plan)) saved.plan)

pub sound-restored : NodesHold → (s : State) (saved : Saved) → IsSound s → s.jobs ≡ [] → AreRestored s saved
    → IsSound (restored_over s saved)
unfolding restored_over restored_usages
sound-restored nodes-hold s saved sound none are =
    let nodes = map (restored_node (standings saved)) s.nodes in
    let stay : map (λ (node : NodeRecord). node.conf) nodes ≡ map (λ (node : NodeRecord). node.conf) s.nodes =
    confs-stay (standings saved) s.nodes in
    let nothing : AreUp nodes (parts_of s.jobs) = rw none (λ k d below. absurd (omega (arith, below))) in
    let stands : IsSound (record s { nodes = nodes }) = nodes-hold s nodes sound stay nothing in
    let many : length (map (restored_partition saved.partitions) s.partitions) ≡ length s.partitions =
    length-map s.partitions (restored_partition saved.partitions) in
    record {
      settings = sound.settings;
      nodes = stands.nodes;
      partitions = on-nodes (length nodes) saved.partitions s.partitions stands.partitions;
      limits = limits-stay saved.partitions s.partitions sound.limits;
      of_partitions = rw many are.of_partitions;
      of_accounts = are.of_accounts;
      usage = length-map (range_with_len 0 (length s.assocs)) (restored_usage saved.usage s.assocs)
          ∙ length-range_with_len 0 (length s.assocs);
      reservations = are.reservations;
      rising = are.rising;
      below_next = are.below_next;
      together = are.together;
      next = are.next;
      size = sound.size;
      accepts = sound.accepts;
      moment = are.moment;
      jobs = are.jobs;
      held = are.held;
      up = are.up;
      plan = are.plan;
    }

-- what is done to the partition, or the node, of a line that is found is what is said of it
pub state-there : (lines : List SavedPartition) (partition : PartRecord) (state : PartState)
    → Some state ≡ option_map (λ (line : SavedPartition). line.state)
    (find (λ (line : SavedPartition). bytes_eq line.name partition.conf.name) lines)
    → in_state state partition ≡ restored_partition lines partition
state-there lines partition state is = at (find (λ (line : SavedPartition). bytes_eq line.name partition.conf.name) lines) is where
  at : (found : Option SavedPartition) → Some state ≡ option_map (λ (line : SavedPartition). line.state) found
      → in_state state partition ≡ in_saved_state partition found
  at None is = absurd (let never = is in cc)
  at (Some line) is = ap (λ state. in_state state partition) (same line.state is) where
    same : (other : PartState) → Some state ≡ Some other → state ≡ other
    same other is = cc

pub line-there : (lines : List SavedNode) (node : NodeRecord) (line : SavedNode)
    → Some line ≡ find (λ (line : SavedNode). bytes_eq line.name node.conf.name) lines
    → standing_as node (Some line) ≡ restored_node lines node
line-there lines node line is = ap (standing_as node) is

-- what is found among lines of which all are so is so
pub found-all : (P : SavedNode → Type 0) (p : SavedNode → Bool) (lines : List SavedNode) (line : SavedNode)
    → find p lines ≡ Some line → All P lines → P line
found-all P p lines line is all =
    let (k, below, here, passes) = found-passes p lines line is in rw (here line) at (all k line below)
