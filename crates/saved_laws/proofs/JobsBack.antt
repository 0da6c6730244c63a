-- Jobs come back, and the last plan.
use Rattle.std.proofs.Common.{ℕ, ◌≡◌, ◌≢◌, ◌∙◌, ◌+◌, ◌<◌, ◌≤◌, List, [], ◌∷◌, map, length, All, Contains, Option, Some, refl, ap}
use Rattle.std.specs.Prelude.{unwrap_or}
use Rattle.std.proofs.lemmas.List.Elements.{All-head, All-map, All-tail}
use Rattle.node_state.specs.declared.record.NodeRecord.{NodeRecord}
use Rattle.node_state.specs.Partitions.{place_meant}
use Rattle.job_table.specs.declared.record.JobRecord.{JobRecord}
use Rattle.job_table.specs.declared.record.Part.{Part}
use Rattle.run_limits.specs.Accounts.{place_in, qos_meant}
use Rattle.backfill_planner.specs.declared.Placed.{Placed}
use Rattle.ctl_state.specs.Soundness.{PlansPending, pending_ids}
use Rattle.ctl_state.specs.State.{State, last_second}
use Rattle.saved_data.specs.declared.parts.SavedPlaced.{SavedPlaced}
use Rattle.ctl_saved.specs.Saving.{named_parts, partition_name, saved_job, saved_placed}
use Rattle.ctl_restore.specs.Restored.{restored_job, restored_part, restored_placed}
use Rattle.saved_laws.specs.Kept.{AreGone, IsAsOpened, IsOnNodes, confs_of}
use Rattle.saved_laws.proofs.PlacesBack.{NodesApart, PartitionsApart, partition_place_back, parts_back, same_part_confs, shares_back}
use Rattle.saved_laws.proofs.Positions.{pairs_map}

-- what a job comes back with, by what its names lead to
abbrev with-places : JobRecord → Option ℕ → Option ℕ → Option ℕ → List Part → JobRecord
with-places job assoc qos partition parts = record job {
  assoc = unwrap_or assoc 0;
  qos = unwrap_or qos 0;
  partition = unwrap_or partition 0;
  parts = parts;
}

-- the job's names lead to its places
pub record IsFound (s : State) (job : JobRecord) : Type 0 where
  pub assoc : place_in s.assocs job.user job.terms.account ≡ Some job.assoc
  pub qos : qos_meant s.qos (Some job.terms.qos) ≡ Some job.qos

-- the job's places are of the state's lists
pub record IsWithin (s : State) (job : JobRecord) : Type 0 where
  pub partition : job.partition < length s.partitions
  pub parts : All (λ (part : Part). part.node < length s.nodes) job.parts

pub job_back : (opened s : State) → IsAsOpened opened s → NodesApart s.nodes → PartitionsApart s.partitions
    → (job : JobRecord) → IsFound opened job → IsWithin s job
    → restored_job opened (saved_job s.partitions s.nodes job) ≡ job
unfolding restored_job saved_job
job_back opened s stays nodes partitions job names within =
    let assoc = names.assoc in
    let qos = names.qos in
    let partition : place_meant (Some (partition_name s.partitions job.partition)) opened.partitions ≡ Some job.partition =
    partition_place_back opened.partitions s.partitions
    (same_part_confs s.partitions opened.partitions stays.partitions) partitions job.partition within.partition in
    let parts = parts_back opened.nodes s.nodes stays.nodes nodes job.parts within.parts in
    ap (λ (found : Option ℕ). with-places job found (qos_meant opened.qos (Some job.terms.qos))
    (place_meant (Some (partition_name s.partitions job.partition)) opened.partitions)
    (map (restored_part opened.nodes) (named_parts s.nodes job.parts))) assoc
    ∙ ap (λ (found : Option ℕ). with-places job (Some job.assoc) found
    (place_meant (Some (partition_name s.partitions job.partition)) opened.partitions)
    (map (restored_part opened.nodes) (named_parts s.nodes job.parts))) qos
    ∙ ap (λ (found : Option ℕ). with-places job (Some job.assoc) (Some job.qos) found
    (map (restored_part opened.nodes) (named_parts s.nodes job.parts))) partition
    ∙ ap (λ back. with-places job (Some job.assoc) (Some job.qos) (Some job.partition) back) parts

pub jobs_back : (opened s : State) → IsAsOpened opened s → NodesApart s.nodes → PartitionsApart s.partitions
    → (jobs : List JobRecord) → All (IsFound opened) jobs → All (IsWithin s) jobs
    → map (restored_job opened) (map (saved_job s.partitions s.nodes) jobs) ≡ jobs
jobs_back opened s stays nodes partitions [] names within = refl
jobs_back opened s stays nodes partitions (job ∷ jobs) names within =
    ap (λ back. back ∷ map (restored_job opened) (map (saved_job s.partitions s.nodes) jobs))
    (job_back opened s stays nodes partitions job (All-head (IsFound opened) job jobs names) (All-head (IsWithin s) job jobs within))
    ∙ ap (λ later. job ∷ later)
    (jobs_back opened s stays nodes partitions jobs (All-tail (IsFound opened) job jobs names) (All-tail (IsWithin s) job jobs within))

pub plan_back : (opened nodes : List NodeRecord) → confs_of nodes ≡ confs_of opened → NodesApart nodes
    → (gone : List (List ℕ)) → AreGone nodes gone → (plan : List Placed)
    → All (IsOnNodes (length nodes + length gone)) plan
    → map (restored_placed opened gone) (map (saved_placed nodes gone) plan) ≡ plan
plan_back opened nodes same apart gone are [] there = refl
plan_back opened nodes same apart gone are (placed ∷ plan) there =
    let On : Placed → Type 0 = IsOnNodes (length nodes + length gone) in
    ap (λ shares. record placed { parts = shares } ∷ map (restored_placed opened gone) (map (saved_placed nodes gone) plan))
    (shares_back opened nodes same apart gone are placed.parts (All-head On placed plan there))
    ∙ ap (λ later. placed ∷ later) (plan_back opened nodes same apart gone are plan (All-tail On placed plan there))

-- whatever its places become, the plan names the same jobs at the same seconds
pub plan_pending : (opened nodes : List NodeRecord) (gone others : List (List ℕ)) (jobs : List JobRecord)
    (plan : List Placed) → PlansPending jobs plan
    → PlansPending jobs (map (restored_placed opened others) (map (saved_placed nodes gone) plan))
plan_pending opened nodes gone others jobs plan plans =
    let saved = map (saved_placed nodes gone) plan in
    let restore = restored_placed opened others in
    record {
      pending = All-map (λ (placed : Placed). Contains (pending_ids jobs) placed.id) restore saved
          (All-map (λ (placed : SavedPlaced). Contains (pending_ids jobs) placed.id) (saved_placed nodes gone) plan plans.pending);
      once = pairs_map (λ (one other : Placed). one.id ≢ other.id) restore saved
          (pairs_map (λ (one other : SavedPlaced). one.id ≢ other.id) (saved_placed nodes gone) plan plans.once);
      last = All-map (λ (placed : Placed). placed.start ≤ last_second) restore saved
          (All-map (λ (placed : SavedPlaced). placed.start ≤ last_second) (saved_placed nodes gone) plan plans.last);
    }
