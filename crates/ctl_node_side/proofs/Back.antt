-- What was kept is put back: the cluster is as it was.
use Rattle.std.proofs.Common.{ℕ, ◌≡◌, ◌∙◌, Bool, List, [], ◌∷◌, map, refl, ap}
use Rattle.std.specs.List.{filter, list_any}
use Rattle.job_table.specs.declared.record.JobRecord.{JobRecord}
use Rattle.job_table.specs.declared.record.Part.{Part}
use Rattle.job_table.specs.Table.{HaveRisingIds, JobsView}
use Rattle.ctl_state.specs.declared.cluster.Cluster.{Cluster}
use Rattle.ctl_state.specs.Index.{IsIndexed}
use Rattle.ctl_state.specs.State.{State, state_of}
use Rattle.ctl_nodes.specs.Failing.{after_loss, loses}
use Rattle.ctl_node_side.specs.declared.kept.Kept.{Kept}
use Rattle.ctl_node_side.specs.Keeping.{Keeps, put_all, put_back}
use Rattle.ctl_node_side.specs.Silence.{silent_at, without_silent}

-- the same nodes are lost by the same jobs
pub any_alike : (lost other : ℕ → Bool) → ((place : ℕ) → lost place ≡ other place) → (parts : List Part)
    → list_any (λ (part : Part). lost part.node) parts ≡ list_any (λ (part : Part). other part.node) parts
any_alike lost other same [] = refl
any_alike lost other same (part ∷ parts) =
    let here = same part.node in
    let rest = any_alike lost other same parts in
    cc

pub filter_alike : (one other : JobRecord → Bool) → ((job : JobRecord) → one job ≡ other job) → (jobs : List JobRecord)
    → filter one jobs ≡ filter other jobs
filter_alike one other same [] = refl
filter_alike one other same (job ∷ jobs) =
    let here = same job in
    let rest = filter_alike one other same jobs in
    cc

-- a table by its parts
pub view_is : (jobs : JobsView) (records : List JobRecord) (usage : List ℕ) → jobs.records ≡ records → jobs.usage ≡ usage
    → jobs ≡ record { records = records; usage = usage }
view_is jobs records usage are used = rw (← are, ← used) refl

-- jobs that are put back
abbrev pub PutBack : Type 0
PutBack = (now : ℕ) (lost : ℕ → Bool) (jobs : List JobRecord) → HaveRisingIds jobs
    → put_all (filter (loses lost) jobs) (map (after_loss now lost) jobs) ≡ jobs

jobs-back : PutBack → (now : ℕ) (lost other : ℕ → Bool) → ((place : ℕ) → lost place ≡ other place)
    → (kept jobs : List JobRecord) → kept ≡ filter (loses lost) jobs → HaveRisingIds jobs
    → put_all kept (map (after_loss now other) jobs) ≡ jobs
jobs-back back now lost other same kept jobs are rising =
    ap (λ kept. put_all kept (map (after_loss now other) jobs))
    (are ∙ filter_alike (loses lost) (loses other) (λ (job : JobRecord). any_alike lost other same job.parts) jobs)
    ∙ back now other jobs rising

pub state_back : PutBack → (now : ℕ) (lost : ℕ → Bool) (before fallen : Cluster) (kept : Kept)
    → ((place : ℕ) → lost place ≡ silent_at (state_of before) now place)
    → Keeps lost before kept → HaveRisingIds before.jobs.records
    → state_of fallen ≡ without_silent (state_of before) now
    → state_of (put_back kept fallen) ≡ state_of before
state_back back now lost before fallen kept same keeps rising are =
    let s = state_of before in
    let jobs = jobs-back back now lost (silent_at s now) same kept.jobs.items s.jobs keeps.jobs rising in
    ap (λ (t : State). record t {
      jobs = put_all kept.jobs.items t.jobs;
      usage = kept.usage.items;
      nodes = kept.nodes.records;
      moment = kept.moment;
    }) are
    ∙ rw (jobs, keeps.usage, keeps.nodes, keeps.moment) refl

pub index_back : PutBack → (now : ℕ) (lost : ℕ → Bool) (before fallen : Cluster) (kept : Kept)
    → ((place : ℕ) → lost place ≡ silent_at (state_of before) now place)
    → Keeps lost before kept → HaveRisingIds before.jobs.records
    → state_of fallen ≡ without_silent (state_of before) now
    → IsIndexed before → IsIndexed (put_back kept fallen)
index_back back now lost before fallen kept same keeps rising are indexed =
    let jobs : put_all kept.jobs.items fallen.jobs.records ≡ before.jobs.records =
    ap (λ (t : State). t.jobs) (state_back back now lost before fallen kept same keeps rising are) in
    rw (jobs, keeps.nodes) indexed
