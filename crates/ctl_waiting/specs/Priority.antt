-- The priority of a job: Slurm's multifactor priority.
use Rattle.std.specs.Prelude.{ℕ, ◌-◌, ◌*◌, min, max, unwrap_or, List, [], ◌∷◌, map, fold, sum, sum_by, slice_get, option_map}
use Rattle.plain_data.specs.Ratios.{share_of}
use Rattle.reply_data.specs.declared.priority.PriorityParts.{PriorityParts}
use Rattle.run_limits.specs.Priority.{priority_of}
use Rattle.node_state.specs.declared.record.NodeRecord.{NodeRecord}
use Rattle.node_state.specs.declared.partition_record.PartRecord.{PartRecord}
use Rattle.run_limits.specs.declared.record.QosRecord.{QosRecord}
use Rattle.job_table.specs.declared.record.JobRecord.{JobRecord}
use Rattle.ctl_state.specs.Counted.{cpus_counted}
use Rattle.ctl_state.specs.State.{State, partition_of}
use Rattle.ctl_waiting.specs.FairShare.{rank_at, user_count}

-- the greatest of these numbers, 0 of none
unfoldable pub greatest : List ℕ → ℕ
greatest numbers = fold max 0 numbers

-- after how many seconds of waiting a job's age counts whole
abbrev pub whole_age : State → ℕ
whole_age s = s.settings.max_age * 60

-- the processors of all nodes, of those that are down or drained too
unfoldable pub all_cpus : State → ℕ
all_cpus s = sum_by (λ (node : NodeRecord). node.conf.cpus) s.nodes

-- the factor of the job's partition, and the greatest of any
abbrev pub factor_of : State → JobRecord → ℕ
factor_of s job = unwrap_or (option_map (λ (partition : PartRecord). partition.conf.factor) (partition_of s job)) 0

unfoldable pub greatest_factor : State → ℕ
greatest_factor s = greatest (map (λ (partition : PartRecord). partition.conf.factor) s.partitions)

-- the priority of the job's quality of service, and the greatest of any
abbrev pub qos_priority_of : State → JobRecord → ℕ
qos_priority_of s job = unwrap_or (option_map (λ (one : QosRecord). one.conf.priority) (slice_get s.qos job.qos)) 0

unfoldable pub greatest_qos : State → ℕ
greatest_qos s = greatest (map (λ (one : QosRecord). one.conf.priority) s.qos)

-- how long the job has waited, as far as that counts, of the age that counts whole
abbrev pub age_term : State → ℕ → JobRecord → ℕ
age_term s now job = share_of s.settings.weight_age (min (whole_age s) (now - job.eligible)) (whole_age s)

-- the user's rank of the number of users
abbrev pub fair_share_term : State → ℕ → JobRecord → ℕ
fair_share_term s now job = share_of s.settings.weight_fairshare (rank_at s now job.assoc) (user_count s)

-- the processors that the job is counted with, as far as there are so many, of all
abbrev pub job_size_term : State → JobRecord → ℕ
job_size_term s job = share_of s.settings.weight_job_size (min (cpus_counted job) (all_cpus s)) (all_cpus s)

abbrev pub partition_term : State → JobRecord → ℕ
partition_term s job = share_of s.settings.weight_partition (factor_of s job) (greatest_factor s)

abbrev pub qos_term : State → JobRecord → ℕ
qos_term s job = share_of s.settings.weight_qos (qos_priority_of s job) (greatest_qos s)

-- the terms of a job's priority, in the order of sprio's columns
abbrev pub terms : State → ℕ → JobRecord → List ℕ
terms s now job =
    age_term s now job ∷ fair_share_term s now job ∷ job_size_term s job ∷ partition_term s job ∷ qos_term s job ∷ []

-- a job's priority at a moment, and what it is made of
unfoldable pub parts_of : State → ℕ → JobRecord → PriorityParts
parts_of s now job = record {
  age = age_term s now job;
  fair_share = fair_share_term s now job;
  job_size = job_size_term s job;
  partition = partition_term s job;
  qos = qos_term s job;
  nice = job.nice;
  sum = priority_of (sum (terms s now job)) job.nice;
}
