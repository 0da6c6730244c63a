-- Whether a file says what is in force already.
use Rattle.std.specs.Prelude.{Bool, true, false, ◌&&◌, nat_eq, bytes_eq, List}
use Rattle.std.specs.Bool.{beq}
use Rattle.std.specs.Option.{option_eq}
use Rattle.std.specs.Cmp.Lexicographic.{pointwise}
use Rattle.plain_data.specs.Confs.{ConfView}
use Rattle.plain_data.specs.declared.limit.Limit.{Limit}
use Rattle.plain_data.specs.declared.limit.Limit.TheVariants.{Minutes, Unlimited}
use Rattle.plain_data.specs.declared.mem_ask.MemAsk.{MemAsk}
use Rattle.plain_data.specs.declared.mem_ask.MemAsk.TheVariants.{All, PerNode, PerCpu}
use Rattle.plain_data.specs.declared.conf.Settings.{Settings}
use Rattle.plain_data.specs.declared.conf.NodeConf.{NodeConf}
use Rattle.plain_data.specs.declared.conf.NodeStart.{NodeStart}
use Rattle.plain_data.specs.declared.conf.NodeStart.TheVariants as start
use Rattle.plain_data.specs.declared.conf.PartConf.{PartConf}
use Rattle.plain_data.specs.declared.conf.PartState.{PartState}
use Rattle.plain_data.specs.declared.conf.PartState.TheVariants as state
use Rattle.node_state.specs.declared.record.NodeRecord.{NodeRecord}
use Rattle.node_state.specs.declared.partition_record.PartRecord.{PartRecord}
use Rattle.node_state.specs.Partitions.{places_of}
use Rattle.ctl_state.specs.State.{State}

abbrev pub same_mem : MemAsk → MemAsk → Bool
same_mem All All = true
same_mem (PerNode one) (PerNode other) = nat_eq one other
same_mem (PerCpu one) (PerCpu other) = nat_eq one other
same_mem one other = false

abbrev pub same_limit : Limit → Limit → Bool
same_limit (Minutes one) (Minutes other) = nat_eq one other
same_limit Unlimited Unlimited = true
same_limit one other = false

abbrev pub same_start : NodeStart → NodeStart → Bool
same_start start.Unknown start.Unknown = true
same_start start.Down start.Down = true
same_start start.Drain start.Drain = true
same_start one other = false

abbrev pub same_state : PartState → PartState → Bool
same_state state.Up state.Up = true
same_state state.Down state.Down = true
same_state state.Drain state.Drain = true
same_state state.Inactive state.Inactive = true
same_state one other = false

-- how many jobs there may be and how long they are kept, and what becomes of them where their node is lost
abbrev pub same_bounds : Settings → Settings → Bool
same_bounds one other =
    nat_eq one.max_job_count other.max_job_count
    && (nat_eq one.max_array_size other.max_array_size
    && (nat_eq one.min_job_age other.min_job_age
    && (nat_eq one.slurmd_timeout other.slurmd_timeout
    && (beq one.job_requeue other.job_requeue && bytes_eq one.slurm_user other.slurm_user))))

abbrev pub same_weights : Settings → Settings → Bool
same_weights one other =
    nat_eq one.max_age other.max_age
    && (nat_eq one.weight_age other.weight_age
    && (nat_eq one.weight_fairshare other.weight_fairshare
    && (nat_eq one.weight_job_size other.weight_job_size
    && (nat_eq one.weight_partition other.weight_partition && nat_eq one.weight_qos other.weight_qos))))

abbrev pub same_planning : Settings → Settings → Bool
same_planning one other =
    nat_eq one.bf_window other.bf_window
    && (nat_eq one.bf_interval other.bf_interval
    && (option_eq same_mem one.mem_default other.mem_default && beq one.preempt other.preempt))

-- the same settings, but for the number of the first job, which counts at the opening alone
abbrev pub same_settings : Settings → Settings → Bool
same_settings one other = same_bounds one other && (same_weights one other && same_planning one other)

abbrev pub same_node : NodeConf → NodeConf → Bool
same_node one other =
    bytes_eq one.name other.name
    && (nat_eq one.cpus other.cpus
    && (nat_eq one.mem other.mem
    && (nat_eq one.weight other.weight
    && (pointwise bytes_eq one.features other.features && same_start one.state other.state))))

-- what a partition is, and how it stands before others
abbrev pub same_standing : PartConf → PartConf → Bool
same_standing one other =
    bytes_eq one.name other.name
    && (pointwise bytes_eq one.nodes other.nodes
    && (beq one.is_default other.is_default
    && (same_state one.state other.state && (nat_eq one.factor other.factor && nat_eq one.tier other.tier))))

-- what it gives its jobs
abbrev pub same_allowance : PartConf → PartConf → Bool
same_allowance one other =
    same_limit one.max_time other.max_time
    && (option_eq same_limit one.default_time other.default_time
    && (nat_eq one.min_nodes other.min_nodes
    && (option_eq nat_eq one.max_nodes other.max_nodes
    && (beq one.exclusive other.exclusive && option_eq same_mem one.mem_default other.mem_default))))

-- whose jobs it takes
abbrev pub same_admission : PartConf → PartConf → Bool
same_admission one other =
    option_eq (pointwise bytes_eq) one.accounts other.accounts && option_eq (pointwise bytes_eq) one.qos other.qos

abbrev pub same_line : PartConf → PartConf → Bool
same_line one other = same_standing one other && (same_allowance one other && same_admission one other)

-- the partition is what a line of the file makes of these nodes
abbrev pub same_partition : List NodeRecord → PartRecord → PartConf → Bool
same_partition nodes partition conf =
    same_line partition.conf conf
    && (same_state partition.state conf.state && pointwise nat_eq partition.nodes (places_of nodes conf.nodes))

-- the nodes are those of the lines of the file
abbrev pub same_nodes : List NodeRecord → List NodeConf → Bool
same_nodes nodes confs = pointwise (λ (node : NodeRecord) (conf : NodeConf). same_node node.conf conf) nodes confs

-- settings, nodes and partitions are those of the file
abbrev pub is_same : State → ConfView → Bool
is_same s conf =
    same_settings s.settings conf.settings
    && (same_nodes s.nodes conf.nodes && pointwise (same_partition s.nodes) s.partitions conf.partitions)
