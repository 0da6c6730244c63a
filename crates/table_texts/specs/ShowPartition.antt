-- The line of a partition: "show partition" in scontrol(1).
use Rattle.std.specs.Prelude.{ℕ, Bool, if◌then◌else◌, List, ◌++◌, Option, Some, None, codes, decimal}
use Rattle.plain_data.specs.declared.conf.PartState.{PartState}
use Rattle.plain_data.specs.declared.conf.PartState.TheVariants.{Up, Down, Drain, Inactive}
use Rattle.plain_data.specs.declared.limit.Limit.{Limit}
use Rattle.reply_data.specs.declared.view.PartRow.{PartRow}
use Rattle.table_texts.specs.Squeue.{limit_of}
use Rattle.table_texts.specs.Values.{null, hosts_or_null}

abbrev pub yes_or_no : Bool → List ℕ
yes_or_no holds = if holds then codes "YES" else codes "NO"

abbrev pub state_word : PartState → List ℕ
state_word Up = codes "UP"
state_word Down = codes "DOWN"
state_word Drain = codes "DRAIN"
state_word Inactive = codes "INACTIVE"

abbrev pub limit_or_null : Option Limit → List ℕ
limit_or_null None = null
limit_or_null (Some limit) = limit_of limit

-- the most nodes of a job
abbrev pub most_text : Option ℕ → List ℕ
most_text None = codes "UNLIMITED"
most_text (Some most) = decimal most

-- which partition it is, and how it stands
unfoldable pub name_pairs : PartRow → List ℕ
name_pairs row =
    codes "PartitionName=" ++ row.name ++ codes " Default=" ++ yes_or_no row.is_default
    ++ codes " State=" ++ state_word row.state

-- what it allows to jobs
unfoldable pub limit_pairs : PartRow → List ℕ
limit_pairs row =
    codes " MaxTime=" ++ limit_of row.max_time ++ codes " DefaultTime=" ++ limit_or_null row.default_time
    ++ codes " MinNodes=" ++ decimal row.min_nodes ++ codes " MaxNodes=" ++ most_text row.max_nodes

-- how its jobs rank, and what it has
unfoldable pub rank_pairs : PartRow → List ℕ
rank_pairs row =
    codes " PriorityTier=" ++ decimal row.tier ++ codes " PriorityJobFactor=" ++ decimal row.factor
    ++ codes " Nodes=" ++ hosts_or_null row.nodes ++ codes " TotalCPUs=" ++ decimal row.cpus

unfoldable pub partition_line : PartRow → List ℕ
partition_line row = name_pairs row ++ limit_pairs row ++ rank_pairs row ++ codes "\n"
