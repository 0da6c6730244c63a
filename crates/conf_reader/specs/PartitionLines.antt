-- What the lines of partitions say.
use Rattle.std.specs.Prelude.{ℕ, nat_le, Bool, true, false, if◌then◌else◌, List, [], length, map, bytes_eq, codes}
use Rattle.std.specs.Prelude.{Option, Some, None, option_map, unwrap_or, Result}
use Rattle.std.specs.Option.{option_or}
use Rattle.plain_data.specs.Limits.{limit_of}
use Rattle.plain_data.specs.declared.limit.Limit.TheVariants.{Unlimited}
use Rattle.text_values.specs.Keys.{partition_key}
use Rattle.text_values.specs.Steps.{◌>>=◌}
use Rattle.host_lists.specs.Hosts.{has}
use Rattle.text_values.specs.Values.{yes_or_no, exclusive_in}
use Rattle.text_values.specs.Names.{name_in}
use Rattle.text_values.specs.Nodes.{nodes_in}
use Rattle.text_values.specs.Numbers.{number_in, u32_in}
use Rattle.text_values.specs.States.{part_state}
use Rattle.text_values.specs.Tables.{is_word}
use Rattle.text_values.specs.Values.{allowed_in, most_nodes, mem_per_node, mem_per_cpu}
use Rattle.conf_reader.specs.Words.{entry_in, unless, said_by}
use Rattle.plain_data.specs.declared.conf.PartConf.{PartConf}
use Rattle.plain_data.specs.declared.conf.PartState.TheVariants.{Up}
use Rattle.text_values.specs.declared.keys.PartitionKey.{PartitionKey}
use Rattle.text_values.specs.declared.keys.PartitionKey.TheVariants as key
use Rattle.conf_reader.specs.declared.partition_lines.PartName.{PartName}
use Rattle.conf_reader.specs.declared.partition_lines.PartName.TheVariants.{Default, Named}
use Rattle.conf_reader.specs.declared.partition_lines.PartNodes.{PartNodes}
use Rattle.conf_reader.specs.declared.partition_lines.PartNodes.TheVariants.{All, Listed}
use Rattle.conf_reader.specs.declared.partition_lines.PartEntry.{PartEntry}
use Rattle.conf_reader.specs.declared.partition_lines.PartEntry.TheVariants.{Name, Nodes, IsDefault, MaxTime}
use Rattle.conf_reader.specs.declared.partition_lines.PartEntry.TheVariants.{DefaultTime, State, Factor, Tier}
use Rattle.conf_reader.specs.declared.partition_lines.PartEntry.TheVariants.{MinNodes, MaxNodes, Accounts, Qos}
use Rattle.conf_reader.specs.declared.partition_lines.PartEntry.TheVariants.{Exclusive, Mem, WithoutEffect}
use Rattle.conf_reader.specs.declared.partition_lines.PartWords.{PartWords}
use Rattle.conf_reader.specs.declared.partition_lines.PartLine.{PartLine}
use Rattle.text_values.specs.declared.conf_refusal.ConfKind.{ConfKind}
use Rattle.text_values.specs.declared.conf_refusal.ConfKind.TheVariants.{TwiceNamed, OverLimit}

-- whom a line speaks of: the lines after it, or a partition
unfoldable pub part_name : List ℕ → Option PartName
part_name text = if bytes_eq text (codes "DEFAULT") then Some Default else option_map Named (name_in text)

unfoldable pub part_nodes : List ℕ → Option PartNodes
part_nodes text = if is_word (codes "ALL") text then Some All else option_map Listed (nodes_in text)

-- what a key and its value say
unfoldable pub part_entry : PartitionKey → List ℕ → Option PartEntry
part_entry key.PartitionName text = option_map Name (part_name text)
part_entry key.Nodes text = option_map Nodes (part_nodes text)
part_entry key.Default text = option_map IsDefault (yes_or_no text)
part_entry key.MaxTime text = option_map MaxTime (limit_of text)
part_entry key.DefaultTime text = option_map DefaultTime (limit_of text)
part_entry key.State text = option_map State (part_state text)
part_entry key.JobFactor text = option_map Factor (number_in 0 65_533 text)
part_entry key.Tier text = option_map Tier (number_in 0 65_533 text)
part_entry key.MinNodes text = option_map MinNodes (u32_in text)
part_entry key.MaxNodes text = option_map MaxNodes (most_nodes text)
part_entry key.AllowAccounts text = option_map Accounts (allowed_in text)
part_entry key.AllowQos text = option_map Qos (allowed_in text)
part_entry key.AllowGroups text = if is_word (codes "ALL") text then Some WithoutEffect else None
part_entry key.OverSubscribe text = option_map Exclusive (exclusive_in text)
part_entry key.DefMemPerNode text = option_map Mem (mem_per_node text)
part_entry key.DefMemPerCpu text = option_map Mem (mem_per_cpu text)
part_entry key.WithoutEffect text = Some WithoutEffect

-- the names of partitions
abbrev pub partition_names : List PartLine → List (List ℕ)
partition_names lines = map (λ line. line.conf.name) lines

-- a partition that an earlier line named, and one more than a file may have, are refused at their names
unfoldable pub part_fault : List (List ℕ) → PartEntry → Option ConfKind
part_fault known (Name (Named name)) =
    if has name known then Some TwiceNamed
    else (if nat_le 64 (length known) then Some OverLimit else None)
part_fault known entry = None

-- what a word of a partition's line says, where earlier lines named these partitions
unfoldable pub part_word : List (List ℕ) → List ℕ → Result PartEntry ConfKind
part_word known word = entry_in partition_key part_entry word >>= λ entry. unless (part_fault known entry) entry

-- an entry takes the place of an earlier one of its kind
unfoldable pub with_part : PartWords → PartEntry → PartWords
with_part words (Name name) = record words { name = Some name }
with_part words (Nodes nodes) = record words { nodes = Some nodes }
with_part words (IsDefault choice) = record words { is_default = Some choice }
with_part words (MaxTime limit) = record words { max_time = Some limit }
with_part words (DefaultTime limit) = record words { default_time = Some limit }
with_part words (State state) = record words { state = Some state }
with_part words (Factor n) = record words { factor = Some n }
with_part words (Tier n) = record words { tier = Some n }
with_part words (MinNodes n) = record words { min_nodes = Some n }
with_part words (MaxNodes n) = record words { max_nodes = Some n }
with_part words (Accounts names) = record words { accounts = Some names }
with_part words (Qos names) = record words { qos = Some names }
with_part words (Exclusive choice) = record words { exclusive = Some choice }
with_part words (Mem ask) = record words { mem = Some ask }
with_part words WithoutEffect = words

-- a line that says nothing
unfoldable pub no_part_words : PartWords
no_part_words = record {
  name = None;
  nodes = None;
  is_default = None;
  max_time = None;
  default_time = None;
  state = None;
  factor = None;
  tier = None;
  min_nodes = None;
  max_nodes = None;
  accounts = None;
  qos = None;
  exclusive = None;
  mem = None;
}

-- what a line says, where earlier lines named these partitions
unfoldable pub part_line : List (List ℕ) → List ℕ → Result PartWords ConfKind
part_line known line = said_by with_part (part_word known) no_part_words line

-- what a line says itself comes before what DEFAULT lines say
unfoldable pub over : PartWords → PartWords → PartWords
over own defaults = record {
  name = own.name;
  nodes = option_or own.nodes defaults.nodes;
  is_default = option_or own.is_default defaults.is_default;
  max_time = option_or own.max_time defaults.max_time;
  default_time = option_or own.default_time defaults.default_time;
  state = option_or own.state defaults.state;
  factor = option_or own.factor defaults.factor;
  tier = option_or own.tier defaults.tier;
  min_nodes = option_or own.min_nodes defaults.min_nodes;
  max_nodes = option_or own.max_nodes defaults.max_nodes;
  accounts = option_or own.accounts defaults.accounts;
  qos = option_or own.qos defaults.qos;
  exclusive = option_or own.exclusive defaults.exclusive;
  mem = option_or own.mem defaults.mem;
}

-- a partition by what is said of it, as long as it isn't known which nodes there are and which partition is the default
unfoldable pub part_conf : PartWords → List ℕ → PartConf
part_conf words name = record {
  name = name;
  nodes = [];
  is_default = unwrap_or words.is_default false;
  max_time = unwrap_or words.max_time Unlimited;
  default_time = words.default_time;
  state = unwrap_or words.state Up;
  factor = unwrap_or words.factor 1;
  tier = unwrap_or words.tier 1;
  min_nodes = unwrap_or words.min_nodes 0;
  max_nodes = unwrap_or words.max_nodes None;
  accounts = unwrap_or words.accounts None;
  qos = unwrap_or words.qos None;
  exclusive = unwrap_or words.exclusive false;
  mem_default = words.mem;
}

-- the partition of a line; one without nodes is none
abbrev pub line_by : ℕ → PartWords → Option PartName → Option PartNodes → Option PartLine
line_by number words (Some (Named name)) (Some nodes) =
    Some (record { number = number; nodes = nodes; conf = part_conf words name })
line_by number words _ _ = None

unfoldable pub line_of : ℕ → PartWords → Option PartLine
line_of number words = line_by number words words.name words.nodes

-- whether a partition's line speaks of the lines after it
unfoldable pub is_for_partitions : Option PartName → Bool
is_for_partitions (Some Default) = true
is_for_partitions _ = false
