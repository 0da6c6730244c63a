-- What a file says: its logical lines one after the other, and then the whole of it.
use Rattle.std.specs.Prelude.{ℕ, ◌==◌, nat_lt, nat_le, Bool, false, not, ◌&&◌, if◌then◌else◌, List, [], ◌∷◌, ◌++◌}
use Rattle.std.specs.Prelude.{length, map, find, codes, Option, Some, None, option_map, Result, Ok, Err}
use Rattle.std.specs.List.{list_any}
use Rattle.std.specs.Str.{is_utf8}
use Rattle.conf_reader.specs.Lines.{NumberedLine, logical_lines}
use Rattle.conf_reader.specs.Pairs.{Pair, pair_in}
use Rattle.conf_reader.specs.LineWords.{words_in}
use Rattle.conf_reader.specs.NodeLines.{node_line, no_node_words, processors, node_conf, is_for_nodes, listed}
use Rattle.conf_reader.specs.NodeLines.{over as nodes_over}
use Rattle.conf_reader.specs.PartitionLines.{part_line, partition_names, no_part_words, line_of, is_for_partitions}
use Rattle.conf_reader.specs.PartitionLines.{over as parts_over}
use Rattle.conf_reader.specs.SettingLines.{setting_line, no_settings, settings_of}
use Rattle.text_values.specs.Steps.{◌>>=◌}
use Rattle.host_lists.specs.Hosts.{has}
use Rattle.text_values.specs.Tables.{is_word}
use Rattle.plain_data.specs.Confs.{ConfView, node_names}
use Rattle.plain_data.specs.declared.conf.PartConf.{PartConf}
use Rattle.conf_reader.specs.declared.draft.Draft.{Draft}
use Rattle.conf_reader.specs.declared.draft.LineKind.{LineKind}
use Rattle.conf_reader.specs.declared.draft.LineKind.TheVariants.{Settings, Node, Partition}
use Rattle.conf_reader.specs.declared.node_lines.NodeWords.{NodeWords}
use Rattle.conf_reader.specs.declared.partition_lines.PartNodes.{PartNodes}
use Rattle.conf_reader.specs.declared.partition_lines.PartNodes.TheVariants.{All, Listed}
use Rattle.conf_reader.specs.declared.partition_lines.PartWords.{PartWords}
use Rattle.conf_reader.specs.declared.partition_lines.PartLine.{PartLine}
use Rattle.text_values.specs.declared.conf_refusal.ConfKind.{ConfKind}
use Rattle.text_values.specs.declared.conf_refusal.ConfKind.TheVariants.{NotUtf8, BadValue, UnknownNode, NoPartition}
use Rattle.text_values.specs.declared.conf_refusal.ConfKind.TheVariants.{OverLimit}
use Rattle.text_values.specs.declared.conf_refusal.ConfRefusal.{ConfRefusal}
use Rattle.text_values.specs.declared.conf_refusal.ConfRefusal.TheVariants.{At}

-- the kind of a line, by the key of its first word
abbrev pub kind_by_key : List ℕ → LineKind
kind_by_key key =
    if is_word (codes "NodeName") key then Node
    else (if is_word (codes "PartitionName") key then Partition else Settings)

abbrev pub kind_by_pair : Option Pair → LineKind
kind_by_pair None = Settings
kind_by_pair (Some pair) = kind_by_key pair.key

abbrev pub kind_by_words : List (List ℕ) → LineKind
kind_by_words [] = Settings
kind_by_words (word ∷ words) = kind_by_pair (pair_in word)

unfoldable pub kind_of : List ℕ → LineKind
kind_of line = kind_by_words (words_in line)

-- nodes of too many processors are refused behind the words of their line
unfoldable pub with_nodes : Draft → NodeWords → Result Draft ConfKind
with_nodes draft words =
    if nat_le (processors words) 1024
    then Ok (record draft { nodes = draft.nodes ++ map (node_conf words) (listed words.names) })
    else Err OverLimit

unfoldable pub after_node_line : Draft → NodeWords → Result Draft ConfKind
after_node_line draft own =
    if is_for_nodes own.names then Ok (record draft { node_defaults = nodes_over own draft.node_defaults })
    else with_nodes draft (nodes_over own draft.node_defaults)

-- a partition without nodes is refused behind the words of its line
abbrev pub with_partition : Draft → Option PartLine → Result Draft ConfKind
with_partition draft None = Err BadValue
with_partition draft (Some line) = Ok (record draft { partitions = draft.partitions ++ line ∷ [] })

unfoldable pub after_part_line : Draft → ℕ → PartWords → Result Draft ConfKind
after_part_line draft number own =
    if is_for_partitions own.name then Ok (record draft { part_defaults = parts_over own draft.part_defaults })
    else with_partition draft (line_of number (parts_over own draft.part_defaults))

-- what the lines up to this one say, by the kind of this one
abbrev pub after_kind : LineKind → Draft → ℕ → List ℕ → Result Draft ConfKind
after_kind Settings draft number line =
    setting_line draft.settings line >>= λ settings. Ok (record draft { settings = settings })
after_kind Node draft number line = node_line (node_names draft.nodes) line >>= after_node_line draft
after_kind Partition draft number line =
    part_line (partition_names draft.partitions) line >>= after_part_line draft number

-- a line that isn't UTF-8 is refused before its words are looked at
unfoldable pub after_line : Draft → ℕ → List ℕ → Result Draft ConfKind
after_line draft number line = if is_utf8 line then after_kind (kind_of line) draft number line else Err NotUtf8

-- a refusal with the number of its line
abbrev pub at_line : {X : Type 0} → ℕ → Result X ConfKind → Result X ConfRefusal
at_line number (Ok x) = Ok x
at_line number (Err kind) = Err (At number kind)

-- what lines say, up to the first bad one
abbrev pub after_lines : Draft → List NumberedLine → Result Draft ConfRefusal
after_lines draft [] = Ok draft
after_lines draft (line ∷ lines) =
    at_line line.number (after_line draft line.number line.text) >>= λ next. after_lines next lines

-- before the first line
unfoldable pub nothing_said : Draft
nothing_said = record {
  settings = no_settings;
  node_defaults = no_node_words;
  nodes = [];
  part_defaults = no_part_words;
  partitions = [];
}

-- whether a partition names a node that isn't there
unfoldable pub has_unknown : List (List ℕ) → PartNodes → Bool
has_unknown known All = false
has_unknown known (Listed names) = list_any (λ name. not (has name known)) names

-- the line of the first such partition
unfoldable pub first_unknown : List (List ℕ) → List PartLine → Option ℕ
first_unknown known lines = option_map (λ line. line.number) (find (λ line. has_unknown known line.nodes) lines)

-- the nodes of a partition, where the file has these
unfoldable pub nodes_by : List (List ℕ) → PartNodes → List (List ℕ)
nodes_by known All = known
nodes_by known (Listed names) = names

-- the partitions, of which the last one that says so is the default
abbrev pub partitions_by : List (List ℕ) → List PartLine → List PartConf
partitions_by known [] = []
partitions_by known (line ∷ lines) =
    record line.conf {
      nodes = nodes_by known line.nodes;
      is_default = line.conf.is_default && not (list_any (λ later. later.conf.is_default) lines);
    } ∷ partitions_by known lines

-- what the lines say together
unfoldable pub conf_of_lines : Draft → ConfView
conf_of_lines draft = record {
  settings = settings_of draft.settings;
  nodes = draft.nodes;
  partitions = partitions_by (node_names draft.nodes) draft.partitions;
}

abbrev pub known_all : Draft → Option ℕ → Result ConfView ConfRefusal
known_all draft (Some line) = Err (At line UnknownNode)
known_all draft None = if length draft.partitions == 0 then Err (At 0 NoPartition) else Ok (conf_of_lines draft)

-- unknown nodes come first, and then the want of a partition
unfoldable pub whole_file : Draft → Result ConfView ConfRefusal
whole_file draft = known_all draft (first_unknown (node_names draft.nodes) draft.partitions)

-- what the bytes of a file say, or its first fault
unfoldable pub conf_in : List ℕ → Result ConfView ConfRefusal
conf_in file =
    if nat_lt 1_048_576 (length file) then Err (At 0 OverLimit)
    else (after_lines nothing_said (logical_lines file) >>= whole_file)
