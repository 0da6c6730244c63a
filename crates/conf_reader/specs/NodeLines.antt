-- What the lines of nodes say.
use Rattle.std.specs.Prelude.{ℕ, ◌+◌, ◌*◌, nat_lt, nat_le, Bool, true, false, if◌then◌else◌, List, [], length, bytes_eq}
use Rattle.std.specs.Prelude.{codes, Option, Some, None, option_map, unwrap_or, Result}
use Rattle.std.specs.List.{list_any}
use Rattle.std.specs.Option.{option_or}
use Rattle.host_lists.specs.Hosts.{has}
use Rattle.text_values.specs.Keys.{node_key}
use Rattle.text_values.specs.Steps.{◌>>=◌}
use Rattle.text_values.specs.Values.{node_start}
use Rattle.text_values.specs.Names.{names_in}
use Rattle.text_values.specs.Nodes.{nodes_in}
use Rattle.text_values.specs.Numbers.{number_in}
use Rattle.conf_reader.specs.Words.{entry_in, unless, said_by}
use Rattle.plain_data.specs.declared.conf.NodeConf.{NodeConf}
use Rattle.plain_data.specs.declared.conf.NodeStart.TheVariants.{Unknown}
use Rattle.text_values.specs.declared.keys.NodeKey.{NodeKey}
use Rattle.text_values.specs.declared.keys.NodeKey.TheVariants as key
use Rattle.conf_reader.specs.declared.node_lines.NodeNames.{NodeNames}
use Rattle.conf_reader.specs.declared.node_lines.NodeNames.TheVariants.{Default, Hosts}
use Rattle.conf_reader.specs.declared.node_lines.NodeEntry.{NodeEntry}
use Rattle.conf_reader.specs.declared.node_lines.NodeEntry.TheVariants.{Names, Cpus, Boards, Sockets, Cores, Threads}
use Rattle.conf_reader.specs.declared.node_lines.NodeEntry.TheVariants.{Mem, Weight, Features, State, WithoutEffect}
use Rattle.conf_reader.specs.declared.node_lines.NodeWords.{NodeWords}
use Rattle.text_values.specs.declared.conf_refusal.ConfKind.{ConfKind}
use Rattle.text_values.specs.declared.conf_refusal.ConfKind.TheVariants.{TwiceNamed, OverLimit}

-- whom a line speaks of: the lines after it, or nodes
unfoldable pub node_name : List ℕ → Option NodeNames
node_name text = if bytes_eq text (codes "DEFAULT") then Some Default else option_map Hosts (nodes_in text)

-- what a key and its value say; boards, sockets, cores and threads are numbers from 1 that 32 bits hold
unfoldable pub node_entry : NodeKey → List ℕ → Option NodeEntry
node_entry key.NodeName text = option_map Names (node_name text)
node_entry key.Cpus text = option_map Cpus (number_in 1 1024 text)
node_entry key.Boards text = option_map Boards (number_in 1 4_294_967_295 text)
node_entry key.Sockets text = option_map Sockets (number_in 1 4_294_967_295 text)
node_entry key.Cores text = option_map Cores (number_in 1 4_294_967_295 text)
node_entry key.Threads text = option_map Threads (number_in 1 4_294_967_295 text)
node_entry key.RealMemory text = option_map Mem (number_in 1 16_777_216 text)
node_entry key.Weight text = option_map Weight (number_in 0 4_294_967_280 text)
node_entry key.Features text = option_map Features (names_in text)
node_entry key.State text = option_map State (node_start text)
node_entry key.WithoutEffect text = Some WithoutEffect

-- nodes that an earlier line named, and more nodes than a file may have, are refused at their names
unfoldable pub names_fault : List (List ℕ) → List (List ℕ) → Option ConfKind
names_fault known names =
    if list_any (λ name. has name known) names then Some TwiceNamed
    else (if nat_lt 1024 (length known + length names) then Some OverLimit else None)

unfoldable pub entry_fault : List (List ℕ) → NodeEntry → Option ConfKind
entry_fault known (Names (Hosts names)) = names_fault known names
entry_fault known entry = None

-- what a word of a node's line says, where earlier lines named these nodes
unfoldable pub node_word : List (List ℕ) → List ℕ → Result NodeEntry ConfKind
node_word known word = entry_in node_key node_entry word >>= λ entry. unless (entry_fault known entry) entry

-- an entry takes the place of an earlier one of its kind
unfoldable pub with_entry : NodeWords → NodeEntry → NodeWords
with_entry words (Names names) = record words { names = Some names }
with_entry words (Cpus n) = record words { cpus = Some n }
with_entry words (Boards n) = record words { boards = Some n }
with_entry words (Sockets n) = record words { sockets = Some n }
with_entry words (Cores n) = record words { cores = Some n }
with_entry words (Threads n) = record words { threads = Some n }
with_entry words (Mem n) = record words { mem = Some n }
with_entry words (Weight n) = record words { weight = Some n }
with_entry words (Features names) = record words { features = Some names }
with_entry words (State start) = record words { state = Some start }
with_entry words WithoutEffect = words

-- a line that says nothing
unfoldable pub no_node_words : NodeWords
no_node_words = record {
  names = None;
  cpus = None;
  boards = None;
  sockets = None;
  cores = None;
  threads = None;
  mem = None;
  weight = None;
  features = None;
  state = None;
}

-- what a line says, where earlier lines named these nodes
unfoldable pub node_line : List (List ℕ) → List ℕ → Result NodeWords ConfKind
node_line known line = said_by with_entry (node_word known) no_node_words line

-- what a line says itself comes before what DEFAULT lines say
unfoldable pub over : NodeWords → NodeWords → NodeWords
over own defaults = record {
  names = own.names;
  cpus = option_or own.cpus defaults.cpus;
  boards = option_or own.boards defaults.boards;
  sockets = option_or own.sockets defaults.sockets;
  cores = option_or own.cores defaults.cores;
  threads = option_or own.threads defaults.threads;
  mem = option_or own.mem defaults.mem;
  weight = option_or own.weight defaults.weight;
  features = option_or own.features defaults.features;
  state = option_or own.state defaults.state;
}

-- the processors of a node: `CPUs`, or else the product of what it is made of
unfoldable pub processors : NodeWords → ℕ
processors words =
    unwrap_or words.cpus
    (unwrap_or words.boards 1 * unwrap_or words.sockets 1 * unwrap_or words.cores 1 * unwrap_or words.threads 1)

-- at most 1,024 of them
abbrev pub few : ℕ → Option ℕ
few number = if nat_le number 1024 then Some number else None

-- a product of factors from 1 on, as far as it is that small
abbrev pub few_times : Option ℕ → ℕ → Option ℕ
few_times None factor = None
few_times (Some number) factor = few (number * factor)

-- a node by what is said of it
unfoldable pub node_conf : NodeWords → List ℕ → NodeConf
node_conf words name = record {
  name = name;
  cpus = processors words;
  mem = unwrap_or words.mem 1;
  weight = unwrap_or words.weight 1;
  features = unwrap_or words.features [];
  state = unwrap_or words.state Unknown;
}

-- whether a node's line speaks of the lines after it
unfoldable pub is_for_nodes : Option NodeNames → Bool
is_for_nodes (Some Default) = true
is_for_nodes _ = false

-- the nodes that a line names
unfoldable pub listed : Option NodeNames → List (List ℕ)
listed (Some (Hosts names)) = names
listed _ = []
