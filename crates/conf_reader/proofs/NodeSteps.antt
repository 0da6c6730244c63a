-- What is true of a draft behind the line of nodes.
use Rattle.std.proofs.Common.{ℕ, ◌≡◌, ◌+◌, ◌≤◌, Bool, true, false, if◌then◌else◌, nat_lt, nat_le, List, [], ◌∷◌, ◌++◌}
use Rattle.std.proofs.Common.{length, map, Option, Some, None, option_map, IfSome, Ok, Err, IfOk, bytes_eq, codes, refl}
use Rattle.std.proofs.Common.{ap, ◌∙◌, arith}
use Rattle.std.proofs.lemmas.Bool.Decides.{nat_tests}
use Rattle.std.proofs.lemmas.List.{map-append, length-append, length-map}
use Rattle.std.specs.List.{list_any}
use Rattle.plain_data.specs.Confs.{node_names}
use Rattle.host_lists.specs.Hosts.{has}
use Rattle.plain_data.specs.declared.conf.NodeConf.{NodeConf}
use Rattle.text_values.specs.Keys.{node_key}
use Rattle.text_values.specs.Nodes.{nodes_in}
use Rattle.text_values.specs.declared.keys.NodeKey.{NodeKey}
use Rattle.text_values.specs.declared.keys.NodeKey.TheVariants as key
use Rattle.text_values.specs.declared.conf_refusal.ConfKind.TheVariants.{TwiceNamed, OverLimit}
use Rattle.conf_reader.specs.NodeLines.{node_name, node_entry, names_fault, entry_fault, node_word, with_entry}
use Rattle.conf_reader.specs.NodeLines.{no_node_words, node_line, over, processors, node_conf, is_for_nodes, listed}
use Rattle.conf_reader.specs.Reader.{with_nodes, after_node_line}
use Rattle.conf_reader.specs.Sound.{AreOnce, IsSound}
use Rattle.conf_reader.specs.declared.draft.Draft.{Draft}
use Rattle.conf_reader.specs.declared.node_lines.NodeNames.{NodeNames}
use Rattle.conf_reader.specs.declared.node_lines.NodeNames.TheVariants.{Default, Hosts}
use Rattle.conf_reader.specs.declared.node_lines.NodeEntry.{NodeEntry}
use Rattle.conf_reader.specs.declared.node_lines.NodeEntry.TheVariants.{Names, Cpus, Boards, Sockets, Cores, Threads}
use Rattle.conf_reader.specs.declared.node_lines.NodeEntry.TheVariants.{Mem, Weight, Features, State}
use Rattle.conf_reader.specs.declared.node_lines.NodeWords.{NodeWords}
use Rattle.conf_reader.proofs.OnceLemmas.{once-nil, once-append, nodes_in-once}
use Rattle.conf_reader.proofs.StepLemmas.{ok-then, some-mapped, some-any, entry-is, unless-is, said-is}

-- names that a line may give to nodes where earlier lines gave these
pub record MayCome (known names : List (List ℕ)) : Type 0 where
  pub once : AreOnce names
  pub apart : list_any (λ name. has name known) names ≡ false
  pub few : length known + length names ≤ 1024

abbrev pub NamesCome : List (List ℕ) → Option NodeNames → Type 0
NamesCome known None = Unit {0}
NamesCome known (Some Default) = Unit {0}
NamesCome known (Some (Hosts names)) = MayCome known names

abbrev EntryOnce : NodeEntry → Type 0
EntryOnce (Names (Hosts names)) = AreOnce names
EntryOnce _ = Unit {0}

abbrev EntryComes : List (List ℕ) → NodeEntry → Type 0
EntryComes known (Names names) = NamesCome known (Some names)
EntryComes known _ = Unit {0}

names_fault-none : (known names : List (List ℕ)) → AreOnce names → names_fault known names ≡ None → MayCome known names
unfolding names_fault
names_fault-none known names once = by_tests (list_any (λ name. has name known) names) (nat_lt 1024 (length known + length names)) refl refl where
  by_tests : (a b : Bool) → list_any (λ name. has name known) names ≡ a → nat_lt 1024 (length known + length names) ≡ b → (if a then Some TwiceNamed else (if b then Some OverLimit else None)) ≡ None → MayCome known names
  by_tests true b e f h = cc
  by_tests false true e f h = cc
  by_tests false false e f h = record { once = once; apart = e; few = grind (arith, nat_tests) }

-- a word
name-once : (text : List ℕ) → IfSome (node_name text) (λ names. EntryOnce (Names names))
unfolding node_name
name-once text = by_test (bytes_eq text (codes "DEFAULT")) where
  by_test : (t : Bool) → IfSome (if t then Some Default else option_map Hosts (nodes_in text)) (λ names. EntryOnce (Names names))
  by_test true = tt
  by_test false =
      some-mapped Hosts AreOnce (λ names. EntryOnce (Names names)) (λ names once. once) (nodes_in text) (nodes_in-once text)

entry-once : (k : NodeKey) (text : List ℕ) → IfSome (node_entry k text) EntryOnce
unfolding node_entry
entry-once key.NodeName text =
    some-mapped Names (λ names. EntryOnce (Names names)) EntryOnce (λ names once. once) (node_name text) (name-once text)
entry-once key.Cpus text = some-any Cpus EntryOnce (λ _. tt) _
entry-once key.Boards text = some-any Boards EntryOnce (λ _. tt) _
entry-once key.Sockets text = some-any Sockets EntryOnce (λ _. tt) _
entry-once key.Cores text = some-any Cores EntryOnce (λ _. tt) _
entry-once key.Threads text = some-any Threads EntryOnce (λ _. tt) _
entry-once key.RealMemory text = some-any Mem EntryOnce (λ _. tt) _
entry-once key.Weight text = some-any Weight EntryOnce (λ _. tt) _
entry-once key.Features text = some-any Features EntryOnce (λ _. tt) _
entry-once key.State text = some-any State EntryOnce (λ _. tt) _
entry-once key.WithoutEffect text = tt

entry-comes : (known : List (List ℕ)) (entry : NodeEntry) → EntryOnce entry → entry_fault known entry ≡ None → EntryComes known entry
unfolding entry_fault
entry-comes known (Names Default) once none = tt
entry-comes known (Names (Hosts names)) once none = names_fault-none known names once none
entry-comes known _ once none = tt

word-comes : (known : List (List ℕ)) (word : List ℕ) → IfOk (node_word known word) (EntryComes known)
unfolding node_word
word-comes known word =
    ok-then _ _ EntryOnce (EntryComes known) (entry-is node_key node_entry EntryOnce entry-once word) (λ entry once. unless-is (entry_fault known) (EntryComes known) entry (entry-comes known entry once))

-- a line
with_entry-comes : (known : List (List ℕ)) (words : NodeWords) (entry : NodeEntry) → NamesCome known words.names → EntryComes known entry → NamesCome known (with_entry words entry).names
unfolding with_entry
with_entry-comes known words (Names names) h come = come
with_entry-comes known words _ h come = h

pub line-comes : (known : List (List ℕ)) (line : List ℕ) → IfOk (node_line known line) (λ words. NamesCome known words.names)
unfolding node_line no_node_words
line-comes known line =
    said-is with_entry (node_word known) (EntryComes known) (λ words. NamesCome known words.names) (word-comes known) (with_entry-comes known) no_node_words line tt

-- the draft
with_nodes-sound : (draft : Draft) (words : NodeWords) (names : List (List ℕ)) → IsSound draft → MayCome (node_names draft.nodes) names → IsSound (record draft { nodes = draft.nodes ++ map (node_conf words) names })
unfolding node_conf
with_nodes-sound draft words names sound come =
    let all : node_names (draft.nodes ++ map (node_conf words) names) ≡ node_names draft.nodes ++ names =
    map-append (λ (node : NodeConf). node.name) draft.nodes (map (node_conf words) names) ∙ ap (λ (more : List (List ℕ)). node_names draft.nodes ++ more) (named names) in
    record {
      few_nodes = rw (length-append draft.nodes (map (node_conf words) names), length-map names (node_conf words), ← length-map draft.nodes (λ (node : NodeConf). node.name)) come.few;
      nodes_once = rw all (once-append (node_names draft.nodes) names sound.nodes_once come.once come.apart);
      few_partitions = sound.few_partitions;
      partitions_once = sound.partitions_once;
      lists_once = sound.lists_once;
      default_once = sound.default_once;
    } where
      named : (names : List (List ℕ)) → node_names (map (node_conf words) names) ≡ names
      named [] = refl
      named (name ∷ names) = ap (λ (more : List (List ℕ)). name ∷ more) (named names)

listed-come : (known : List (List ℕ)) (names : Option NodeNames) → length known ≤ 1024 → NamesCome known names → MayCome known (listed names)
unfolding listed
listed-come known (Some (Hosts names)) few come = come
listed-come known (Some Default) few come = record { once = once-nil; apart = refl; few = omega arith }
listed-come known None few come = record { once = once-nil; apart = refl; few = omega arith }

pub after_node_line-sound : (draft : Draft) (own : NodeWords) → IsSound draft → NamesCome (node_names draft.nodes) own.names → IfOk (after_node_line draft own) IsSound
unfolding after_node_line with_nodes over
after_node_line-sound draft own sound come = by_tests (is_for_nodes own.names) (nat_le (processors (over own draft.node_defaults)) 1024) where
  by_tests : (a b : Bool) → IfOk (if a then Ok (record draft { node_defaults = over own draft.node_defaults }) else (if b then Ok (record draft { nodes = draft.nodes ++ map (node_conf (over own draft.node_defaults)) (listed own.names) }) else Err OverLimit)) IsSound
  by_tests true b = record {
    few_nodes = sound.few_nodes;
    nodes_once = sound.nodes_once;
    few_partitions = sound.few_partitions;
    partitions_once = sound.partitions_once;
    lists_once = sound.lists_once;
    default_once = sound.default_once;
  }
  by_tests false true =
      with_nodes-sound draft (over own draft.node_defaults) (listed own.names) sound (listed-come (node_names draft.nodes) own.names (rw (length-map draft.nodes (λ (node : NodeConf). node.name)) sound.few_nodes) come)
  by_tests false false = tt
