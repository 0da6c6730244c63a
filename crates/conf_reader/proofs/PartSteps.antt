-- What is true of a draft behind the line of a partition.
use Rattle.std.proofs.Common.{ℕ, ◌≡◌, ◌<◌, Bool, true, false, if◌then◌else◌, nat_le, List, [], ◌∷◌, ◌++◌, length}
use Rattle.std.proofs.Common.{Option, Some, None, option_map, IfSome, Ok, IfOk, codes, refl, arith}
use Rattle.std.proofs.lemmas.Bool.Decides.{nat_tests}
use Rattle.std.proofs.lemmas.List.{map-append, length-append, length-map}
use Rattle.std.proofs.lemmas.List.Elements.{All-push}
use Rattle.host_lists.specs.Hosts.{has}
use Rattle.text_values.specs.Keys.{partition_key}
use Rattle.text_values.specs.Nodes.{nodes_in}
use Rattle.text_values.specs.Tables.{is_word}
use Rattle.text_values.specs.declared.keys.PartitionKey.{PartitionKey}
use Rattle.text_values.specs.declared.keys.PartitionKey.TheVariants as key
use Rattle.text_values.specs.declared.conf_refusal.ConfKind.TheVariants.{TwiceNamed, OverLimit}
use Rattle.conf_reader.specs.PartitionLines.{part_nodes, part_entry, partition_names, part_fault, part_word, with_part}
use Rattle.conf_reader.specs.PartitionLines.{no_part_words, part_line, over, part_conf, line_by, line_of}
use Rattle.conf_reader.specs.PartitionLines.{is_for_partitions}
use Rattle.conf_reader.specs.Reader.{with_partition, after_part_line}
use Rattle.conf_reader.specs.Sound.{AreOnce, ListsOnce, IsSound}
use Rattle.conf_reader.specs.declared.draft.Draft.{Draft}
use Rattle.conf_reader.specs.declared.partition_lines.PartName.{PartName}
use Rattle.conf_reader.specs.declared.partition_lines.PartName.TheVariants.{Default, Named}
use Rattle.conf_reader.specs.declared.partition_lines.PartNodes.{PartNodes}
use Rattle.conf_reader.specs.declared.partition_lines.PartNodes.TheVariants.{All, Listed}
use Rattle.conf_reader.specs.declared.partition_lines.PartEntry.{PartEntry}
use Rattle.conf_reader.specs.declared.partition_lines.PartEntry.TheVariants.{Name, Nodes, IsDefault, MaxTime}
use Rattle.conf_reader.specs.declared.partition_lines.PartEntry.TheVariants.{DefaultTime, State, Factor, Tier}
use Rattle.conf_reader.specs.declared.partition_lines.PartEntry.TheVariants.{MinNodes, MaxNodes, Accounts, Qos}
use Rattle.conf_reader.specs.declared.partition_lines.PartEntry.TheVariants.{Exclusive, Mem, WithoutEffect}
use Rattle.conf_reader.specs.declared.partition_lines.PartWords.{PartWords}
use Rattle.conf_reader.specs.declared.partition_lines.PartLine.{PartLine}
use Rattle.conf_reader.proofs.OnceLemmas.{once-push, nodes_in-once}
use Rattle.conf_reader.proofs.StepLemmas.{ok-then, some-mapped, some-any, some-or, entry-is, unless-is, said-is}

-- a name that a line may give to a partition where earlier lines gave these
abbrev pub NameComes : List (List ℕ) → PartName → Type 0
NameComes known Default = Unit {0}
NameComes known (Named name) = (has name known ≡ false) × (length known < 64)

abbrev EntryOnce : PartEntry → Type 0
EntryOnce (Nodes nodes) = ListsOnce nodes
EntryOnce _ = Unit {0}

abbrev EntryComes : List (List ℕ) → PartEntry → Type 0
EntryComes known (Name name) = NameComes known name
EntryComes known (Nodes nodes) = ListsOnce nodes
EntryComes known _ = Unit {0}

-- what the words of a line say
pub record Come (known : List (List ℕ)) (words : PartWords) : Type 0 where
  pub name : IfSome words.name (NameComes known)
  pub nodes : IfSome words.nodes ListsOnce

-- a word
part_nodes-once : (text : List ℕ) → IfSome (part_nodes text) ListsOnce
unfolding part_nodes
part_nodes-once text = by_test (is_word (codes "ALL") text) where
  by_test : (t : Bool) → IfSome (if t then Some All else option_map Listed (nodes_in text)) ListsOnce
  by_test true = tt
  by_test false = some-mapped Listed AreOnce ListsOnce (λ names once. once) (nodes_in text) (nodes_in-once text)

entry-once : (k : PartitionKey) (text : List ℕ) → IfSome (part_entry k text) EntryOnce
unfolding part_entry
entry-once key.PartitionName text = some-any Name EntryOnce (λ _. tt) _
entry-once key.Nodes text = some-mapped Nodes ListsOnce EntryOnce (λ nodes once. once) (part_nodes text) (part_nodes-once text)
entry-once key.Default text = some-any IsDefault EntryOnce (λ _. tt) _
entry-once key.MaxTime text = some-any MaxTime EntryOnce (λ _. tt) _
entry-once key.DefaultTime text = some-any DefaultTime EntryOnce (λ _. tt) _
entry-once key.State text = some-any State EntryOnce (λ _. tt) _
entry-once key.JobFactor text = some-any Factor EntryOnce (λ _. tt) _
entry-once key.Tier text = some-any Tier EntryOnce (λ _. tt) _
entry-once key.MinNodes text = some-any MinNodes EntryOnce (λ _. tt) _
entry-once key.MaxNodes text = some-any MaxNodes EntryOnce (λ _. tt) _
entry-once key.AllowAccounts text = some-any Accounts EntryOnce (λ _. tt) _
entry-once key.AllowQos text = some-any Qos EntryOnce (λ _. tt) _
entry-once key.AllowGroups text = by_test (is_word (codes "ALL") text) where
  by_test : (t : Bool) → IfSome (if t then Some WithoutEffect else None) EntryOnce
  by_test true = tt
  by_test false = tt
entry-once key.OverSubscribe text = some-any Exclusive EntryOnce (λ _. tt) _
entry-once key.DefMemPerNode text = some-any Mem EntryOnce (λ _. tt) _
entry-once key.DefMemPerCpu text = some-any Mem EntryOnce (λ _. tt) _
entry-once key.WithoutEffect text = tt

name-comes : (known : List (List ℕ)) (name : List ℕ) → (if has name known then Some TwiceNamed else (if nat_le 64 (length known) then Some OverLimit else None)) ≡ None → NameComes known (Named name)
name-comes known name = by_tests (has name known) (nat_le 64 (length known)) refl refl where
  by_tests : (a b : Bool) → has name known ≡ a → nat_le 64 (length known) ≡ b → (if a then Some TwiceNamed else (if b then Some OverLimit else None)) ≡ None → (has name known ≡ false) × (length known < 64)
  by_tests true b e f h = cc
  by_tests false true e f h = cc
  by_tests false false e f h = (e, grind (arith, nat_tests))

entry-comes : (known : List (List ℕ)) (entry : PartEntry) → EntryOnce entry → part_fault known entry ≡ None → EntryComes known entry
unfolding part_fault
entry-comes known (Name Default) once none = tt
entry-comes known (Name (Named name)) once none = name-comes known name none
entry-comes known (Nodes nodes) once none = once
entry-comes known _ once none = tt

word-comes : (known : List (List ℕ)) (word : List ℕ) → IfOk (part_word known word) (EntryComes known)
unfolding part_word
word-comes known word =
    ok-then _ _ EntryOnce (EntryComes known) (entry-is partition_key part_entry EntryOnce entry-once word) (λ entry once. unless-is (part_fault known) (EntryComes known) entry (entry-comes known entry once))

-- a line
with_part-comes : (known : List (List ℕ)) (words : PartWords) (entry : PartEntry) → Come known words → EntryComes known entry → Come known (with_part words entry)
unfolding with_part
with_part-comes known words (Name name) h come = record { name = come; nodes = h.nodes }
with_part-comes known words (Nodes nodes) h come = record { name = h.name; nodes = come }
with_part-comes known words _ h come = record { name = h.name; nodes = h.nodes }

pub line-comes : (known : List (List ℕ)) (line : List ℕ) → IfOk (part_line known line) (Come known)
unfolding part_line no_part_words
line-comes known line =
    said-is with_part (part_word known) (EntryComes known) (Come known) (word-comes known) (with_part-comes known) no_part_words line (record { name = tt; nodes = tt })

-- the draft
with_line-sound : (draft : Draft) (number : ℕ) (words : PartWords) (name : List ℕ) (nodes : PartNodes) → IsSound draft → NameComes (partition_names draft.partitions) (Named name) → ListsOnce nodes → IsSound (record draft { partitions = draft.partitions ++ record { number = number; nodes = nodes; conf = part_conf words name } ∷ [] })
unfolding part_conf
with_line-sound draft number words name nodes sound come once =
    let line : PartLine = record { number = number; nodes = nodes; conf = part_conf words name } in
    let size : length (partition_names draft.partitions) ≡ length draft.partitions = length-map draft.partitions (λ (l : PartLine). l.conf.name) in
    record {
      few_nodes = sound.few_nodes;
      nodes_once = sound.nodes_once;
      few_partitions = rw (length-append draft.partitions (line ∷ [])) (omega arith);
      partitions_once = rw (map-append (λ (l : PartLine). l.conf.name) draft.partitions (line ∷ [])) (once-push (partition_names draft.partitions) name sound.partitions_once come.0);
      lists_once = All-push (λ (l : PartLine). ListsOnce l.nodes) draft.partitions line sound.lists_once once;
      default_once = sound.default_once;
    }

with_words-sound : (draft : Draft) (number : ℕ) (words : PartWords) (name : Option PartName) (nodes : Option PartNodes) → IsSound draft → IfSome name (NameComes (partition_names draft.partitions)) → IfSome nodes ListsOnce → IfOk (with_partition draft (line_by number words name nodes)) IsSound
with_words-sound draft number words (Some (Named name)) (Some nodes) sound come once = with_line-sound draft number words name nodes sound come once
with_words-sound draft number words (Some (Named name)) None sound come once = tt
with_words-sound draft number words (Some Default) nodes sound come once = tt
with_words-sound draft number words None nodes sound come once = tt

pub after_part_line-sound : (draft : Draft) (number : ℕ) (own : PartWords) → IsSound draft → Come (partition_names draft.partitions) own → IfOk (after_part_line draft number own) IsSound
unfolding after_part_line line_of over
after_part_line-sound draft number own sound come = by_test (is_for_partitions own.name) where
  once : IfSome (over own draft.part_defaults).nodes ListsOnce
  once = some-or ListsOnce own.nodes draft.part_defaults.nodes come.nodes sound.default_once

  by_test : (t : Bool) → IfOk (if t then Ok (record draft { part_defaults = over own draft.part_defaults }) else with_partition draft (line_of number (over own draft.part_defaults))) IsSound
  by_test true = record {
    few_nodes = sound.few_nodes;
    nodes_once = sound.nodes_once;
    few_partitions = sound.few_partitions;
    partitions_once = sound.partitions_once;
    lists_once = sound.lists_once;
    default_once = once;
  }
  by_test false = with_words-sound draft number (over own draft.part_defaults) own.name (over own draft.part_defaults).nodes sound come.name once
