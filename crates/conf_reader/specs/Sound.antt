-- What is true of every draft: nodes and partitions are few and named once, and a partition's list names a node once.
use Rattle.std.specs.Prelude.{◌≢◌, ℕ, ◌≤◌, List, length, All, AllPairs, IfSome}
use Rattle.plain_data.specs.Confs.{node_names}
use Rattle.conf_reader.specs.PartitionLines.{partition_names}
use Rattle.conf_reader.specs.declared.draft.Draft.{Draft}
use Rattle.conf_reader.specs.declared.partition_lines.PartNodes.{PartNodes}
use Rattle.conf_reader.specs.declared.partition_lines.PartNodes.TheVariants.{All as EachNode, Listed}

-- names of which no two are the same
abbrev pub AreOnce : List (List ℕ) → Type 0
AreOnce names = AllPairs (λ one other. one ≢ other) names

abbrev pub ListsOnce : PartNodes → Type 0
ListsOnce EachNode = Unit {0}
ListsOnce (Listed names) = AreOnce names

pub record IsSound (draft : Draft) : Type 0 where
  pub few_nodes : length draft.nodes ≤ 1024
  pub nodes_once : AreOnce (node_names draft.nodes)
  pub few_partitions : length draft.partitions ≤ 64
  pub partitions_once : AreOnce (partition_names draft.partitions)
  pub lists_once : All (λ line. ListsOnce line.nodes) draft.partitions
  pub default_once : IfSome draft.part_defaults.nodes ListsOnce
