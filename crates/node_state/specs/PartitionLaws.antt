-- What stays true of the partitions, whatever state one is set to. Each is proved as the contract of a law.
use Rattle.std.specs.Prelude.{◌≡◌, ℕ, List, length, map, All, Option}
use Rattle.plain_data.specs.Confs.{IsOfNodes}
use Rattle.plain_data.specs.declared.conf.PartConf.{PartConf}
use Rattle.plain_data.specs.declared.conf.PartState.{PartState}
use Rattle.node_state.specs.declared.record.NodeRecord.{NodeRecord}
use Rattle.node_state.specs.declared.partition_record.PartRecord.{PartRecord}
use Rattle.node_state.specs.Partitions.{in_state_at, opened, place_meant, IsOnNodes}

-- What slurm.conf says of each partition stays.
abbrev pub ConfsStay : Type 0
ConfsStay = (place : ℕ) (state : PartState) (partitions : List PartRecord)
    → map (λ (partition : PartRecord). partition.conf) (in_state_at place state partitions)
    ≡ map (λ (partition : PartRecord). partition.conf) partitions

-- Each partition keeps its nodes.
abbrev pub NodesStay : Type 0
NodesStay = (place : ℕ) (state : PartState) (partitions : List PartRecord)
    → map (λ (partition : PartRecord). partition.nodes) (in_state_at place state partitions)
    ≡ map (λ (partition : PartRecord). partition.nodes) partitions

-- Each partition is on nodes that there are, as it was.
abbrev pub OnNodesStays : Type 0
OnNodesStays = (count place : ℕ) (state : PartState) (partitions : List PartRecord)
    → All (IsOnNodes count) partitions → All (IsOnNodes count) (in_state_at place state partitions)

-- Each name means the partition that it meant.
abbrev pub PlacesStay : Type 0
PlacesStay = (name : Option (List ℕ)) (place : ℕ) (state : PartState) (partitions : List PartRecord)
    → place_meant name (in_state_at place state partitions) ≡ place_meant name partitions

-- Partitions of slurm.conf that name each of their nodes once are on nodes that there are.
abbrev pub OnNodesOpened : Type 0
OnNodesOpened = (nodes : List NodeRecord) (names : List (List ℕ)) (confs : List PartConf) → All (IsOfNodes names) confs
    → All (IsOnNodes (length nodes)) (map (opened nodes) confs)
