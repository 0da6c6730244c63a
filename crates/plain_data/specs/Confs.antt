-- What contracts see of slurm.conf, and what is true of every one.
use Rattle.std.specs.Prelude.{◌≡◌, ◌≢◌, ℕ, ◌≤◌, true, false, List, length, map, All, AllPairs, Contains}
use Rattle.plain_data.specs.declared.conf.Settings.{Settings}
use Rattle.plain_data.specs.declared.conf.NodeConf.{NodeConf}
use Rattle.plain_data.specs.declared.conf.PartConf.{PartConf}

pub record ConfView : Type 0 where
  pub settings : Settings
  -- in the order of the file
  pub nodes : List NodeConf
  -- in the order of the file
  pub partitions : List PartConf

abbrev pub node_names : List NodeConf → List (List ℕ)
node_names nodes = map (λ (node : NodeConf). node.name) nodes

-- the partition's nodes are among these names, each once
pub record IsOfNodes (names : List (List ℕ)) (partition : PartConf) : Type 0 where
  pub known : All (λ name. Contains names name) partition.nodes
  pub once : AllPairs (λ one other. one ≢ other) partition.nodes

-- There are at most 1,024 nodes, and 1 to 64 partitions of these, each named once; one partition at most is the
-- default.
pub record IsConf (nodes : List NodeConf) (partitions : List PartConf) : Type 0 where
  pub few_nodes : length nodes ≤ 1024
  pub nodes_once : AllPairs (λ (one other : NodeConf). one.name ≢ other.name) nodes
  pub some_partition : 1 ≤ length partitions
  pub few_partitions : length partitions ≤ 64
  pub partitions_once : AllPairs (λ (one other : PartConf). one.name ≢ other.name) partitions
  pub of_nodes : All (IsOfNodes (node_names nodes)) partitions
  pub one_default : AllPairs (λ (one other : PartConf). one.is_default ≡ true → other.is_default ≡ false) partitions
