-- Partitions, and what they allow.
use Rattle.std.specs.Prelude.{◌≡◌, ◌≢◌, ◌≤◌, ◌<◌, ℕ, zero, suc, min, max, Bool, true, false, nat_le, if◌then◌else◌, unwrap_or, List, [], ◌∷◌, length, filter_map, position, bytes_eq, All, AllPairs, Option, Some, None}
use Rattle.plain_data.specs.declared.conf.PartConf.{PartConf}
use Rattle.plain_data.specs.declared.conf.PartState.{PartState}
use Rattle.node_state.specs.declared.record.NodeRecord.{NodeRecord}
use Rattle.node_state.specs.Nodes.{place_named}
use Rattle.node_state.specs.declared.partition_record.PartRecord.{PartRecord}

-- the places of the nodes with these names
abbrev pub places_of : List NodeRecord → List (List ℕ) → List ℕ
places_of nodes names = filter_map (λ name. place_named name nodes) names

-- a partition as slurm.conf says it
abbrev pub opened : List NodeRecord → PartConf → PartRecord
opened nodes conf = record { conf = conf; state = conf.state; nodes = places_of nodes conf.nodes }

-- a name means the partition that has it, and no name the default one
abbrev pub is_meant : Option (List ℕ) → PartRecord → Bool
is_meant None partition = partition.conf.is_default
is_meant (Some name) partition = bytes_eq partition.conf.name name

-- the place of the partition that is meant
abbrev pub place_meant : Option (List ℕ) → List PartRecord → Option ℕ
place_meant name partitions = position (is_meant name) partitions

-- how many nodes a job may have in a partition, at least and at most; none where no number will do
abbrev pub within : ℕ → ℕ → Option (ℕ × ℕ)
within least most = if nat_le least most then Some (least, most) else None

-- A job's most nodes and its tasks bound them, and what the partition asks for and allows.
unfoldable pub bounds_of : PartRecord → ℕ → ℕ → Option ℕ → Option (ℕ × ℕ)
bounds_of partition tasks min_nodes max_nodes =
    within (max min_nodes partition.conf.min_nodes)
    (min tasks (min (unwrap_or max_nodes tasks) (unwrap_or partition.conf.max_nodes tasks)))

-- a partition in another state
abbrev pub in_state : PartState → PartRecord → PartRecord
in_state state partition = record partition { state = state }

-- the partitions with the one at a place in another state
abbrev pub in_state_at : ℕ → PartState → List PartRecord → List PartRecord
in_state_at place state [] = []
in_state_at zero state (partition ∷ later) = in_state state partition ∷ later
in_state_at (suc place) state (partition ∷ later) = partition ∷ in_state_at place state later

-- There are 1 to 64 partitions, each named once; one at most is the default.
pub record ArePartitions (partitions : List PartRecord) : Type 0 where
  pub some : 1 ≤ length partitions
  pub few : length partitions ≤ 64
  pub once : AllPairs (λ (one other : PartRecord). one.conf.name ≢ other.conf.name) partitions
  pub one_default : AllPairs (λ (one other : PartRecord). one.conf.is_default ≡ true → other.conf.is_default ≡ false)
      partitions

-- a partition's nodes are nodes that there are, each once
pub record IsOnNodes (count : ℕ) (partition : PartRecord) : Type 0 where
  pub there : All (λ place. place < count) partition.nodes
  pub once : AllPairs (λ one other. one ≢ other) partition.nodes
