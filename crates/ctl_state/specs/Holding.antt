-- What parts hold of the nodes.
use Rattle.std.specs.Prelude.{◌≡◌, ◌≢◌, ℕ, ◌<◌, ◌≤◌, Bool, true, false, ◌&&◌, nat_eq, if◌then◌else◌, List, [], ◌∷◌, length, sum_by, count_by, filter, flat_map, All, AllPairs, Contains}
use Rattle.std.specs.List.{list_any, range_with_len}
use Rattle.resource_profile.specs.declared.NodeRoom.{NodeRoom}
use Rattle.resource_profile.specs.Free.{room_at}
use Rattle.job_table.specs.declared.record.Part.{Part}
use Rattle.job_table.specs.declared.record.JobRecord.{JobRecord}
use Rattle.job_table.specs.Changes.{is_on}

-- the processors, and the megabytes, of the node at a place; none where there is no node
abbrev pub cpus_of : List NodeRoom → ℕ → ℕ
cpus_of rooms node = (room_at rooms node).cpus

abbrev pub mem_of : List NodeRoom → ℕ → ℕ
mem_of rooms node = (room_at rooms node).mem

-- the part is on the node and has the processor
abbrev pub has_cpu : ℕ → ℕ → Part → Bool
has_cpu node cpu part = is_on node part && list_any (λ id. nat_eq id cpu) part.cpus

-- how many megabytes of the node the part has
abbrev pub mem_in : ℕ → Part → ℕ
mem_in node part = if is_on node part then part.mem else 0

-- in how many parts the processor of the node stands
unfoldable pub times_held : List Part → ℕ → ℕ → ℕ
times_held parts node cpu = count_by (has_cpu node cpu) parts

-- how many megabytes of the node the parts hold
unfoldable pub mem_held : List Part → ℕ → ℕ
mem_held parts node = sum_by (mem_in node) parts

-- the processors of the node that stand in no part, the lowest first
unfoldable pub free_ids : List NodeRoom → List Part → ℕ → List ℕ
free_ids rooms parts node = filter (λ cpu. nat_eq (times_held parts node cpu) 0) (range_with_len 0 (cpus_of rooms node))

-- the parts of all jobs
abbrev pub parts_of : List JobRecord → List Part
parts_of jobs = flat_map (λ (job : JobRecord). job.parts) jobs

abbrev pub has_members : {X : Type 0} → List X → Bool
has_members [] = false
has_members (x ∷ xs) = true

-- the part is on a node that there is, and its processors are processors of that node, in rising order
pub record IsPartOf (rooms : List NodeRoom) (part : Part) : Type 0 where
  pub node : part.node < length rooms
  pub rising : AllPairs (λ one other. one < other) part.cpus
  pub cpus : All (λ cpu. cpu < cpus_of rooms part.node) part.cpus

-- the parts are on nodes that differ
abbrev pub OnNodesApart : List Part → Type 0
OnNodesApart parts = AllPairs (λ (one other : Part). one.node ≢ other.node) parts

-- parts on one node have no processor in common
abbrev pub AreApart : Part → Part → Type 0
AreApart one other = one.node ≡ other.node → All (λ cpu. Contains other.cpus cpu → ⊥) one.cpus

-- no processor stands in two parts, and no more of a node's memory is held than the node has
pub record IsHeldOnce (rooms : List NodeRoom) (parts : List Part) : Type 0 where
  pub each : All (IsPartOf rooms) parts
  pub once : (node cpu : ℕ) → times_held parts node cpu ≤ 1
  pub mem : (node : ℕ) → mem_held parts node ≤ mem_of rooms node
