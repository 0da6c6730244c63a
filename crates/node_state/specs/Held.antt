-- What is held of the nodes: their processors by numbers, and megabytes.
use Rattle.std.specs.Prelude.{◌≡◌, ℕ, ◌+◌, ◌-◌, ◌<◌, ◌≤◌, Bool, false, ◌&&◌, ◌||◌, not, nat_eq, if◌then◌else◌, List, [], All, slice_index_or}
use Rattle.std.specs.List.{AllZip}
use Rattle.plain_data.specs.Rows.{has_id, others_below}
use Rattle.node_state.specs.declared.record.Held.{Held}
use Rattle.node_state.specs.declared.record.NodeRecord.{NodeRecord}

-- what is held of the node at a place: of one that isn't there, nothing
abbrev pub held_at : List Held → ℕ → Held
held_at held place = slice_index_or held place (record { cpus = []; mem = 0 })

-- the processor of the node is held
abbrev pub holds_cpu : List Held → ℕ → ℕ → Bool
holds_cpu held place cpu = has_id (held_at held place).cpus cpu

-- how many megabytes of the node are held
abbrev pub held_mem : List Held → ℕ → ℕ
held_mem held place = (held_at held place).mem

-- the processors of a node that aren't held, the lowest first
abbrev pub free_cpus : NodeRecord → Held → List ℕ
free_cpus node held = others_below node.conf.cpus held.cpus

-- what is held of a node is within it
pub record IsWithin (node : NodeRecord) (held : Held) : Type 0 where
  pub cpus : All (λ cpu. cpu < node.conf.cpus) held.cpus
  pub mem : held.mem ≤ node.conf.mem

-- of each node nothing but what it has is held
abbrev pub AreWithin : List NodeRecord → List Held → Type 0
AreWithin nodes held = AllZip IsWithin nodes held

-- nothing is held
pub record HoldsNothing (held : List Held) : Type 0 where
  pub cpus : (place cpu : ℕ) → holds_cpu held place cpu ≡ false
  pub mem : (place : ℕ) → held_mem held place ≡ 0

-- processors and megabytes of the node at a place are held besides
pub record Takes (before : List Held) (place : ℕ) (ids : List ℕ) (megabytes : ℕ) (after : List Held) : Type 0 where
  pub cpus : (node cpu : ℕ)
      → holds_cpu after node cpu ≡ (holds_cpu before node cpu || (nat_eq node place && has_id ids cpu))
  pub mem : (node : ℕ) → held_mem after node ≡ held_mem before node + (if nat_eq node place then megabytes else 0)

-- processors and megabytes of the node at a place are held no more
pub record GivesBack (before : List Held) (place : ℕ) (ids : List ℕ) (megabytes : ℕ) (after : List Held) : Type 0 where
  pub cpus : (node cpu : ℕ)
      → holds_cpu after node cpu ≡ (holds_cpu before node cpu && not (nat_eq node place && has_id ids cpu))
  pub mem : (node : ℕ) → held_mem after node ≡ held_mem before node - (if nat_eq node place then megabytes else 0)
