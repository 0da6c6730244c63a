-- The index of what is held of the nodes: what it shows, and how it follows what happens to parts. No statement on states
-- speaks of it.
use Rattle.std.specs.Prelude.{◌≡◌, ℕ, ◌+◌, ◌-◌, ◌&&◌, ◌||◌, not, nat_lt, List}
use Rattle.std.specs.List.{list_any}
use Rattle.node_state.specs.declared.record.Held.{Held}
use Rattle.node_state.specs.Held.{holds_cpu, held_mem}
use Rattle.job_table.specs.declared.record.Part.{Part}
use Rattle.ctl_state.specs.declared.cluster.Cluster.{Cluster}
use Rattle.ctl_state.specs.Holding.{has_cpu, mem_held, parts_of, times_held}

-- it shows what the parts hold
pub record ShowsParts (held : List Held) (parts : List Part) : Type 0 where
  pub cpus : (node cpu : ℕ) → holds_cpu held node cpu ≡ nat_lt 0 (times_held parts node cpu)
  pub mem : (node : ℕ) → held_mem held node ≡ mem_held parts node

-- the index of the cluster's nodes shows what its jobs hold
abbrev pub IsIndexed : Cluster → Type 0
IsIndexed c = ShowsParts c.nodes.held (parts_of c.jobs.records)

-- these parts are held besides
pub record TakesParts (before : List Held) (parts : List Part) (after : List Held) : Type 0 where
  pub cpus : (node cpu : ℕ)
      → holds_cpu after node cpu ≡ (holds_cpu before node cpu || list_any (has_cpu node cpu) parts)
  pub mem : (node : ℕ) → held_mem after node ≡ held_mem before node + mem_held parts node

-- these parts are held no more
pub record GivesParts (before : List Held) (parts : List Part) (after : List Held) : Type 0 where
  pub cpus : (node cpu : ℕ)
      → holds_cpu after node cpu ≡ (holds_cpu before node cpu && not (list_any (has_cpu node cpu) parts))
  pub mem : (node : ℕ) → held_mem after node ≡ held_mem before node - mem_held parts node
