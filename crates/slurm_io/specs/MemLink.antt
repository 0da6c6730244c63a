-- A link in memory, as contracts see it, and what its calls make of it.
use Rattle.std.specs.Prelude.{ℕ, List, ◌++◌, min, length, drop}
use Rattle.slurm_io.specs.Faults.{next_count}

-- What is left to read and what was taken, how many bytes one call moves at the most, and of the reads and of the
-- writes the numbers of those that are to fail, how many there were, and how many failed.
pub record MemLinkState : Type 0 where
  pub left : List ℕ
  pub taken : List ℕ
  pub most : ℕ
  pub failing_reads : List ℕ
  pub failing_writes : List ℕ
  pub reads : ℕ
  pub writes : ℕ
  pub read_faults : ℕ
  pub write_faults : ℕ

-- how many bytes a read into a buffer of this length gives
abbrev pub read_count : MemLinkState → ℕ → ℕ
read_count link room = min (min (length link.left) link.most) room

abbrev pub after_read : MemLinkState → ℕ → MemLinkState
after_read link count = record link { left = drop count link.left; reads = next_count link.reads }

abbrev pub after_read_fault : MemLinkState → MemLinkState
after_read_fault link = record link { reads = next_count link.reads; read_faults = next_count link.read_faults }

-- after a write that took these bytes
abbrev pub after_write : MemLinkState → List ℕ → MemLinkState
after_write link bytes = record link { taken = link.taken ++ bytes; writes = next_count link.writes }

abbrev pub after_write_fault : MemLinkState → MemLinkState
after_write_fault link = record link { writes = next_count link.writes; write_faults = next_count link.write_faults }
