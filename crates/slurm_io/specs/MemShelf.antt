-- A shelf in memory, as contracts see it, and what its calls make of it.
use Rattle.std.specs.Prelude.{ℕ, ◌-◌, min, List, length, String, Vec, string_bytes}
use Rattle.std.specs.declared.alloc.Global.{Global}
use Rattle.slurm_io.specs.Faults.{next_count}
use Rattle.slurm_io.specs.Shelf.{ShelfFile}

-- The files, the numbers of the reads that are to fail, how many reads there were, and how many failed.
pub record MemShelfState : Type 0 where
  pub files : List ShelfFile
  pub failing : List ℕ
  pub reads : ℕ
  pub faults : ℕ

-- what a shelf tells of a file that it keeps
abbrev pub told_file : String Global × Vec ℕ Global → ShelfFile
told_file (name, bytes) = record { name = string_bytes name; bytes = bytes.items }

-- how many bytes of a file a read at an offset gives to a buffer of this length
abbrev pub given_count : List ℕ → ℕ → ℕ → ℕ
given_count file offset room = min (length file - offset) room

abbrev pub after_read_at : MemShelfState → MemShelfState
after_read_at shelf = record shelf { reads = next_count shelf.reads }

abbrev pub after_read_at_fault : MemShelfState → MemShelfState
after_read_at_fault shelf = record shelf { reads = next_count shelf.reads; faults = next_count shelf.faults }
