-- Nodes and partitions whose places are others now. For each old place the new one is told.
use Rattle.std.specs.Prelude.{ℕ, List, map, slice_index}
use Rattle.job_table.specs.declared.record.Part.{Part}
use Rattle.job_table.specs.declared.record.JobRecord.{JobRecord}

abbrev pub part_moved : List ℕ → Part → Part
part_moved places part = record part { node = slice_index places part.node }

-- the job with its parts at the new places of their nodes
abbrev pub parts_moved : List ℕ → JobRecord → JobRecord
parts_moved places job = record job { parts = map (part_moved places) job.parts }

-- the job of the same partition, which is at another place
abbrev pub partition_moved : List ℕ → JobRecord → JobRecord
partition_moved places job = record job { partition = slice_index places job.partition }
