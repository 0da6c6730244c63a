-- The jobs so far have moved.
use Rattle.std.proofs.Common.{◌≡◌, length, map}
use Rattle.indexmap.specs.IndexMap.{values}
use Rattle.job_table.specs.Moving.{partition_moved}
use Rattle.job_table.specs.Table.{entry_of}
use Rattle.job_table.specs.Walks.{walked}
use Rattle.job_table.proofs.jobs.move_all_partitions.Given as goal

abbrev pub invariant-loop-place : goal.invariant-loop-place
invariant-loop-place l = record {
  entries : l.by_id.entries ≡ map entry_of (walked (partition_moved l.places) l.place (values l.fn.by_id));
  end : l.place-end ≡ length (values l.fn.by_id);
}
