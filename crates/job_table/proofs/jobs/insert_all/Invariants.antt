-- Those so far are in, and there is room for the others.
use Rattle.std.proofs.Common.{◌≡◌, ◌≤◌, ◌++◌, length}
use Rattle.std.specs.Vec.Iter.{into_iter_items}
use Rattle.indexmap.specs.IndexMap.{spare, values}
use Rattle.job_table.specs.Table.{IsTable}
use Rattle.job_table.proofs.jobs.insert_all.Given as goal

abbrev pub invariant-loop-job : goal.invariant-loop-job
invariant-loop-job l = record {
  table : IsTable l.by_id.entries;
  all : values l.by_id ++ into_iter_items l.job-iterator ≡ values l.fn.by_id ++ l.fn.more.items;
  room : length (into_iter_items l.job-iterator) ≤ spare l.by_id;
  next : (goal.iterator-loop-job).can_next l.job-iterator;
  finite : (goal.iterator-loop-job).is_finite l.job-iterator;
}
