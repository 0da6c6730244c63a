use Rattle.std.proofs.Common.{List, All, length, drop}
use Rattle.job_table.specs.declared.record.JobRecord.{JobRecord}
use Rattle.ctl_state.specs.State.{state_of}
use Rattle.ctl_pass.specs.Awaiting.{CanBegin, IsPrepared, placements_of}
use Rattle.ctl_pass.proofs.Splits.{AreFirst}
use Rattle.ctl_pass.proofs.split.settle.Given as goal

-- those that started and stayed so far are the first ones, whatever the jobs are
abbrev pub invariant-loop-placed : goal.invariant-loop-placed
invariant-loop-placed l = record {
  prepared : All (IsPrepared l.cluster.nodes.records) l.starts.items;
  first : (jobs : List JobRecord)
      → CanBegin l.cluster.assocs.records l.cluster.jobs.records jobs l.initial.tally l.fn.placements.items
      → AreFirst (state_of l.cluster) l.now l.cluster.jobs.records jobs l.tally
      (drop (length l.yielded) l.fn.placements.items) (placements_of l.starts.items) l.stays.items
      l.fn.placements.items;
  next : (goal.iterator-loop-placed).can_next l.placed-iterator;
  finite : (goal.iterator-loop-placed).is_finite l.placed-iterator;
}
