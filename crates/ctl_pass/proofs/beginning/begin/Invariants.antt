use Rattle.std.proofs.Common.{◌≡◌, drop, fold, length}
use Rattle.ctl_state.specs.Index.{IsIndexed}
use Rattle.ctl_state.specs.State.{state_of}
use Rattle.ctl_pass.specs.Awaiting.{placements_of}
use Rattle.ctl_pass.specs.Starting.{begun_by}
use Rattle.ctl_pass.specs.Taking.{AreDue, unplanned}
use Rattle.ctl_pass.proofs.beginning.begin.Given as goal

-- those so far have started, and the others can; the index goes on showing what is held
abbrev pub invariant-loop-start : goal.invariant-loop-start
invariant-loop-start l = record {
  after : state_of l.cluster ≡ record (state_of l.initial.cluster) {
    jobs = fold (begun_by l.initial.cluster.nodes.records l.now) l.initial.cluster.jobs.records
        (placements_of l.yielded);
  };
  due : AreDue (unplanned l.now (state_of l.cluster)) (drop (length l.yielded) l.fn.starts.items);
  indexed : IsIndexed l.cluster;
  next : (goal.iterator-loop-start).can_next l.start-iterator;
  finite : (goal.iterator-loop-start).is_finite l.start-iterator;
}
