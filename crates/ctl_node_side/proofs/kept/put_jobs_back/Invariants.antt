use Rattle.std.proofs.Common.{◌≡◌}
use Rattle.ctl_node_side.specs.Keeping.{put_all}
use Rattle.ctl_node_side.proofs.kept.put_jobs_back.Given as goal

abbrev pub invariant-loop-job : goal.invariant-loop-job
invariant-loop-job l = record {
  records : l.jobs.records ≡ put_all l.yielded l.initial.jobs.records;
  usage : l.jobs.usage ≡ l.initial.jobs.usage;
  next : (goal.iterator-loop-job).can_next l.job-iterator;
  finite : (goal.iterator-loop-job).is_finite l.job-iterator;
}
