use Rattle.std.proofs.Common.{◌≤◌, length}
use Rattle.ctl_show.proofs.rows.count_shown.Given as goal

-- no more are counted than were walked over
abbrev pub invariant-loop-place : goal.invariant-loop-place
invariant-loop-place l = record {
  counted : l.count ≤ l.place;
  end : l.place-end ≤ length l.cluster.jobs.records;
}
