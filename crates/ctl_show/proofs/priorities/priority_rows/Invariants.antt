use Rattle.std.proofs.Common.{◌≡◌, ◌≤◌, length, take, map, filter}
use Rattle.reply_data.specs.declared.view.Row.TheVariants.{Priority}
use Rattle.ctl_state.specs.State.{state_of}
use Rattle.ctl_show.specs.Showing.{priority_row_of, is_weighed}
use Rattle.ctl_show.proofs.priorities.priority_rows.Given as goal

abbrev pub invariant-loop-place : goal.invariant-loop-place
invariant-loop-place l = record {
  rows : l.rows.items ≡ map (λ job. Priority (priority_row_of (state_of l.cluster) l.moment job))
      (filter (is_weighed l.asker l.who l.jobs) (take l.place l.cluster.jobs.records));
  within : l.place ≤ length l.cluster.jobs.records;
  end : l.place-end ≤ length l.cluster.jobs.records;
}
