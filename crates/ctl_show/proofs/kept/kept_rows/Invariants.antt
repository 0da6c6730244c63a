use Rattle.std.proofs.Common.{◌≡◌, ◌≤◌, length, take, map, filter, IfSome}
use Rattle.reply_data.specs.declared.view.Row.TheVariants.{Job}
use Rattle.ctl_state.specs.State.{state_of}
use Rattle.ctl_show.specs.Found.{IsOutlook}
use Rattle.ctl_show.specs.Showing.{row_of, is_meant}
use Rattle.ctl_show.proofs.kept.kept_rows.Given as goal

abbrev pub invariant-loop-place : goal.invariant-loop-place
invariant-loop-place l = record {
  rows : l.rows.items ≡ map (λ job. Job (row_of (state_of l.cluster) l.moment job))
      (filter (is_meant l.target) (take l.place l.cluster.jobs.records));
  outlook : IfSome l.outlook (IsOutlook (state_of l.cluster) l.moment);
  within : l.place ≤ length l.cluster.jobs.records;
  end : l.place-end ≤ length l.cluster.jobs.records;
}
