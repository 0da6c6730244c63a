-- What those so far count.
use Rattle.std.proofs.Common.{◌≡◌, cond, sum_by, take}
use Rattle.job_table.specs.declared.unended.Unended.{Unended}
use Rattle.run_limits.specs.Counting.{is_in}
use Rattle.ctl_jobs.specs.Tallied.{counted_by}
use Rattle.ctl_jobs.proofs.limits.sum_tallies.Given as goal

abbrev pub invariant-loop-tally : goal.invariant-loop-tally
invariant-loop-tally l =
    l.sum
    ≡ sum_by
    (λ (tally : Unended). cond (is_in l.assocs.records l.group (counted_by tally.assoc tally.qos)) tally.count 0)
    (take l.tally-index l.tallies)
