-- The tallies count what a walk over the jobs would.
use Rattle.std.proofs.Common.{◌∙◌, sym, arith}
use Rattle.ctl_jobs.proofs.Unended.{tallies-counted, tallies-few}
use Rattle.ctl_jobs.proofs.limits.UnendedJobsCountsJobs.jobs_in.Goals as goal

pub sum_tallies-requires : goal.sum_tallies-requires
sum_tallies-requires c =
    omega (arith, c.len.ensures, tallies-few c.in-Some.tallies.now c.args.self.now.jobs.now.records c.in-Some.ensures)

pub returns-in-Some : goal.returns-in-Some
returns-in-Some c =
    let held = c.args.self.now in
    c.sum_tallies.ensures
    ∙ tallies-counted held.assocs.now.records c.args.group c.in-Some.tallies.now held.jobs.now.records
    (sym c.is_array.ensures ∙ c.if-not-is_array.true) c.in-Some.ensures
