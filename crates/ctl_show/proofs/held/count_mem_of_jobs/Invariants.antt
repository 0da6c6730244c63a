use Rattle.std.proofs.Common.{[], take}
use Rattle.ctl_state.specs.Holding.{parts_of, mem_in}
use Rattle.ctl_show.specs.Found.{CountsParts}
use Rattle.ctl_show.proofs.held.count_mem_of_jobs.Given as goal

abbrev pub invariant-loop-job : goal.invariant-loop-job
invariant-loop-job l =
    CountsParts mem_in [] l.initial.counts → CountsParts mem_in (parts_of (take l.job-index l.jobs)) l.counts
