use Rattle.std.proofs.Common.{◌≡◌, take, flat_map}
use Rattle.ctl_state.specs.Events.{those_left}
use Rattle.ctl_pass.specs.Limits.{timed_out, holds_of_job}
use Rattle.job_table.specs.Awaiting.{has_gone}
use Rattle.ctl_pass.proofs.base.holds_of.Given as goal

-- what those hold that are left of the jobs so far
abbrev pub invariant-loop-job : goal.invariant-loop-job
invariant-loop-job l =
    l.holds.items ≡ flat_map (holds_of_job l.now)
    (those_left (timed_out l.now) (has_gone l.age l.now l.awaited) (take l.job-index l.jobs))
