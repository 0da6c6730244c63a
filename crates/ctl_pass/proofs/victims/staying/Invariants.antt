use Rattle.std.proofs.Common.{◌≡◌, filter, flat_map, take}
use Rattle.ctl_state.specs.State.{state_of}
use Rattle.ctl_pass.specs.Limits.{holds_of_job}
use Rattle.ctl_pass.specs.Preempting.{stays}
use Rattle.ctl_pass.proofs.victims.staying.Given as goal

-- what those of the jobs so far hold that stay
abbrev pub invariant-loop-job : goal.invariant-loop-job
invariant-loop-job l =
    l.holds.items ≡ flat_map (holds_of_job l.factors.moment)
    (filter (stays (state_of l.cluster) l.factors.moment l.high) (take l.job-index l.cluster.jobs.records))
