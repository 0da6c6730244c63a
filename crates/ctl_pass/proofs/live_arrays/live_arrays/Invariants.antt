use Rattle.std.proofs.Common.{◌≡◌, ℕ, eqb, take}
use Rattle.std.specs.HashSet.{contains}
use Rattle.std.specs.List.{list_any}
use Rattle.job_table.specs.Awaiting.{has_gone}
use Rattle.job_table.specs.Targets.{is_task_of}
use Rattle.ctl_state.specs.Events.{those_left}
use Rattle.ctl_pass.specs.Limits.{timed_out}
use Rattle.ctl_pass.proofs.live_arrays.live_arrays.Given as goal

-- the arrays of the jobs so far that are left
abbrev pub invariant-loop-job : goal.invariant-loop-job
invariant-loop-job l = (array : ℕ)
    → contains eqb l.numbers array ≡ list_any (is_task_of array)
    (those_left (timed_out l.now) (has_gone l.age l.now l.awaited) (take l.job-index l.jobs))
