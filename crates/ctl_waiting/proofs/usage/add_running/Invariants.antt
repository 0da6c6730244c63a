use Rattle.std.proofs.Common.{◌≡◌, ℕ, ◌+◌, ◌-◌, ◌<◌, ◌≤◌, min, get_or, length, take, vec_len}
use Rattle.ctl_waiting.specs.Usage.{running_usage}
use Rattle.ctl_waiting.proofs.usage.add_running.Given as goal

-- each with what those of the jobs so far have used that run
abbrev pub invariant-loop-place : goal.invariant-loop-place
invariant-loop-place l = record {
  len : vec_len l.usage ≡ vec_len l.fn.usage;
  each : (at : ℕ) → at < vec_len l.fn.usage → get_or l.usage.items at 0
      ≡ min (get_or l.fn.usage.items at 0 + running_usage l.now (take l.from l.jobs.records) at) 4294967295;
  within : l.from ≤ length l.jobs.records;
}

abbrev pub decreases-loop-place : goal.decreases-loop-place
decreases-loop-place l = length l.jobs.records - l.from
