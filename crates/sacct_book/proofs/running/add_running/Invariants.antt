use Rattle.std.proofs.Common.{◌≡◌, ℕ, ◌+◌, ◌-◌, ◌^◌, ◌<◌, min, get_or, take, vec_len}
use Rattle.sacct_book.specs.Running.{cpus_run_by}
use Rattle.sacct_book.proofs.running.add_running.Given as goal

-- each with what those of the jobs so far hold that run
abbrev pub invariant-loop-job : goal.invariant-loop-job
invariant-loop-job l = record {
  len : vec_len l.held ≡ vec_len l.fn.held;
  each : (at : ℕ) → at < vec_len l.fn.held → get_or l.held.items at 0
      ≡ min (get_or l.fn.held.items at 0 + cpus_run_by (take l.job-index l.jobs) at) (2 ^ 64 - 1);
}
