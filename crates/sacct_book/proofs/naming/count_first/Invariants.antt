use Rattle.std.proofs.Common.{◌≡◌, ℕ, ◌-◌, ◌^◌, ◌<◌, ◌≤◌, filter, get_or, take, vec_len}
use Rattle.sacct_book.specs.Naming.{is_named_first}
use Rattle.sacct_book.specs.Running.{counted, cpus_run_by}
use Rattle.sacct_book.proofs.naming.count_first.Given as goal

-- each with what those of the jobs so far hold
abbrev pub invariant-loop-job : goal.invariant-loop-job
invariant-loop-job l = record {
  len : vec_len l.held ≡ vec_len l.fn.held;
  small : (at : ℕ) → at < vec_len l.fn.held → get_or l.fn.held.items at 0 ≤ 2 ^ 64 - 1;
  each : (at : ℕ) → at < vec_len l.fn.held → get_or l.held.items at 0
      ≡ counted l.way (get_or l.fn.held.items at 0)
      (cpus_run_by (filter (is_named_first l.before l.target) (take l.job-index l.jobs)) at);
}
