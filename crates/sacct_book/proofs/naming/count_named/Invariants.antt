use Rattle.std.proofs.Common.{◌≡◌, ℕ, ◌-◌, ◌^◌, ◌<◌, ◌≤◌, get_or, take, vec_len}
use Rattle.sacct_book.specs.Naming.{run_by_named}
use Rattle.sacct_book.specs.Running.{counted}
use Rattle.sacct_book.proofs.naming.count_named.Given as goal

-- each with what those of the jobs hold that the targets so far name
abbrev pub invariant-loop-place : goal.invariant-loop-place
invariant-loop-place l = record {
  len : vec_len l.held ≡ vec_len l.fn.held;
  small : (at : ℕ) → at < vec_len l.fn.held → get_or l.fn.held.items at 0 ≤ 2 ^ 64 - 1;
  each : (at : ℕ) → at < vec_len l.fn.held → get_or l.held.items at 0
      ≡ counted l.way (get_or l.fn.held.items at 0) (run_by_named (take l.place l.targets) l.jobs.records at);
}
