-- The processors of one more job.
use Rattle.std.proofs.Common.{◌≡◌, ℕ, ◌+◌, ◌-◌, ◌^◌, ◌<◌, Bool, true, false, cond, min, List, length, take, get_or, nat_eq, sym, arith}
use Rattle.std.proofs.lemmas.List.Sums.{sum_by_more}
use Rattle.job_table.specs.declared.record.JobRecord.{JobRecord}
use Rattle.sacct_book.specs.Running.{cpus_run_by, cpus_running}

-- one more job, where counts stand still at a word's end
pub running-more : (place : ℕ) (jobs : List JobRecord) (i : ℕ) (job : JobRecord) → i < length jobs
    → job ≡ get_or jobs i job → (first was last more : ℕ)
    → was ≡ min (first + cpus_run_by (take i jobs) place) (2 ^ 64 - 1)
    → more ≡ min (cpus_running job) (2 ^ 64 - 1)
    → last ≡ min (was + cond (nat_eq job.assoc place) more 0) (2 ^ 64 - 1)
    → last ≡ min (first + cpus_run_by (take (i + 1) jobs) place) (2 ^ 64 - 1)
unfolding cpus_run_by
running-more place jobs i job low is first was last more before held after =
    by_test (nat_eq job.assoc place) (cpus_running job) (cpus_run_by (take i jobs) place) _ was last more
    (rw (sym is) at (sum_by_more (λ (one : JobRecord). cond (nat_eq one.assoc place) (cpus_running one) 0) jobs i job low))
    before held after
  where
    by_test : (same : Bool) (holds rest next was last more : ℕ) → next ≡ rest + cond same holds 0
        → was ≡ min (first + rest) (2 ^ 64 - 1) → more ≡ min holds (2 ^ 64 - 1)
        → last ≡ min (was + cond same more 0) (2 ^ 64 - 1) → last ≡ min (first + next) (2 ^ 64 - 1)
    by_test true holds rest next was last more is before held after = omega arith
    by_test false holds rest next was last more is before held after = omega arith
