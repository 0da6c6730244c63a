-- The job counts at the places so far.
use Rattle.std.proofs.Common.{◌≡◌, ℕ, take, nat_eq}
use Rattle.std.specs.List.{list_any}
use Rattle.std.specs.HashMap.{get}
use Rattle.run_limits.specs.Tallies.{kept, with_job_if}
use Rattle.run_limits.proofs.tally.count_above.Given as goal

abbrev pub invariant-loop-place : goal.invariant-loop-place
invariant-loop-place l =
    (other : ℕ) → kept (get nat_eq l.below other)
    ≡ with_job_if (list_any (nat_eq other) (take l.place-index l.places)) l.cpus (kept
    (get nat_eq l.fn.below other))
