use Rattle.std.proofs.Common.{◌≡◌, ◌||◌, ℕ, eqb, take}
use Rattle.std.specs.HashSet.{contains}
use Rattle.job_table.specs.Targets.{is_named}
use Rattle.job_table.proofs.Awaiting.{finds_number}
use Rattle.job_table.proofs.awaited.add_tasks.Given as goal

-- the numbers of those so far that are named
abbrev pub invariant-loop-job : goal.invariant-loop-job
invariant-loop-job l = (id : ℕ)
    → contains eqb l.numbers id
    ≡ (contains eqb l.fn.numbers id || finds_number (is_named l.target) (take l.job-index l.span) id)
