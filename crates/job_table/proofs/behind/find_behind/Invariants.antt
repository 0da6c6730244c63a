-- The users and names of those so far, and which of them have others before them.
use Rattle.std.proofs.Common.{◌≡◌, ℕ, nat_eq, take}
use Rattle.std.specs.HashSet.{contains}
use Rattle.std.specs.List.{list_any}
use Rattle.job_table.specs.Behind.{UserAndName, is_alike, same_texts}
use Rattle.job_table.specs.Standing.{is_before}
use Rattle.job_table.proofs.Awaiting.{finds_number}
use Rattle.job_table.proofs.behind.find_behind.Given as goal

abbrev pub invariant-loop-job : goal.invariant-loop-job
invariant-loop-job l = record {
  named : (key : UserAndName) → contains same_texts l.named key
      ≡ list_any (is_alike key.0.now key.1.now) (take l.job-index l.jobs);
  numbers : (number : ℕ) → contains nat_eq l.numbers number
      ≡ finds_number (λ own. list_any (is_before own) l.jobs) (take l.job-index l.jobs) number;
}
