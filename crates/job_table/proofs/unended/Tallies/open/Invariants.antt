-- All counts as much as it did.
use Rattle.std.proofs.Common.{◌≡◌, ℕ, Bool, sum_by}
use Rattle.job_table.specs.Tallies.{counted}
use Rattle.job_table.proofs.unended.Tallies.open.Given as goal

abbrev pub invariant-loop-job : goal.invariant-loop-job
invariant-loop-job l = record {
  known : l.self.known ≡ l.fn.self.known;
  same : (test : ℕ → ℕ → Bool)
      → sum_by (counted test) l.self.list.items ≡ sum_by (counted test) l.fn.self.list.items;
}
