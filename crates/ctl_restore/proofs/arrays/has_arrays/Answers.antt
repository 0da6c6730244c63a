use Rattle.std.proofs.Common.{sym, ◌∙◌}
use Rattle.std.proofs.lemmas.Bool.{both_ways}
use Rattle.ctl_restore.proofs.arrays.has_arrays.Goals.{else-are_arrays, then-are_arrays}
use Rattle.ctl_restore.proofs.arrays.has_arrays.Goals as goal

pub returns-then-are_placed : goal.returns-then-are_placed
returns-then-are_placed c = elim c.if-are_arrays.branch [
  | then-are_arrays w ↦ (
    λ yes. record {
      each = rw c.as_slice-arrays.ensures at (c.are_arrays.ensures.0 w.if-are_arrays.true);
      tasks = rw (c.as_slice-arrays.ensures, c.as_slice-jobs.ensures) at (c.have_their_tasks.ensures.0 yes);
      jobs = rw (c.as_slice-arrays.ensures, c.as_slice-jobs.ensures)
          at (w.are_placed.ensures.0 (sym w.value-is ∙ c.if-are_placed.true));
    },
    λ has. c.have_their_tasks.ensures.1 (rw (c.as_slice-arrays.ensures, c.as_slice-jobs.ensures) has.tasks),
  )
  | else-are_arrays w ↦
      absurd (both_ways c.are_arrays.result w.if-are_arrays.false (sym w.value-is ∙ c.if-are_placed.true))
]
