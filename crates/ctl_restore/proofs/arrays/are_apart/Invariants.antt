-- Each number so far is above the one before it.
use Rattle.std.proofs.Common.{ℕ, ◌+◌, ◌<◌, ◌≤◌, get_or}
use Rattle.saved_data.specs.declared.parts.SavedArray.{SavedArray}
use Rattle.ctl_restore.proofs.arrays.are_apart.Given as goal

abbrev pub invariant-loop-place : goal.invariant-loop-place
invariant-loop-place l = record {
  some : 1 ≤ l.place;
  rises : (k : ℕ) (d : SavedArray) → k + 1 < l.place → (get_or l.arrays k d).id < (get_or l.arrays (k + 1) d).id;
}
