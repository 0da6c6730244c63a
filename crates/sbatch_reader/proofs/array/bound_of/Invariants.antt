use Rattle.std.proofs.Common.{ℕ, ◌<◌, ◌≤◌, get_or}
use Rattle.sbatch_reader.specs.declared.array.Stretch.{Stretch}
use Rattle.sbatch_reader.proofs.array.bound_of.Given as goal

abbrev pub invariant-loop-stretch : goal.invariant-loop-stretch
invariant-loop-stretch l =
    (l.greatest ≤ 99999) × ((k : ℕ) (d : Stretch) → k < l.stretch-index → (get_or l.stretches k d).last ≤ l.greatest)
