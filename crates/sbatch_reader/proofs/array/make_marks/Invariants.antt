use Rattle.std.proofs.Common.{ℕ, ◌≡◌, false, get_or, length, take}
use Rattle.std.specs.List.{list_any}
use Rattle.sbatch_reader.specs.Array.{names}
use Rattle.sbatch_reader.specs.declared.array.Stretch.{Stretch}
use Rattle.sbatch_reader.proofs.array.make_marks.Given as goal

abbrev pub invariant-loop-stretch : goal.invariant-loop-stretch
invariant-loop-stretch l =
    (length l.marks.items ≡ l.bound) × ((n : ℕ) → get_or l.marks.items n false ≡ list_any (λ (stretch : Stretch). names stretch n) (take l.stretch-index l.stretches))
