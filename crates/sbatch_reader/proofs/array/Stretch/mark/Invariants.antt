use Rattle.std.proofs.Common.{ℕ, ◌≡◌, ◌+◌, ◌-◌, ◌%◌, ◌≤◌, ◌||◌, ◌&&◌, false, get_or, ltb}
use Rattle.sbatch_reader.specs.Array.{names}
use Rattle.sbatch_reader.proofs.array.Stretch.mark.Given as goal

abbrev pub decreases-loop-at : goal.decreases-loop-at
decreases-loop-at l = l.last + 1 - l.at

-- the numbers before the next step are marked
abbrev pub invariant-loop-at : goal.invariant-loop-at
invariant-loop-at l =
    (l.self.first ≤ l.at) × ((l.at - l.self.first) % l.self.step ≡ 0) × ((n : ℕ) → get_or l.marks n false ≡ (get_or l.fn.marks n false || (names l.self n && ltb n l.at)))
