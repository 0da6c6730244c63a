-- What private functions say as they mark the indices of an array. Of the proof alone.
use Rattle.std.specs.Prelude.{ℕ, ◌+◌, ◌*◌, ◌≤◌, Bool, false, List, length, filter, slice_index_or}
use Rattle.std.specs.List.{range_with_len}
use Rattle.sbatch_reader.specs.declared.array.Stretch.{Stretch}

-- the places that are marked
abbrev pub marked : List Bool → List ℕ
marked marks = filter (λ n. slice_index_or marks n false) (range_with_len 0 (length marks))

-- a stretch has more numbers than an array may have
pub record IsLong (stretch : Stretch) : Type 0 where
  pub many : stretch.first + 10_001 * stretch.step ≤ stretch.last
  pub within : stretch.last ≤ 99_999
  pub steps : 1 ≤ stretch.step
