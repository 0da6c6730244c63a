-- The order in which the members of a saved cluster stand.
use Rattle.std.specs.Prelude.{◌≢◌, ◌≤◌, ℕ, List, AllPairs}
use Rattle.std.specs.Ordering.{nat_cmp}
use Rattle.std.specs.Cmp.Lexicographic.{slice_cmp}
use Rattle.std.specs.declared.cmp.Ordering.TheVariants.{Greater}
use Rattle.node_state.specs.declared.record.DroppedNode.{DroppedNode}
use Rattle.saved_data.specs.declared.job.SavedJob.{SavedJob}
use Rattle.saved_data.specs.declared.parts.SavedArray.{SavedArray}
use Rattle.saved_data.specs.declared.saved.Saved.{Saved}

-- one name isn't behind the other in byte order
abbrev pub IsNotBehind : List ℕ → List ℕ → Type 0
IsNotBehind one other = slice_cmp nat_cmp one other ≢ Greater

-- Numbers of jobs and of arrays don't fall, nor do the names of dropped nodes.
pub record IsInOrder (saved : Saved) : Type 0 where
  pub arrays : AllPairs (λ (one other : SavedArray). one.id ≤ other.id) saved.arrays
  pub jobs : AllPairs (λ (one other : SavedJob). one.id ≤ other.id) saved.jobs
  pub dropped : AllPairs (λ (one other : DroppedNode). IsNotBehind one.name other.name) saved.dropped
