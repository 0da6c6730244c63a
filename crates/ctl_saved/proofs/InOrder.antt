-- What is saved stands in order where the state does.
use Rattle.std.proofs.Common.{◌≡◌, ℕ, ◌<◌, ◌≤◌, List, [], ◌∷◌, length, map, AllPairs, get_or, arith}
use Rattle.std.specs.Prelude.{IfOk, Result, Ok, Err}
use Rattle.std.proofs.lemmas.List.{get_or-map, length-map}
use Rattle.node_state.specs.declared.record.DroppedNode.{DroppedNode}
use Rattle.job_table.specs.Table.{HaveRisingIds}
use Rattle.ctl_state.specs.State.{State}
use Rattle.saved_data.specs.Order.{IsInOrder, IsNotBehind}
use Rattle.saved_data.specs.declared.job.SavedJob.{SavedJob}
use Rattle.saved_data.specs.declared.parts.SavedArray.{SavedArray}
use Rattle.ctl_saved.specs.Saving.{StandsInOrder, saved_array, saved_job, saved_of}

pairs-map : {X Y : Type 0} (R : Y → Y → Type 0) (f : X → Y) (xs : List X)
    → AllPairs (λ one other. R (f one) (f other)) xs → AllPairs R (map f xs)
pairs-map R f [] pairs i j d before below = absurd (omega (arith, below))
pairs-map R f (x ∷ xs) pairs i j d before below =
    let inside : j < length (x ∷ xs) = omega (arith, below, length-map (x ∷ xs) f) in
    rw (get_or-map f (x ∷ xs) i x d (omega (arith, before, inside)), get_or-map f (x ∷ xs) j x d inside)
    (pairs i j x before inside)

pub in-order : (s : State) → HaveRisingIds s.jobs → StandsInOrder s → IsInOrder (saved_of s)
unfolding saved_of saved_job
in-order s rising stands = record {
  arrays = pairs-map (λ (one other : SavedArray). one.id ≤ other.id) saved_array s.arrays stands.arrays;
  jobs = pairs-map (λ (one other : SavedJob). one.id ≤ other.id) (saved_job s.partitions s.nodes) s.jobs
      (λ i j d before below. omega (arith, rising i j d before below));
  dropped = stands.dropped;
}

-- what follows of the value of a result
pub ok-then : {A E : Type 0} (r : Result A E) (P Q : A → Type 0) → IfOk r P → ((a : A) → P a → Q a) → IfOk r Q
ok-then (Ok a) P Q is then = then a is
ok-then (Err e) P Q is then = tt
