-- The jobs of a saved state that fits: whose tasks they are.
use Rattle.std.proofs.Common.{◌≡◌, ℕ, ◌+◌, ◌<◌, ◌≤◌, true, List, [], ◌∷◌, length, map, All, AllPairs, Any, get_or, Option, Some, None, refl, sym, ap, ◌∙◌, arith, inl, inr}
use Rattle.std.specs.Prelude.{IfSome, nat_le, nat_lt}
use Rattle.std.proofs.lemmas.Bool.{and_parts}
use Rattle.std.proofs.lemmas.Bool.Decides.{nat_tests}
use Rattle.std.proofs.lemmas.List.{get_or-map, length-map}
use Rattle.std.proofs.lemmas.List.Elements.{All-map}
use Rattle.job_table.specs.declared.record.JobRecord.{JobRecord}
use Rattle.job_table.specs.Targets.{AreTogether}
use Rattle.ctl_state.specs.State.{State}
use Rattle.saved_data.specs.declared.job.SavedJob.{SavedJob}
use Rattle.saved_data.specs.declared.parts.SavedArray.{SavedArray}
use Rattle.saved_data.specs.declared.saved.Saved.{Saved}
use Rattle.ctl_restore.specs.Fits.{HasArrays, HasItsTasks, is_within}
use Rattle.ctl_restore.specs.Restored.{restored_job}

pub pairs-map : {X Y : Type 0} (R : Y → Y → Type 0) (f : X → Y) (xs : List X)
    → AllPairs (λ one other. R (f one) (f other)) xs → AllPairs R (map f xs)
pairs-map R f [] pairs i j d before below = absurd (omega (arith, below))
pairs-map R f (x ∷ xs) pairs i j d before below =
    let inside : j < length (x ∷ xs) = omega (arith, below, length-map (x ∷ xs) f) in
    rw (get_or-map f (x ∷ xs) i x d (omega (arith, before, inside)), get_or-map f (x ∷ xs) j x d inside)
    (pairs i j x before inside)

pub pairs-unmap : {X Y : Type 0} (R : Y → Y → Type 0) (f : X → Y) (xs : List X)
    → AllPairs R (map f xs) → AllPairs (λ one other. R (f one) (f other)) xs
pairs-unmap R f xs pairs i j d before below =
    let inside : j < length (map f xs) = omega (arith, below, length-map xs f) in
    rw (get_or-map f xs i d (f d) (omega (arith, before, below)), get_or-map f xs j d (f d) below)
    at (pairs i j (f d) before inside)

pub all-unmap : {X Y : Type 0} (P : Y → Type 0) (f : X → Y) (xs : List X) → All P (map f xs) → All (λ x. P (f x)) xs
all-unmap P f xs all k d below =
    rw (get_or-map f xs k d (f d) below) at (all k (f d) (omega (arith, below, length-map xs f)))

-- the number of a task is its array's or a later one within it
within-ids : (array : SavedArray) (job : SavedJob) → is_within array job ≡ true
    → (array.id ≤ job.id) × (job.id < array.id + length array.indices)
within-ids array job within =
    let both = and_parts (nat_le array.id job.id) (nat_lt job.id (array.id + length array.indices)) within in
    (grind (arith, nat_tests, both.0), grind (arith, nat_tests, both.1))

is-within : (array : SavedArray) (job : SavedJob) → array.id ≤ job.id → job.id < array.id + length array.indices
    → is_within array job ≡ true
is-within array job above below = grind (arith, nat_tests, above, below)

-- a job with an array is a task of a saved one
of-array : (saved : Saved) (k : ℕ) (d : SavedJob) (id : ℕ) → HasArrays saved → k < length saved.jobs
    → (get_or saved.jobs k d).array ≡ Some id
    → Any (λ (array : SavedArray). (array.id ≡ id) × (is_within array (get_or saved.jobs k d) ≡ true)) saved.arrays
of-array saved k d id has below is = elim (has.jobs k d below) [
  | inl lone ↦ absurd (let no = rw is at lone.array in cc)
  | inr (place, array, inside, found, task) ↦ (place, array, inside, found, (same array.id (sym task.of ∙ is), task.within))
] where
  same : (n : ℕ) → Some n ≡ Some id → n ≡ id
  same n is = cc

-- between the first task of an array and another no other job stands
pub together : (s : State) (saved : Saved) → HasArrays saved
    → AllPairs (λ (one other : SavedJob). one.id < other.id) saved.jobs
    → AreTogether (map (restored_job s) saved.jobs)
unfolding restored_job
together s saved has rising = record {
  after = All-map (λ (job : JobRecord). IfSome job.array (λ array. array ≤ job.id)) (restored_job s) saved.jobs
      (λ k d below. after k d below (get_or saved.jobs k d).array refl);
  together = pairs-map
      (λ (one other : JobRecord). IfSome other.array (λ array. array ≤ one.id → one.array ≡ Some array))
      (restored_job s) saved.jobs
      (λ i j d before below. between i j d before below (get_or saved.jobs j d).array refl);
}
  where
    after : (k : ℕ) (d : SavedJob) → k < length saved.jobs → (o : Option ℕ) → (get_or saved.jobs k d).array ≡ o
        → IfSome o (λ array. array ≤ (get_or saved.jobs k d).id)
    after k d below None is = tt
    after k d below (Some id) is =
        let (place, array, inside, found, one) = of-array saved k d id has below is in
        omega (arith, one.0, (within-ids array (get_or saved.jobs k d) one.1).0)

    between : (i j : ℕ) (d : SavedJob) → i < j → j < length saved.jobs → (o : Option ℕ)
        → (get_or saved.jobs j d).array ≡ o
        → IfSome o (λ array. array ≤ (get_or saved.jobs i d).id → (get_or saved.jobs i d).array ≡ Some array)
    between i j d before below None is = tt
    between i j d before below (Some id) is = λ reaches.
        let (place, array, inside, found, one) = of-array saved j d id has below is in
        let tasks : HasItsTasks saved.jobs array = rw found at (has.tasks place array inside) in
        let last = (within-ids array (get_or saved.jobs j d) one.1).1 in
        let within : is_within array (get_or saved.jobs i d) ≡ true =
        is-within array (get_or saved.jobs i d) (omega (arith, one.0, reaches)) (omega (arith, last, rising i j d before below)) in
        tasks.all i d (omega (arith, before, below)) within ∙ ap Some one.0
