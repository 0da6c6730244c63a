-- A member is at most the greatest, and sums.
use Rattle.std.proofs.Common.{◌≡◌, ℕ, zero, suc, ◌+◌, ◌≤◌, List, [], ◌∷◌, map, max, take, slice_get, inl, inr, refl, arith}
use Rattle.std.specs.Prelude.{fold, sum_by, option_map, unwrap_or}
use Rattle.std.proofs.Math.Nat.{le-max_left}
use Rattle.std.proofs.lemmas.List.{take_all}
use Rattle.std.proofs.lemmas.List.Sums.{sum_by_more}
use Rattle.std.proofs.lemmas.Option.{slice_get_cases}
use Rattle.node_state.specs.declared.partition_record.PartRecord.{PartRecord}
use Rattle.run_limits.specs.declared.record.QosRecord.{QosRecord}
use Rattle.job_table.specs.declared.record.JobRecord.{JobRecord}
use Rattle.ctl_state.specs.State.{State}
use Rattle.ctl_waiting.specs.Priority.{factor_of, greatest, greatest_factor, greatest_qos, qos_priority_of}

fold-over : (a : ℕ) (xs : List ℕ) → a ≤ fold max a xs
fold-over a [] = omega arith
fold-over a (x ∷ xs) = omega (arith, le-max_left a x, fold-over (max a x) xs)

pub member-low : {X : Type 0} (f : X → ℕ) (xs : List X) (place a : ℕ)
    → unwrap_or (option_map f (slice_get xs place)) 0 ≤ fold max a (map f xs)
member-low f [] place a = omega arith
member-low f (x ∷ xs) zero a = omega (arith, fold-over (max a (f x)) (map f xs))
member-low f (x ∷ xs) (suc place) a = member-low f xs place (max a (f x))

-- the greatest of what is read of the members, as a walk over them finds it
pub greatest_read : {X : Type 0} (f : X → ℕ) (xs : List X) (a : ℕ)
    → fold max a (map f xs) ≡ fold (λ greatest x. max greatest (f x)) a xs
greatest_read f [] a = refl
greatest_read f (x ∷ xs) a = greatest_read f xs (max a (f x))

-- one more member of a sum, which is nothing behind the end
pub sum-next : {X : Type 0} (f : X → ℕ) (xs : List X) (i : ℕ)
    → sum_by f (take (i + 1) xs) ≡ sum_by f (take i xs) + unwrap_or (option_map f (slice_get xs i)) 0
sum-next f xs i = elim (slice_get_cases xs i).1 [
  | inl found ↦ rw found.2 (rw found.3 at (sum_by_more f xs i found.0 found.1))
  | inr behind ↦ rw (behind.1, take_all (i + 1) xs (omega (arith, behind.0)), take_all i xs behind.0) (omega arith)
]

-- no job's factor and no job's quality is above the greatest
pub factor_of-low : (s : State) (job : JobRecord) → factor_of s job ≤ greatest_factor s
unfolding greatest_factor greatest
factor_of-low s job = member-low (λ (partition : PartRecord). partition.conf.factor) s.partitions job.partition 0

pub qos_priority_of-low : (s : State) (job : JobRecord) → qos_priority_of s job ≤ greatest_qos s
unfolding greatest_qos greatest
qos_priority_of-low s job = member-low (λ (one : QosRecord). one.conf.priority) s.qos job.qos 0
