-- A clock in memory goes on telling its moments.
use Rattle.std.proofs.Common.{◌≡◌, ℕ, ◌+◌, ◌-◌, ◌^◌, ◌<◌, Some, None, true, false, nat_lt, length, if◌then◌else◌, arith, refl}
use Rattle.std.specs.Prelude.{IfSome, IsSome}
use Rattle.slurm_io.specs.Faults.{next_count}
use Rattle.slurm_net.specs.Course.{first_moments, Course}
use Rattle.slurm_net.specs.MemClock.{length-first_moments}

pub goes_on : (course : Course) (readings readings' : ℕ) → readings' ≡ next_count readings
    → IfSome (if nat_lt readings (2 ^ 64 - 1) then Some (first_moments course readings) else None) (λ before.
    length before + 1 < 2 ^ 64 - 1 → IsSome (if nat_lt readings' (2 ^ 64 - 1) then Some (first_moments course readings') else None))
goes_on course readings readings' counted =
    elim (nat_lt readings (2 ^ 64 - 1)) as (λ b. IfSome (if b then Some (first_moments course readings) else None) (λ before.
    length before + 1 < 2 ^ 64 - 1 → IsSome (if nat_lt readings' (2 ^ 64 - 1) then Some (first_moments course readings') else None))) [
      | true ↦ λ few. let told : nat_lt readings' (2 ^ 64 - 1) ≡ true = grind (arith, counted, few, length-first_moments course readings) in rw told refl
      | false ↦ tt
    ]
