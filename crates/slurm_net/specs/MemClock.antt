-- A clock in memory, as contracts see it.
use Rattle.std.specs.Prelude.{◌≡◌, ℕ, ◌-◌, ◌^◌, zero, suc, nat_lt, Option, Some, None, if◌then◌else◌, true, false, refl, length, List, [], ◌∷◌}
use Rattle.std.proofs.Common.{ap, sym, arith, length-append}
use Rattle.slurm_net.specs.Course.{Course, first_moments, FollowsCourse, moment_at}
use Rattle.slurm_net.specs.declared.mem_clock.MemClock.{MemClock}

abbrev pub course_of : MemClock → Course
course_of clock = record { first = clock.first; step = clock.step }

-- the moments given so far, while their number is known: until the count of readings stands still
abbrev pub moments_of : MemClock → Option (List ℕ)
moments_of clock = if nat_lt clock.readings (2 ^ 64 - 1) then Some (first_moments (course_of clock) clock.readings) else None

pub length-first_moments : (course : Course) (n : ℕ) → length (first_moments course n) ≡ n
length-first_moments course zero = refl
length-first_moments course (suc n) = omega (arith, length-append (first_moments course n) (moment_at course n ∷ []), length-first_moments course n)

pub moments_of-follow : (clock : MemClock) → FollowsCourse (Some (course_of clock)) (moments_of clock)
moments_of-follow clock =
    elim (nat_lt clock.readings (2 ^ 64 - 1)) as (λ b. FollowsCourse (Some (course_of clock)) (if b then Some (first_moments (course_of clock) clock.readings) else None)) [
      | true ↦ ap (first_moments (course_of clock)) (sym (length-first_moments (course_of clock) clock.readings))
      | false ↦ tt
    ]
