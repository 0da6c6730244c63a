-- What a clock tells, and what reading it brings.
use Rattle.std.specs.Prelude.{◌≡◌, ℕ, ◌+◌, ◌-◌, ◌^◌, ◌<◌, List, ◌++◌, length, Option, IfSome, IsSome, IsSomeAnd}
use Rattle.slurm_net.specs.Course.{Course}

-- a clock's course and the moments that it has given, where it tells them
pub record Timing : Type 0 where
  pub course : Option Course
  pub moments : Option (List ℕ)

abbrev pub timing : Option Course → Option (List ℕ) → Timing
timing course moments = record { course = course; moments = moments }

-- A clock gave these moments in turn, one at each reading. It stays on its course, and where it tells that, it goes on
-- telling its moments while there are fewer than 2^64 - 1.
pub record Gives (clock clock' : Timing) (given : List ℕ) : Type 0 where
  pub grown : IfSome clock'.moments (λ after. IsSomeAnd clock.moments (λ before. after ≡ before ++ given))
  pub tells : IfSome clock.course (λ _. IfSome clock.moments
      (λ before. length before + length given < 2 ^ 64 - 1 → IsSome clock'.moments))
  pub course : clock'.course ≡ clock.course
