-- The moments of a clock whose course is known, and what is said of a clock's moments.
use Rattle.std.specs.Prelude.{◌≡◌, ℕ, ◌+◌, ◌-◌, ◌*◌, ◌^◌, ◌<◌, min, zero, suc, List, [], ◌∷◌, ◌++◌, length, Option, IfSome, IsSome, IsSomeAnd}

-- a clock's first moment, and by how much each reading is later than the one before
pub record Course : Type 0 where
  pub first : ℕ
  pub step : ℕ

-- the moment of the reading of this number, counted from 0, up to the greatest that there is
abbrev pub moment_at : Course → ℕ → ℕ
moment_at course number = min (course.first + number * course.step) (2 ^ 64 - 1)

-- the moments of the first readings
abbrev pub first_moments : Course → ℕ → List ℕ
first_moments course zero = []
first_moments course (suc n) = first_moments course n ++ moment_at course n ∷ []

-- where both are told, the moments given so far are the first ones of the course
abbrev pub FollowsCourse : Option Course → Option (List ℕ) → Type 0
FollowsCourse told given = IfSome told (λ course. IfSome given (λ moments. moments ≡ first_moments course (length moments)))

-- where the moments are told after a reading, they were told before it and grew by the moment that it gave
abbrev pub AddsMoment : Option (List ℕ) → Option (List ℕ) → ℕ → Type 0
AddsMoment old new moment = IfSome new (λ after. IsSomeAnd old (λ before. after ≡ before ++ moment ∷ []))

-- A clock that tells its course tells its moments too, and goes on telling them while there are fewer than 2^64 - 1.
abbrev pub GoesOnTelling : Option Course → Option (List ℕ) → Option (List ℕ) → Type 0
GoesOnTelling told old new = IfSome told (λ _. IfSome old (λ before. length before + 1 < 2 ^ 64 - 1 → IsSome new))
