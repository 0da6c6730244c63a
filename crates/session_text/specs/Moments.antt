-- Moments as the lines of a session name them, and when a call is made.
use Rattle.std.specs.Prelude.{ℕ, zero, suc, ◌+◌, ◌-◌, ◌^◌, min, nat_eq, if◌then◌else◌, List, [], ◌∷◌, ◌++◌, Option, codes}
use Rattle.std.specs.List.{starts_with}
use Rattle.std.specs.Option.{option_or}
use Rattle.small_texts.specs.Digits.{number_within}
use Rattle.small_texts.specs.Moment.{moment_of}
use Rattle.session_text.specs.declared.call.Times.{Times}

-- a plus in front stands for `now+`
abbrev pub spelled_out : List ℕ → List ℕ
spelled_out text = if starts_with nat_eq text (codes "+") then codes "now" ++ text else text

-- The moment that a text names at the moment `now`: seconds since 1970, or what `--begin` of sbatch takes.
unfoldable pub moment_named : ℕ → List ℕ → Option ℕ
moment_named now text = option_or (number_within 12 250_000_000_000 text) (moment_of (spelled_out text) now)

-- so many seconds later, up to the greatest moment that 64 bits hold
abbrev pub later : ℕ → ℕ → ℕ
later moment seconds = min (moment + seconds) (2 ^ 64 - 1)

-- so many moments, the first of them a step behind this one, and each other a step behind the one before
abbrev pub moments_from : ℕ → ℕ → ℕ → List ℕ
moments_from moment step zero = []
moments_from moment step (suc count) = later moment step ∷ moments_from (later moment step) step count

-- the moments at which a call is made
abbrev pub moments_of : Times → List ℕ
moments_of times = moments_from times.start times.step times.count
