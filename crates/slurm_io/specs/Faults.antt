-- What is said of a count of faults. A count never falls, and stays at 2^64 - 1 once it stands there.
use Rattle.std.specs.Prelude.{◌≡◌, ℕ, ◌+◌, ◌-◌, ◌^◌, ◌<◌, ◌≤◌, min, Result, MatchResult}

-- the count after the next one, where it isn't the greatest that there is
abbrev pub next_count : ℕ → ℕ
next_count n = min (n + 1) (2 ^ 64 - 1)

-- one fault was counted
abbrev pub CountsOne : ℕ → ℕ → Type 0
CountsOne before after = (after ≡ next_count before) × (before ≤ after)

-- a count didn't rise, and doesn't stand at its last value
abbrev pub CountsNone : ℕ → ℕ → Type 0
CountsNone before after = (after ≡ before) × (before < 2 ^ 64 - 1)

-- a call that failed was counted once, and another left the count as it was
abbrev pub CountsFault : {T E : Type 0} → ℕ → ℕ → Result T E → Type 0
CountsFault before after result = MatchResult result (λ _. after ≡ before) (λ _. CountsOne before after)
