-- The fields of a line.
use Rattle.std.specs.Prelude.{ℕ, ◌-◌, ◌==◌, ◌||◌, Bool, nat_lt, List, [], length, filter, slice_get, unwrap_or}
use Rattle.std.specs.List.{slice_split}
use Rattle.std.specs.Str.{byte}

-- the field at a place, counted from 1
abbrev pub field : List (List ℕ) → ℕ → List ℕ
field fields place = unwrap_or (slice_get fields (place - 1)) []

-- a blank, a tab, or what some systems write before the end of a line
abbrev pub is_gap : ℕ → Bool
is_gap b = b == byte " " || b == byte "\t" || b == byte "\r"

-- the words between gaps
abbrev pub is_word : List ℕ → Bool
is_word part = nat_lt 0 (length part)

abbrev pub words : List ℕ → List (List ℕ)
words line = filter is_word (slice_split is_gap line)
