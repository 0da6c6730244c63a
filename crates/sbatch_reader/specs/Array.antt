-- Which tasks a text gives an array.
use Rattle.std.specs.Prelude.{ℕ, ◌-◌, ◌%◌, ◌==◌, nat_le, Bool, ◌&&◌, if◌then◌else◌, Option, Some, None, List, [], ◌∷◌, length, filter}
use Rattle.std.specs.Int.{is_in_range}
use Rattle.std.specs.List.{list_any, range_with_len}
use Rattle.std.specs.Str.{byte}
use Rattle.small_texts.specs.Digits.{number_within}
use Rattle.small_texts.specs.Fields.{fields}
use Rattle.small_texts.specs.Options.{◌>>=◌}
use Rattle.plain_data.specs.declared.array.ArraySpec.{ArraySpec}
use Rattle.text_values.specs.Lists.{parts_in}
use Rattle.text_values.specs.Numbers.{number_in}
use Rattle.sbatch_reader.specs.declared.array.Stretch.{Stretch}

-- an index has 1 to 5 digits
abbrev pub index_in : List ℕ → Option ℕ
index_in text = number_within 5 99_999 text

-- a number from 1 on that 32 bits hold
abbrev pub count_in : List ℕ → Option ℕ
count_in text = number_in 1 4_294_967_295 text

-- a last index and the step, which is 1 where none is given, by the fields at a colon
unfoldable pub end_of : List (List ℕ) → Option (ℕ × ℕ)
end_of (last ∷ []) = index_in last >>= λ l. Some (l, 1)
end_of (last ∷ step ∷ []) = index_in last >>= λ l. count_in step >>= λ s. Some (l, s)
end_of _ = None

abbrev pub end_in : List ℕ → Option (ℕ × ℕ)
end_in text = end_of (fields (byte ":") text)

-- one index, or a first and a last that don't fall, by the fields at a dash
unfoldable pub stretch_of : List (List ℕ) → Option Stretch
stretch_of (index ∷ []) = do
  i ← index_in index
  Some (record { first = i; last = i; step = 1 })
stretch_of (first ∷ end ∷ []) = do
  i ← index_in first
  e ← end_in end
  if nat_le i e.0 then Some (record { first = i; last = e.0; step = e.1 }) else None
stretch_of _ = None

abbrev pub stretch_in : List ℕ → Option Stretch
stretch_in text = stretch_of (fields (byte "-") text)

-- the numbers from the first to the last, in steps
abbrev pub names : Stretch → ℕ → Bool
names stretch n = nat_le stretch.first n && nat_le n stretch.last && (n - stretch.first) % stretch.step == 0

-- an index has 5 digits at most
unfoldable pub index_bound : ℕ
index_bound = 100_000

-- the numbers that one of the items names, each once, from the least on
unfoldable pub indices_of : List Stretch → List ℕ
indices_of stretches = filter (λ n. list_any (λ stretch. names stretch n) stretches) (range_with_len 0 index_bound)

-- an array has 1 to 10,001 indices
abbrev pub within_limit : List ℕ → Option (List ℕ)
within_limit indices = if is_in_range 1 10_001 (length indices) then Some indices else None

-- the indices of items between commas
unfoldable pub indices_in : List ℕ → Option (List ℕ)
indices_in text = do
  stretches ← parts_in stretch_in (byte ",") text
  within_limit (indices_of stretches)

-- the items, and maybe how many tasks hold processors at once, by the fields at a percent sign
unfoldable pub array_of : List (List ℕ) → Option ArraySpec
array_of (items ∷ []) = do
  indices ← indices_in items
  Some (record { indices = indices; most = None })
array_of (items ∷ most ∷ []) = do
  indices ← indices_in items
  m ← count_in most
  Some (record { indices = indices; most = Some m })
array_of _ = None

abbrev pub array_in : List ℕ → Option ArraySpec
array_in text = array_of (fields (byte "%") text)
