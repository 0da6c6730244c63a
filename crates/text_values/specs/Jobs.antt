-- Jobs by their numbers.
use Rattle.std.specs.Prelude.{ℕ, List, [], ◌∷◌, Option, Some, None}
use Rattle.std.specs.Str.{byte}
use Rattle.small_texts.specs.Fields.{fields}
use Rattle.small_texts.specs.Options.{◌>>=◌}
use Rattle.text_values.specs.Numbers.{u32_in}

-- `ID` or `ID_INDEX`, by its fields at an underscore
unfoldable pub job_of : List (List ℕ) → Option (ℕ × Option ℕ)
job_of (id ∷ []) = do
  i ← u32_in id
  Some (i, None)
job_of (id ∷ index ∷ []) = do
  i ← u32_in id
  n ← u32_in index
  Some (i, Some n)
job_of _ = None

abbrev pub job_in : List ℕ → Option (ℕ × Option ℕ)
job_in text = job_of (fields (byte "_") text)
