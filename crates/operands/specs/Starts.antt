-- Lists of starts that `report` tells.
use Rattle.std.specs.Prelude.{ℕ, List, [], ◌∷◌, Option, Some, None}
use Rattle.std.specs.Str.{byte}
use Rattle.text_values.specs.Lists.{parts_in}
use Rattle.text_values.specs.Numbers.{u32_in}
use Rattle.small_texts.specs.Fields.{fields}
use Rattle.small_texts.specs.Options.{◌>>=◌}
use Rattle.request_data.specs.declared.report.Start.{Start}
use Rattle.request_data.specs.declared.report.Done.{Done}

-- `ID.START`, by its fields at a dot
unfoldable pub start_of : List (List ℕ) → Option Start
start_of (id ∷ number ∷ []) = do
  i ← u32_in id
  n ← u32_in number
  Some (record { id = i; number = n })
start_of parts = None

-- `ID.START.EXIT`, by its fields at a dot
unfoldable pub done_of : List (List ℕ) → Option Done
done_of (id ∷ number ∷ exit ∷ []) = do
  start ← start_of (id ∷ number ∷ [])
  e ← u32_in exit
  Some (record { start = start; exit = e })
done_of parts = None

abbrev pub start_by : List ℕ → Option Start
start_by text = start_of (fields (byte ".") text)

abbrev pub done_by : List ℕ → Option Done
done_by text = done_of (fields (byte ".") text)

-- lists of these between commas, where each member is good
abbrev pub starts_by : List ℕ → Option (List Start)
starts_by list = parts_in start_by (byte ",") list

abbrev pub dones_by : List ℕ → Option (List Done)
dones_by list = parts_in done_by (byte ",") list
