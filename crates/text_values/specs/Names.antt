-- Names, and lists of them.
use Rattle.std.specs.Prelude.{ℕ, if◌then◌else◌, List, Option, Some, None}
use Rattle.std.specs.Str.{byte}
use Rattle.small_texts.specs.Name.{is_name}
use Rattle.text_values.specs.Lists.{few_in, parts_in}

abbrev pub name_in : List ℕ → Option (List ℕ)
name_in text = if is_name text then Some text else None

-- names between commas
unfoldable pub names_in : List ℕ → Option (List (List ℕ))
names_in text = parts_in name_in (byte ",") text

-- names between commas, 1,024 at most
unfoldable pub few_names_in : List ℕ → Option (List (List ℕ))
few_names_in text = few_in name_in text
