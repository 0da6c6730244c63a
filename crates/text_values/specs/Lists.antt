-- Texts whose parts stand between separators.
use Rattle.std.specs.Prelude.{ℕ, nat_le, if◌then◌else◌, List, length, map, Option, Some, None, option_and_then}
use Rattle.std.specs.Str.{byte}
use Rattle.small_texts.specs.Fields.{fields}
use Rattle.host_lists.specs.Hosts.{all_some}

-- what the parts of a text mean, where each means something
abbrev pub parts_in : {X : Type 0} → (List ℕ → Option X) → ℕ → List ℕ → Option (List X)
parts_in meaning separator text = all_some (map meaning (fields separator text))

-- these members, where they are at most 1,024
abbrev pub few : {X : Type 0} → List X → Option (List X)
few members = if nat_le (length members) 1024 then Some members else None

-- what at most 1,024 parts between commas mean
abbrev pub few_in : {X : Type 0} → (List ℕ → Option X) → List ℕ → Option (List X)
few_in meaning text = option_and_then few (parts_in meaning (byte ",") text)
