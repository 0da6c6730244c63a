-- What private functions say of the names that were found. Of the proof alone.
use Rattle.std.specs.Prelude.{ℕ, ◌≡◌, ◌≤◌, ◌<◌, ◌-◌, Bool, true, ◌&&◌, ◌==◌, Some, List, ◌++◌, map, bytes_eq}
use Rattle.std.specs.HashMap.{get}
use Rattle.std.specs.List.{range_with_len}
use Rattle.small_texts.specs.Name.{is_name}
use Rattle.host_lists.specs.Hosts.{padded, has}
use Rattle.host_lists.specs.Runs.{in_run}
use Rattle.host_lists.specs.declared.runs.Run.{Run}
use Rattle.host_lists.specs.declared.found.Row.{Row}
use Rattle.host_lists.specs.declared.found.Found.{Found}

-- the name of a number of a row
abbrev pub name_in : Row → ℕ → List ℕ
name_in row number = row.prefix.now ++ padded row.width number

-- the names of a run of its numbers
abbrev pub names_of : Row → Run → List (List ℕ)
names_of row run = map (name_in row) (range_with_len run.first (run.end - run.first))

-- they are names
abbrev pub AreNamed : Row → Run → Type 0
AreNamed row run = (number : ℕ) → run.first ≤ number → number < run.end → is_name (name_in row number) ≡ true

-- they are among names
pub record IsFound (row : Row) (run : Run) (names : List (List ℕ)) : Type 0 where
  pub among : (number : ℕ) → in_run run number ≡ true → has (name_in row number) names ≡ true

-- two rows are the same one
abbrev pub is_same_row : Row → Row → Bool
is_same_row one other = bytes_eq one.prefix.now other.prefix.now && (one.width == other.width && one.place == other.place)

-- the names of each run that is known of a row are among those that were found
pub record AreFound (found : Found) : Type 0 where
  pub rows : (row : Row) (run : Run) → get is_same_row found.known row ≡ Some run → IsFound row run found.names.keys
