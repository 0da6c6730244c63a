-- What private functions say as they count the names of an item before any is made. Of the proof alone.
use Rattle.std.specs.Prelude.{ℕ, ◌≡◌, ◌<◌, ◌≤◌, ◌-◌, ◌/◌, ◌%◌, ◌^◌, Bool, true, ◌&&◌, nat_le, if◌then◌else◌, Option, Some, None, List, ◌++◌, length, map, fold, decimal}
use Rattle.std.specs.List.{list_all, range_with_len}
use Rattle.small_texts.specs.Name.{is_name}
use Rattle.small_texts.specs.Options.{◌>>=◌}
use Rattle.host_lists.specs.Hosts.{numbers_in, range_names, padded, has, with_name}
use Rattle.host_lists.specs.Runs.{in_runs}
use Rattle.host_lists.specs.declared.counted.Counted.{Counted}
use Rattle.host_lists.specs.declared.runs.Run.{Run}

-- names behind others, where they are names and all together at most 1,024
unfoldable pub few_with : List (List ℕ) → List (List ℕ) → Option (List (List ℕ))
few_with others names =
    if list_all is_name names && nat_le (length (fold with_name others names)) 1024
    then Some (fold with_name others names)
    else None

-- the names of one part behind others
unfoldable pub with_part : List ℕ → List (List ℕ) → List ℕ → Option (List (List ℕ))
with_part prefix others part = numbers_in part >>= λ numbers. few_with others (range_names prefix numbers)

-- a number and how many digits it is written in, in one number
abbrev pub is_key : ℕ → Bool
is_key key = nat_le (length (decimal (key % 2 ^ 32))) (key / 2 ^ 32)

abbrev pub name_at : List ℕ → ℕ → List ℕ
name_at prefix key = prefix ++ padded (key / 2 ^ 32) (key % 2 ^ 32)

-- each number of a run is a key
abbrev pub AreKeys : Run → Type 0
AreKeys run = (key : ℕ) → run.first ≤ key → key < run.end → is_key key ≡ true

-- the names of its keys
abbrev pub run_names : List ℕ → Run → List (List ℕ)
run_names prefix run = map (name_at prefix) (range_with_len run.first (run.end - run.first))

-- names behind a prefix are those that were counted
pub record Counts (prefix : List ℕ) (counted : Counted) (names : List (List ℕ)) : Type 0 where
  pub count : counted.count ≡ length names
  pub members : (key : ℕ) → is_key key ≡ true → in_runs counted.runs.items key ≡ has (name_at prefix key) names

-- a part that is good, and with whose names they are those that were counted
pub record AddsPart (prefix part : List ℕ) (names : List (List ℕ)) (counted : Counted) : Type 0 where
  pub more : List (List ℕ)
  pub made : with_part prefix names part ≡ Some more
  pub counts : Counts prefix counted more
