-- What private functions say of runs of numbers. Of the proof alone.
use Rattle.std.specs.Prelude.{ℕ, ◌-◌, Bool, not, ◌&&◌, nat_le, nat_lt, List}
use Rattle.std.specs.List.{list_any, range_with_len, count_by}
use Rattle.host_lists.specs.declared.runs.Run.{Run}

-- whether a run has a number
abbrev pub in_run : Run → ℕ → Bool
in_run run number = nat_le run.first number && nat_lt number run.end

-- whether one of the runs has it
abbrev pub in_runs : List Run → ℕ → Bool
in_runs runs number = list_any (λ run. in_run run number) runs

-- how many numbers from a first on, so many, none of the runs has
abbrev pub new_from : List Run → ℕ → ℕ → ℕ
new_from runs first len = count_by (λ number. not (in_runs runs number)) (range_with_len first len)

-- how many numbers of a run none of the runs has
unfoldable pub new_in : List Run → Run → ℕ
new_in runs run = new_from runs run.first (run.end - run.first)
