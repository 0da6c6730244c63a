-- Numbers that rise, in runs of neighbours.
use Rattle.std.specs.Prelude.{ℕ, ◌+◌, ◌==◌, if◌then◌else◌, List, [], ◌∷◌, ◌++◌, map, codes, decimal}
use Rattle.host_lists.specs.Folding.{with_commas}

-- a first and a last number, with the runs behind them: one run where the next number is the neighbour
abbrev pub continued : ℕ → ℕ → List (ℕ × ℕ) → List (ℕ × ℕ)
continued first last [] = (first, last) ∷ []
continued first last (next ∷ runs) =
    if next.0 == last + 1 then (first, next.1) ∷ runs else (first, last) ∷ next ∷ runs

-- the longest runs of neighbours, each by its first and its last number
abbrev pub runs : List ℕ → List (ℕ × ℕ)
runs [] = []
runs (number ∷ numbers) = continued number number (runs numbers)

-- `a` or `a-b`
unfoldable pub run_text : ℕ → ℕ → List ℕ
run_text first last = if first == last then decimal first else decimal first ++ codes "-" ++ decimal last

abbrev pub runs_text : List (ℕ × ℕ) → List ℕ
runs_text runs = with_commas (map (λ run. run_text run.0 run.1) runs)

abbrev pub ranges_text : List ℕ → List ℕ
ranges_text numbers = runs_text (runs numbers)
