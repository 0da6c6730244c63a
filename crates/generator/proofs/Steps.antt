-- The script of jobs that are still to be drawn.
use Rattle.std.proofs.Common.{◌≡◌, ℕ, suc, ◌+◌, ◌%◌, List, ◌++◌, map, ap}
use Rattle.generator.specs.Generated.{next_number, numbers_after, draw_of, job_of, jobs_of, job_text, script_from}

-- the script of so many jobs behind a number and a moment, the first of which has this place
abbrev pub script_behind : ℕ → ℕ → ℕ → ℕ → List ℕ
script_behind first moment count number = script_from first (jobs_of moment (map draw_of (numbers_after count number)))

-- it begins with the first of them
pub script_begins : (first moment left count number : ℕ) → left ≡ suc count
    → script_behind first moment left number
    ≡ job_text first (job_of moment (draw_of (next_number number)))
    ++ script_behind (first + 1) (moment + draw_of (next_number number) % 7) count (next_number number)
script_begins first moment left count number e = ap (λ n. script_behind first moment n number) e
