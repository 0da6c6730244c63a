-- The script that a number stands for: jobs that are drawn from it, handed in one after another, and passes.
use Rattle.std.specs.Prelude.{ℕ, zero, suc, ◌+◌, ◌*◌, ◌/◌, ◌%◌, ◌==◌, if◌then◌else◌, Option, List, [], ◌∷◌, ◌++◌, map, flat_map, codes, decimal}
use Rattle.std.specs.List.{enumerate_from}
use Rattle.small_texts.specs.Digits.{number_within}
use Rattle.generator.specs.declared.job.Job.{Job}

-- the number that a word names: it has 1 to 10 digits, and is below 2,147,483,648
abbrev pub number_of : List ℕ → Option ℕ
number_of word = number_within 10 2_147_483_647 word

-- the number that follows another
abbrev pub next_number : ℕ → ℕ
next_number number = (1_103_515_245 * number + 12_345) % 2_147_483_648

-- so many numbers, each of which follows the one before
abbrev pub numbers_after : ℕ → ℕ → List ℕ
numbers_after zero number = []
numbers_after (suc count) number = next_number number ∷ numbers_after count (next_number number)

-- what a job is drawn by: the upper bits of a number
abbrev pub draw_of : ℕ → ℕ
draw_of number = number / 65_536

-- the job of a draw, behind one that was handed in at this moment
abbrev pub job_of : ℕ → ℕ → Job
job_of before draw = record {
  moment = before + draw % 7;
  user = 1 + draw % 4;
  tasks = 1 + draw % 32;
  minutes = 1 + draw / 32 % 240;
  seconds = 1 + draw % 9_000;
}

-- the jobs of draws, one behind the other from a moment on
abbrev pub jobs_of : ℕ → List ℕ → List Job
jobs_of before [] = []
jobs_of before (draw ∷ draws) = job_of before draw ∷ jobs_of (before + draw % 7) draws

-- so many jobs, which are drawn from a number
unfoldable pub jobs_drawn : ℕ → ℕ → List Job
jobs_drawn count number = jobs_of 0 (map draw_of (numbers_after count number))

-- the line that hands a job in
abbrev pub header_line : Job → List ℕ
header_line job =
    decimal job.moment ++ codes " u" ++ decimal job.user ++ codes " sbatch -n " ++ decimal job.tasks
    ++ codes " -t " ++ decimal job.minutes ++ codes " <<\n"

-- the line that says how long a job runs
abbrev pub run_line : ℕ → List ℕ
run_line seconds = codes "#SIM run=" ++ decimal seconds ++ codes " exit=0\n"

-- the block that hands a job in with its script
abbrev pub block_text : Job → List ℕ
block_text job = header_line job ++ codes "#!/bin/sh\n" ++ run_line job.seconds ++ codes ".\n"

-- the line that asks for a pass
abbrev pub pass_line : ℕ → List ℕ
pass_line moment = decimal moment ++ codes " root pass\n"

-- the job of this place, counted from 1: its block, and behind each tenth a pass at its moment
abbrev pub job_text : ℕ → Job → List ℕ
job_text place job = if place % 10 == 0 then block_text job ++ pass_line job.moment else block_text job

-- the script of jobs, the first of which has this place
abbrev pub script_from : ℕ → List Job → List ℕ
script_from first jobs = flat_map (λ (entry : ℕ × Job). job_text entry.0 entry.1) (enumerate_from first jobs)

-- the script that a number stands for: 500 jobs
unfoldable pub generated : ℕ → List ℕ
generated number = script_from 1 (jobs_drawn 500 number)
