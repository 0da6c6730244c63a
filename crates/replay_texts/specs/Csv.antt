-- A line for each job, with commas between its fields.
use Rattle.std.specs.Prelude.{ℕ, List, ◌++◌, flat_map, codes}
use Rattle.replay_report.specs.declared.outcome.JobOutcome.{JobOutcome}
use Rattle.replay_texts.specs.Fates.{fate_text}
use Rattle.replay_texts.specs.Values.{id_text, known, name_text}

-- what the trace tells of a job
abbrev pub real_text : JobOutcome → List ℕ
real_text outcome =
    id_text outcome.id ++ name_text outcome.names.user ++ known outcome.times.submit ++ known outcome.times.start
    ++ known outcome.times.end

unfoldable pub csv_line : JobOutcome → List ℕ
csv_line outcome = real_text outcome ++ fate_text outcome.times.submit outcome.fate ++ codes "\n"

-- the lines below their titles
abbrev pub csv_text : List JobOutcome → List ℕ
csv_text outcomes =
    codes "JOB,USER,SUBMIT,REAL_START,REAL_END,START,END,WAIT,NODES,STATE\n" ++ flat_map csv_line outcomes
