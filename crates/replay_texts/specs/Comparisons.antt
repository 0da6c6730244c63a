-- Two replays of one trace, side by side.
use Rattle.std.specs.Prelude.{ℕ, List, ◌++◌, Option, Some, None, option_map, flat_map, codes}
use Rattle.replay_report.specs.Numbers.{thousandths}
use Rattle.replay_report.specs.declared.comparing.Change.{Change}
use Rattle.replay_report.specs.declared.counts.Counts.{Counts}
use Rattle.replay_report.specs.declared.spreads.Spread.{Spread}
use Rattle.replay_texts.specs.Cells.{hundredths, label, number_cell, permille, right}
use Rattle.replay_texts.specs.Summaries.{seconds_of, whole_capacity}
use Rattle.replay_texts.specs.Values.{id_text}
use Rattle.replay_texts.specs.declared.summary.Worked.{Worked}

-- a title and two cells
abbrev pub row_of : List ℕ → List ℕ → List ℕ → List ℕ
row_of title before after = label title ++ before ++ after ++ codes "\n"

abbrev pub row : List ℕ → ℕ → ℕ → List ℕ
row title before after = row_of title (number_cell before) (number_cell after)

-- what isn't known is a dash
abbrev pub known_cell : Option ℕ → List ℕ
known_cell (Some number) = number_cell number
known_cell None = right (codes "-")

abbrev pub known_row : List ℕ → Option ℕ → Option ℕ → List ℕ
known_row title before after = row_of title (known_cell before) (known_cell after)

abbrev pub hundredths_cell : Option ℕ → List ℕ
hundredths_cell (Some number) = right (hundredths number)
hundredths_cell None = right (codes "-")

abbrev pub hundredths_row : List ℕ → Option ℕ → Option ℕ → List ℕ
hundredths_row title before after = row_of title (hundredths_cell before) (hundredths_cell after)

abbrev pub share_row : List ℕ → ℕ → ℕ → List ℕ
share_row title before after = row_of title (right (permille before)) (right (permille after))

unfoldable pub count_rows : Counts → Counts → List ℕ
count_rows before after =
    row (codes "ran") before.ran after.ran ++ row (codes "waiting") before.waits after.waits
    ++ row (codes "forgotten") before.forgotten after.forgotten
    ++ row (codes "refused") before.refused after.refused ++ row (codes "left out") before.left_out after.left_out

abbrev pub mean_in : Option Spread → Option ℕ
mean_in spread = option_map (λ (one : Spread). one.mean) spread

abbrev pub median_in : Option Spread → Option ℕ
median_in spread = option_map (λ (one : Spread). one.median) spread

abbrev pub high_in : Option Spread → Option ℕ
high_in spread = option_map (λ (one : Spread). one.high) spread

unfoldable pub wait_rows : Option Spread → Option Spread → List ℕ
wait_rows before after =
    known_row (codes "wait mean") (mean_in before) (mean_in after)
    ++ known_row (codes "wait median") (median_in before) (median_in after)
    ++ known_row (codes "wait 95th") (high_in before) (high_in after)

unfoldable pub slowdown_rows : Option Spread → Option Spread → List ℕ
slowdown_rows before after =
    hundredths_row (codes "slowdown mean") (mean_in before) (mean_in after)
    ++ hundredths_row (codes "slowdown median") (median_in before) (median_in after)
    ++ hundredths_row (codes "slowdown 95th") (high_in before) (high_in after)

-- the share of its cluster's processors that a replay used
abbrev pub share_of : Worked → ℕ
share_of worked = thousandths worked.summary.sums.used (whole_capacity worked.processors worked.summary)

unfoldable pub use_rows : Worked → Worked → List ℕ
use_rows before after =
    row (codes "seconds") (seconds_of before.summary.reach) (seconds_of after.summary.reach)
    ++ row (codes "processors") before.processors after.processors
    ++ row (codes "passes") before.passes after.passes
    ++ row (codes "cpu seconds") before.summary.sums.used after.summary.sums.used
    ++ share_row (codes "use") (share_of before) (share_of after)

-- a job: its waits and its starts, before and after, and which it is
unfoldable pub change_line : Change → List ℕ
change_line change =
    number_cell change.before.wait ++ number_cell change.after.wait ++ number_cell change.before.start
    ++ number_cell change.after.start ++ codes " " ++ id_text change.id ++ codes "\n"

-- jobs below a title
unfoldable pub changes_text : List ℕ → List Change → List ℕ
changes_text title changes =
    codes "\n" ++ title
    ++ codes "\n  WAIT_BEFORE   WAIT_AFTER START_BEFORE  START_AFTER JOB\n"
    ++ flat_map change_line changes

-- the sums of two replays, and the jobs that wait less in the second, and more
unfoldable pub comparison_text : Worked → Worked → List Change → List Change → List ℕ
comparison_text before after less more =
    codes "                           BEFORE        AFTER\n" ++ count_rows before.summary.counts after.summary.counts
    ++ wait_rows before.summary.sums.wait after.summary.sums.wait
    ++ slowdown_rows before.summary.sums.slowdown after.summary.sums.slowdown ++ use_rows before after
    ++ changes_text (codes "Jobs that wait less") less ++ changes_text (codes "Jobs that wait more") more
