-- Lines of sums.
use Rattle.std.specs.Prelude.{ℕ, List, ◌++◌, Option, Some, None, flat_map, codes}
use Rattle.replay_report.specs.Numbers.{thousandths}
use Rattle.replay_report.specs.declared.groups.GroupSums.{GroupSums}
use Rattle.replay_report.specs.declared.spreads.Spread.{Spread}
use Rattle.replay_report.specs.declared.sums.Sums.{Sums}
use Rattle.replay_texts.specs.Cells.{hundredths, label, number_cell, permille, right}

-- nothing is known of no jobs
abbrev pub no_cells : List ℕ
no_cells = right (codes "-") ++ right (codes "-") ++ right (codes "-")

-- mean, median and 95th percentile
abbrev pub number_cells : Option Spread → List ℕ
number_cells (Some spread) = number_cell spread.mean ++ number_cell spread.median ++ number_cell spread.high
number_cells None = no_cells

-- the same of slowdowns
abbrev pub slowdown_cells : Option Spread → List ℕ
slowdown_cells (Some spread) =
    right (hundredths spread.mean) ++ right (hundredths spread.median) ++ right (hundredths spread.high)
slowdown_cells None = no_cells

-- processor-seconds, and what share of a capacity they are
abbrev pub use_cells : ℕ → ℕ → List ℕ
use_cells capacity used = number_cell used ++ right (permille (thousandths used capacity))

unfoldable pub sums_cells : ℕ → Sums → List ℕ
sums_cells capacity sums =
    number_cell sums.jobs ++ number_cell sums.ran ++ number_cells sums.wait ++ slowdown_cells sums.slowdown
    ++ use_cells capacity sums.used ++ codes "\n"

abbrev pub name_shown : Option (List ℕ) → List ℕ
name_shown (Some name) = name
name_shown None = codes "(none)"

unfoldable pub group_line : ℕ → GroupSums → List ℕ
group_line capacity group = label (name_shown group.name) ++ sums_cells capacity group.sums

unfoldable pub titles : List ℕ → List ℕ
titles title =
    label title
    ++ codes "         JOBS          RAN    WAIT_MEAN  WAIT_MEDIAN    WAIT_95TH    SLOW_MEAN  SLOW_MEDIAN    SLOW_95TH  CPU_SECONDS          USE\n"

-- the groups below their titles
unfoldable pub groups_text : List ℕ → ℕ → List GroupSums → List ℕ
groups_text title capacity groups = codes "\n" ++ titles title ++ flat_map (group_line capacity) groups
