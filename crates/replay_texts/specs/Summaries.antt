-- The summary of a replay.
use Rattle.std.specs.Prelude.{ℕ, ◌+◌, ◌-◌, ◌*◌, List, [], ◌∷◌, ◌++◌, Option, Some, None, codes, decimal}
use Rattle.replay_report.specs.Numbers.{stopped}
use Rattle.replay_report.specs.declared.counts.Counts.{Counts}
use Rattle.replay_report.specs.declared.spans.Reach.{Reach}
use Rattle.replay_report.specs.declared.summary.Summary.{Summary}
use Rattle.replay_report.specs.declared.sums.Sums.{Sums}
use Rattle.replay_texts.specs.Cells.{label, number_cell}
use Rattle.replay_texts.specs.Groups.{groups_text, sums_cells, titles, use_cells}
use Rattle.replay_texts.specs.declared.summary.Worked.{Worked}

-- for how many seconds a replay goes on
abbrev pub seconds_of : Option Reach → ℕ
seconds_of (Some reach) = reach.last - reach.first
seconds_of None = 0

-- the processor-seconds that a cluster has in so many seconds
abbrev pub capacity_of : ℕ → ℕ → ℕ
capacity_of processors seconds = stopped (processors * seconds)

unfoldable pub counts_text : Counts → List ℕ
counts_text counts =
    codes "FATE                          RAN      WAITING    FORGOTTEN      REFUSED     LEFT_OUT\n"
    ++ label (codes "all") ++ number_cell counts.ran ++ number_cell counts.waits ++ number_cell counts.forgotten
    ++ number_cell counts.refused ++ number_cell counts.left_out ++ codes "\n"

-- on a cluster of so many processors, in so many passes
unfoldable pub reach_line : ℕ → ℕ → Reach → List ℕ
reach_line processors passes reach =
    codes "\nTIME                        FIRST         LAST      SECONDS   PROCESSORS       PASSES\n"
    ++ label (codes "all") ++ number_cell reach.first ++ number_cell reach.last
    ++ number_cell (reach.last - reach.first) ++ number_cell processors ++ number_cell passes ++ codes "\n"

abbrev pub reach_text : ℕ → ℕ → Option Reach → List ℕ
reach_text processors passes (Some reach) = reach_line processors passes reach
reach_text processors passes None = []

unfoldable pub sums_text : ℕ → Sums → List ℕ
sums_text capacity sums = codes "\n" ++ titles (codes "JOBS") ++ label (codes "all") ++ sums_cells capacity sums

-- the second at which an hour begins, the first of which is 0
abbrev pub hour_start : ℕ → ℕ → ℕ
hour_start first hour = stopped (first + stopped (3600 * hour))

-- the line of an hour that begins then
unfoldable pub hour_line : ℕ → ℕ → ℕ → ℕ → List ℕ
hour_line capacity hour start used =
    label (decimal hour) ++ number_cell start ++ use_cells capacity used ++ codes "\n"

-- the lines of the hours from one on
unfoldable pub hour_lines : ℕ → ℕ → ℕ → List ℕ → List ℕ
hour_lines capacity first hour [] = []
hour_lines capacity first hour (used ∷ others) =
    hour_line capacity hour (hour_start first hour) used
    ++ hour_lines capacity first (hour + 1) others

unfoldable pub hour_table : ℕ → ℕ → List ℕ → List ℕ
hour_table capacity first hours =
    codes "\nHOUR                        START  CPU_SECONDS          USE\n"
    ++ hour_lines capacity first 0 hours

abbrev pub hours_text : ℕ → Option Reach → List ℕ → List ℕ
hours_text processors (Some reach) hours = hour_table (capacity_of processors 3600) reach.first hours
hours_text processors None hours = []

-- the capacity of a replay
abbrev pub whole_capacity : ℕ → Summary → ℕ
whole_capacity processors summary = capacity_of processors (seconds_of summary.reach)

unfoldable pub tables_text : ℕ → Summary → List ℕ
tables_text capacity summary =
    groups_text (codes "ACCOUNT") capacity summary.accounts.items
    ++ groups_text (codes "PARTITION") capacity summary.partitions.items
    ++ groups_text (codes "QOS") capacity summary.qos.items

-- the sums over all jobs, and those by group
unfoldable pub all_sums_text : ℕ → Summary → List ℕ
all_sums_text processors summary =
    sums_text (whole_capacity processors summary) summary.sums
    ++ tables_text (whole_capacity processors summary) summary

unfoldable pub summary_text : Worked → List ℕ
summary_text worked =
    counts_text worked.summary.counts ++ reach_text worked.processors worked.passes worked.summary.reach
    ++ all_sums_text worked.processors worked.summary
    ++ hours_text worked.processors worked.summary.reach worked.summary.hours.items
