-- Jobs and states that words name.
use Rattle.std.specs.Prelude.{ℕ, if◌then◌else◌, List, [], ◌∷◌, map, codes, bytes_eq, Option, Some, None, option_map}
use Rattle.std.specs.Borrow.{Bor}
use Rattle.text_values.specs.Jobs.{job_in}
use Rattle.text_values.specs.Lists.{few_in}
use Rattle.request_data.specs.declared.query.StateCode.{StateCode}
use Rattle.request_data.specs.declared.query.StateCode.TheVariants.{Pending, Running, Completing, Completed, Cancelled, Failed, Timeout, NodeFail}
use Rattle.request_data.specs.declared.target.Target.{Target}

-- `ID` or `ID_INDEX`
abbrev pub target_by : List ℕ → Option Target
target_by text = option_map (λ job. record { id = job.0; index = job.1 }) (job_in text)

-- a list has at most 1,024 members
unfoldable pub targets_by : List ℕ → Option (List Target)
targets_by text = few_in target_by text

-- the codes of the states. "JOB STATE CODES" in squeue(1)
abbrev pub states : List (List ℕ × StateCode)
states =
    (codes "PD", Pending) ∷ (codes "R", Running) ∷ (codes "CG", Completing) ∷ (codes "CD", Completed)
    ∷ (codes "CA", Cancelled) ∷ (codes "F", Failed) ∷ (codes "TO", Timeout) ∷ (codes "NF", NodeFail) ∷ []

abbrev pub state_among : List (List ℕ × StateCode) → List ℕ → Option StateCode
state_among [] text = None
state_among (row ∷ rows) text = if bytes_eq text row.0 then Some row.1 else state_among rows text

-- the rows of a table
abbrev pub rows : List (Bor (List ℕ) × StateCode) → List (List ℕ × StateCode)
rows table = map (λ row. (row.0.now, row.1)) table

unfoldable pub state_by : List ℕ → Option StateCode
state_by text = state_among states text

-- all of them, or a list of codes
unfoldable pub states_by : List ℕ → Option (List StateCode)
states_by text =
    if bytes_eq text (codes "all") then Some (map (λ row. row.1) states)
    else few_in state_by text
