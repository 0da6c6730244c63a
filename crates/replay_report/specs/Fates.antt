-- What became of a job of a trace, by what its user was told and by the records that the controller shows at the end.
use Rattle.std.specs.Prelude.{ℕ, nat_eq, if◌then◌else◌, List, [], ◌∷◌, Option, Some, None, is_some}
use Rattle.request_data.specs.declared.state.Final.{Final}
use Rattle.request_data.specs.declared.state.JobState.{JobState}
use Rattle.request_data.specs.declared.state.JobState.TheVariants.{Ended}
use Rattle.reply_data.specs.declared.reply.Reply.{Reply}
use Rattle.reply_data.specs.declared.reply.Reply.TheVariants as reply
use Rattle.reply_data.specs.declared.view.EndAt.{EndAt}
use Rattle.reply_data.specs.declared.view.EndAt.TheVariants.{At, Nothing, Unknown}
use Rattle.reply_data.specs.declared.view.JobRow.{JobRow}
use Rattle.reply_data.specs.declared.view.Row.{Row}
use Rattle.reply_data.specs.declared.view.Row.TheVariants.{Job}
use Rattle.replay_report.specs.declared.outcome.Fate.{Fate}
use Rattle.replay_report.specs.declared.outcome.Fate.TheVariants.{Ran, Waits, Forgotten, Refused}
use Rattle.replay_report.specs.declared.outcome.RunSeen.{RunSeen}

abbrev pub end_of : EndAt → Option ℕ
end_of (At second) = Some second
end_of Nothing = None
end_of Unknown = None

abbrev pub ended_of : JobState → Option Final
ended_of (Ended last) = Some last
ended_of state = None

-- a job has run that has ended, and has a start and an end
abbrev pub run_seen : Option Final → Option ℕ → Option ℕ → Option RunSeen
run_seen (Some last) (Some start) (Some end) = Some (record { start = start; end = end; last = last })
run_seen (Some last) (Some start) None = None
run_seen (Some last) None end = None
run_seen None start end = None

-- its run, or else what its record shows
abbrev pub fate_seen : Option RunSeen → JobRow → Fate
fate_seen (Some seen) row =
    Ran (record { start = seen.start; end = seen.end; last = seen.last; nodes = row.node_names })
fate_seen None row =
    Waits (record { state = row.state; start = row.start; end = end_of row.end; nodes = row.node_names })

unfoldable pub fate_of_row : JobRow → Fate
fate_of_row row = fate_seen (run_seen (ended_of row.state) row.start (end_of row.end)) row

-- the record of a row, where it is of the job of this number
abbrev pub job_numbered : ℕ → Row → Option JobRow
job_numbered number (Job row) = if nat_eq row.id number then Some row else None
job_numbered number row = None

-- the first record, where it is of that job
abbrev pub record_of : List Row → ℕ → Option JobRow
record_of [] number = None
record_of (row ∷ rows) number = job_numbered number row

-- and what is left of the records behind it
abbrev pub rows_left : List Row → ℕ → List Row
rows_left [] number = []
rows_left (row ∷ rows) number = if is_some (job_numbered number row) then rows else row ∷ rows

abbrev pub fate_shown : Option JobRow → Fate
fate_shown (Some row) = fate_of_row row
fate_shown None = Forgotten

-- The fate of a job whose user was told this. Jobs get their numbers in the order in which they are handed in, and the
-- records are in the order of their numbers: so a job's record is the first that is left, or it has none.
abbrev pub fate_of : Reply → List Row → Fate
fate_of (reply.Submitted id) rows = fate_shown (record_of rows id)
fate_of (reply.Refused refusal) rows = Refused refusal
fate_of other rows = Forgotten

-- the records that are left behind it
abbrev pub rows_behind : Reply → List Row → List Row
rows_behind (reply.Submitted id) rows = rows_left rows id
rows_behind other rows = rows
