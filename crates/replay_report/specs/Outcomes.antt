-- The outcomes of the jobs of a trace, in the order in which they are told.
use Rattle.std.specs.Prelude.{ℕ, ◌+◌, List, [], ◌∷◌, ◌++◌, Option, Some, None, filter_map, slice_get, option_map, option_to_list}
use Rattle.reply_data.specs.declared.reply.Reply.{Reply}
use Rattle.reply_data.specs.declared.reply.Reply.TheVariants.{Shown}
use Rattle.reply_data.specs.declared.view.Row.{Row}
use Rattle.trace_text.specs.declared.job.TraceJob.{TraceJob}
use Rattle.trace_text.specs.declared.submission.LeftOutJob.{LeftOutJob}
use Rattle.trace_text.specs.declared.submission.Submission.{Submission}
use Rattle.replay_report.specs.Fates.{fate_of, rows_behind}
use Rattle.replay_report.specs.declared.outcome.Fate.{Fate}
use Rattle.replay_report.specs.declared.outcome.Fate.TheVariants.{LeftOut}
use Rattle.replay_report.specs.declared.outcome.JobOutcome.{JobOutcome}

-- the outcome of a job that was handed in
unfoldable pub outcome_handed : TraceJob → Submission → Fate → JobOutcome
outcome_handed job submission fate = record {
  place = submission.place;
  id = job.id;
  times = job.times;
  names = job.names;
  processors = submission.desc.tasks;
  nodes = submission.desc.min_nodes;
  fate = fate;
}

-- and of one that was left out
unfoldable pub outcome_left : TraceJob → LeftOutJob → JobOutcome
outcome_left job left = record {
  place = left.place;
  id = job.id;
  times = job.times;
  names = job.names;
  processors = 0;
  nodes = 0;
  fate = LeftOut left.reason;
}

-- the outcome of the job at the place of a submission, where the trace has one there
abbrev pub handed_found : List TraceJob → Submission → Fate → Option JobOutcome
handed_found jobs submission fate =
    option_map (λ job. outcome_handed job submission fate) (slice_get jobs submission.place)

abbrev pub handed_with : List TraceJob → Submission → Fate → List JobOutcome
handed_with jobs submission fate = option_to_list (handed_found jobs submission fate)

abbrev pub left_with : List TraceJob → LeftOutJob → Option JobOutcome
left_with jobs left = option_map (λ job. outcome_left job left) (slice_get jobs left.place)

-- the outcome of a submission that was told this, and what is left of the records behind it
abbrev pub handed_told : List TraceJob → Submission → Option Reply → List Row → List JobOutcome
handed_told jobs submission (Some reply) rows = handed_with jobs submission (fate_of reply rows)
handed_told jobs submission None rows = []

abbrev pub rows_told : Option Reply → List Row → List Row
rows_told (Some reply) rows = rows_behind reply rows
rows_told None rows = rows

-- the outcomes of the submissions from a place on, to which the replies at their places were given
unfoldable pub outcomes_handed : List TraceJob → List Reply → ℕ → List Submission → List Row → List JobOutcome
outcomes_handed jobs replies place [] rows = []
outcomes_handed jobs replies place (submission ∷ submissions) rows =
    handed_told jobs submission (slice_get replies place) rows
    ++ outcomes_handed jobs replies (place + 1) submissions (rows_told (slice_get replies place) rows)

-- the outcomes of what was left out, in the order of the trace
abbrev pub outcomes_left : List TraceJob → List LeftOutJob → List JobOutcome
outcomes_left jobs left_out = filter_map (left_with jobs) left_out

-- the records that a reply shows
abbrev pub rows_of : Reply → List Row
rows_of (Shown view) = view.rows
rows_of reply = []

-- all outcomes: first those of the jobs that were handed in, in this order, then those that were left out
abbrev pub all_outcomes : List TraceJob → List Submission → List LeftOutJob → List Reply → Reply → List JobOutcome
all_outcomes jobs submissions left_out replies shown =
    outcomes_handed jobs replies 0 submissions (rows_of shown) ++ outcomes_left jobs left_out
