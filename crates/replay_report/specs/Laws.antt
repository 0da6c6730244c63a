-- What holds of all outcomes.
use Rattle.std.specs.Prelude.{◌≡◌, ◌<◌, ◌≤◌, List, ◌++◌, length, map, All}
use Rattle.reply_data.specs.declared.reply.Reply.{Reply}
use Rattle.trace_text.specs.declared.job.TraceJob.{TraceJob}
use Rattle.trace_text.specs.Laws.{places_handed, places_left}
use Rattle.trace_text.specs.declared.submission.LeftOutJob.{LeftOutJob}
use Rattle.trace_text.specs.declared.submission.Submission.{Submission}
use Rattle.replay_report.specs.Outcomes.{all_outcomes}
use Rattle.replay_report.specs.declared.outcome.JobOutcome.{JobOutcome}

-- each job that was handed in or left out has one outcome, where each submission was answered
abbrev pub EachHasItsOutcome : Type 0
EachHasItsOutcome = (jobs : List TraceJob) (submissions : List Submission) (left_out : List LeftOutJob)
    (replies : List Reply) (shown : Reply)
    → All (λ (submission : Submission). submission.place < length jobs) submissions
    → All (λ (left : LeftOutJob). left.place < length jobs) left_out → length submissions ≤ length replies
    → map (λ (outcome : JobOutcome). outcome.place) (all_outcomes jobs submissions left_out replies shown)
    ≡ places_handed submissions ++ places_left left_out
