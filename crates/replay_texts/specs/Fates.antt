-- What became of a job, in words.
use Rattle.std.specs.Prelude.{ℕ, List, ◌++◌, Option, Some, codes}
use Rattle.request_data.specs.declared.state.Final.{Final}
use Rattle.request_data.specs.declared.state.Final.TheVariants.{Completed, Cancelled, Failed, Timeout, NodeFail, Requeue}
use Rattle.request_data.specs.declared.state.JobState.{JobState}
use Rattle.request_data.specs.declared.state.JobState.TheVariants.{Pending, Running, Completing, Ended}
use Rattle.reply_data.specs.declared.refusal.Refusal.{Refusal}
use Rattle.reply_data.specs.declared.refusal.Refusal.TheVariants.{PartitionClosed, InvalidAccount, InvalidPartition, InvalidQos, NodesNotAvailable, NotAllowedHere, SubmitLimit, JobTableFull, HistoryFull}
use Rattle.trace_text.specs.declared.submission.LeftOut.{LeftOut as Reason}
use Rattle.trace_text.specs.declared.submission.LeftOut.TheVariants.{NoSubmit, NoUser, NoRun, OutOfRange}
use Rattle.replay_report.specs.declared.outcome.Fate.{Fate}
use Rattle.replay_report.specs.declared.outcome.Fate.TheVariants.{Ran, Waits, Forgotten, Refused, LeftOut}
use Rattle.replay_texts.specs.Values.{known, names_text, wait_known}

abbrev pub final_word : Final → List ℕ
final_word Completed = codes "COMPLETED"
final_word Cancelled = codes "CANCELLED"
final_word Failed = codes "FAILED"
final_word Timeout = codes "TIMEOUT"
final_word NodeFail = codes "NODE_FAIL"
final_word Requeue = codes "REQUEUED"

abbrev pub state_word : JobState → List ℕ
state_word Pending = codes "PENDING"
state_word Running = codes "RUNNING"
state_word (Completing last) = codes "COMPLETING"
state_word (Ended last) = final_word last

-- why a submission was refused; what no submission without a dependency, an array or a reservation meets has one word
abbrev pub refused_word : Refusal → List ℕ
refused_word PartitionClosed = codes "PartitionClosed"
refused_word InvalidAccount = codes "InvalidAccount"
refused_word InvalidPartition = codes "InvalidPartition"
refused_word InvalidQos = codes "InvalidQos"
refused_word NodesNotAvailable = codes "NodesNotAvailable"
refused_word NotAllowedHere = codes "NotAllowedHere"
refused_word (SubmitLimit which limit) = codes "SubmitLimit"
refused_word JobTableFull = codes "JobTableFull"
refused_word HistoryFull = codes "HistoryFull"
refused_word other = codes "Refused"

abbrev pub left_word : Reason → List ℕ
left_word NoSubmit = codes "NoSubmit"
left_word NoUser = codes "NoUser"
left_word NoRun = codes "NoRun"
left_word OutOfRange = codes "OutOfRange"

-- start, end and wait here, the nodes, and a word
abbrev pub here_text : Option ℕ → Option ℕ → Option ℕ → List (List ℕ) → List ℕ → List ℕ
here_text submit start end nodes word =
    known start ++ known end ++ known (wait_known submit start) ++ names_text nodes ++ codes "," ++ word

-- a word behind fields that are empty
abbrev pub word_text : List ℕ → List ℕ
word_text word = codes ",,,,," ++ word

-- what became of a job that was handed in then
abbrev pub fate_text : Option ℕ → Fate → List ℕ
fate_text submit (Ran run) = here_text submit (Some run.start) (Some run.end) run.nodes (final_word run.last)
fate_text submit (Waits standing) =
    here_text submit standing.start standing.end standing.nodes (state_word standing.state)
fate_text submit Forgotten = word_text (codes "UNKNOWN")
fate_text submit (Refused refusal) = word_text (refused_word refusal)
fate_text submit (LeftOut reason) = word_text (left_word reason)
