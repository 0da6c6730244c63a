-- Submissions taken one after the other: what the rest gives behind what was taken.
use Rattle.std.proofs.Common.{◌≡◌, ℕ, suc, ◌+◌, ◌<◌, ◌≤◌, List, [], ◌∷◌, ◌++◌, length, drop, get_or, ap, ◌∙◌, sym, append_assoc, arith}
use Rattle.std.specs.List.{slice_get}
use Rattle.std.specs.Prelude.{Option}
use Rattle.std.proofs.Math.Seq.{drop-cons}
use Rattle.std.proofs.lemmas.List.{append-nil, drop_all}
use Rattle.reply_data.specs.declared.reply.Reply.{Reply}
use Rattle.reply_data.specs.declared.view.Row.{Row}
use Rattle.trace_text.specs.declared.job.TraceJob.{TraceJob}
use Rattle.trace_text.specs.declared.submission.Submission.{Submission}
use Rattle.replay_report.specs.Outcomes.{handed_told, outcomes_handed, rows_told}
use Rattle.replay_report.specs.declared.outcome.JobOutcome.{JobOutcome}

-- what the submissions from a place on give, behind what was taken before
unfoldable pub handed_behind : List JobOutcome → List TraceJob → List Reply → ℕ → List Submission → List Row → List JobOutcome
handed_behind before jobs replies place submissions rows = before ++ outcomes_handed jobs replies place submissions rows

pub handed_behind-end : (before : List JobOutcome) (jobs : List TraceJob) (replies : List Reply) (place : ℕ) (rows : List Row)
    → handed_behind before jobs replies place [] rows ≡ before
unfolding handed_behind outcomes_handed
handed_behind-end before jobs replies place rows = append-nil before

pub handed_behind-more : (before : List JobOutcome) (jobs : List TraceJob) (replies : List Reply) (place : ℕ) (s : Submission) (ss : List Submission) (rows : List Row)
    → handed_behind before jobs replies place (s ∷ ss) rows
    ≡ handed_behind (before ++ handed_told jobs s (slice_get replies place) rows) jobs replies (place + 1) ss (rows_told (slice_get replies place) rows)
unfolding handed_behind outcomes_handed
handed_behind-more before jobs replies place s ss rows =
    sym (append_assoc before (handed_told jobs s (slice_get replies place) rows)
    (outcomes_handed jobs replies (place + 1) ss (rows_told (slice_get replies place) rows)))

first_left : (submissions : List Submission) (place : ℕ) (submission : Submission) → place < length submissions
    → submission ≡ get_or submissions place submission → drop place submissions ≡ submission ∷ drop (place + 1) submissions
first_left submissions place submission within is =
    let next : place + 1 ≡ suc place = omega arith in
    rw next (drop-cons submissions place submission within ∙ ap (λ x. x ∷ drop (suc place) submissions) (sym is))

pub one_handed : (jobs : List TraceJob) (replies : List Reply) (submissions : List Submission) (place : ℕ) (submission : Submission)
    (reply : Option Reply) (left behind : List Row) (before after whole : List JobOutcome)
    → place < length submissions → submission ≡ get_or submissions place submission → reply ≡ slice_get replies place
    → behind ≡ rows_told reply left → after ≡ before ++ handed_told jobs submission reply left
    → handed_behind before jobs replies place (drop place submissions) left ≡ whole
    → handed_behind after jobs replies (place + 1) (drop (place + 1) submissions) behind ≡ whole
one_handed jobs replies submissions place submission reply left behind before after whole within is told behind_is one leads =
    let rest = drop (place + 1) submissions in
    ap (λ b. handed_behind b jobs replies (place + 1) rest behind) one
    ∙ ap (λ r. handed_behind (before ++ handed_told jobs submission reply left) jobs replies (place + 1) rest r) behind_is
    ∙ ap (λ r. handed_behind (before ++ handed_told jobs submission r left) jobs replies (place + 1) rest (rows_told r left)) told
    ∙ sym (handed_behind-more before jobs replies place submission rest left)
    ∙ ap (λ s. handed_behind before jobs replies place s left) (sym (first_left submissions place submission within is)) ∙ leads

pub all_handed : (jobs : List TraceJob) (replies : List Reply) (submissions : List Submission) (place : ℕ) (left rows : List Row) (before start : List JobOutcome)
    → length submissions ≤ place
    → handed_behind before jobs replies place (drop place submissions) left ≡ handed_behind start jobs replies 0 submissions rows
    → before ≡ start ++ outcomes_handed jobs replies 0 submissions rows
unfolding handed_behind
all_handed jobs replies submissions place left rows before start all leads =
    sym (handed_behind-end before jobs replies place left)
    ∙ ap (λ s. handed_behind before jobs replies place s left) (sym (drop_all place submissions all)) ∙ leads

pub ruleset handing = (handed_behind-end, handed_behind-more)
