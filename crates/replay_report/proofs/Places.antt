-- The places of the jobs that have outcomes.
use Rattle.std.proofs.Common.{◌≡◌, ℕ, zero, suc, ◌+◌, ◌<◌, ◌≤◌, List, [], ◌∷◌, ◌++◌, length, map, Some, refl, ap, ◌∙◌, arith}
use Rattle.std.specs.List.{All, slice_get}
use Rattle.std.proofs.lemmas.List.{map-append}
use Rattle.std.proofs.lemmas.List.Elements.{All-head, All-tail}
use Rattle.reply_data.specs.declared.reply.Reply.{Reply}
use Rattle.reply_data.specs.declared.view.Row.{Row}
use Rattle.trace_text.specs.declared.job.TraceJob.{TraceJob}
use Rattle.trace_text.specs.Laws.{places_handed, places_left}
use Rattle.trace_text.specs.declared.submission.LeftOutJob.{LeftOutJob}
use Rattle.trace_text.specs.declared.submission.Submission.{Submission}
use Rattle.replay_report.specs.Fates.{fate_of}
use Rattle.replay_report.specs.Laws.{EachHasItsOutcome}
use Rattle.replay_report.specs.Outcomes.{handed_told, handed_with, outcome_handed, outcome_left, outcomes_handed, outcomes_left, rows_of, rows_told}
use Rattle.replay_report.specs.declared.outcome.Fate.{Fate}
use Rattle.replay_report.specs.declared.outcome.JobOutcome.{JobOutcome}

found_there : {A : Type 0} (xs : List A) (place : ℕ) → place < length xs → (x : A) × (slice_get xs place ≡ Some x)
found_there [] place within = absurd (omega arith)
found_there (x ∷ xs) zero within = (x, refl)
found_there (x ∷ xs) (suc place) within = found_there xs place (omega arith)

abbrev places_in : List JobOutcome → List ℕ
places_in outcomes = map (λ (outcome : JobOutcome). outcome.place) outcomes

abbrev AreThere : List TraceJob → List Submission → Type 0
AreThere jobs submissions = All (λ (submission : Submission). submission.place < length jobs) submissions

abbrev AreLeftThere : List TraceJob → List LeftOutJob → Type 0
AreLeftThere jobs left_out = All (λ (left : LeftOutJob). left.place < length jobs) left_out

place_handed : (jobs : List TraceJob) (submission : Submission) (fate : Fate) → submission.place < length jobs
    → places_in (handed_with jobs submission fate) ≡ submission.place ∷ []
unfolding outcome_handed
place_handed jobs submission fate within =
    let found = found_there jobs submission.place within in rw found.1 refl

handed_places : (jobs : List TraceJob) (replies : List Reply) (place : ℕ) (submissions : List Submission) (rows : List Row) → AreThere jobs submissions
    → place + length submissions ≤ length replies → places_in (outcomes_handed jobs replies place submissions rows) ≡ places_handed submissions
unfolding outcomes_handed
handed_places jobs replies place [] rows there enough = refl
handed_places jobs replies place (s ∷ ss) rows there enough =
    let told = found_there replies place (omega arith) in
    let rest = outcomes_handed jobs replies (place + 1) ss (rows_told (slice_get replies place) rows) in
    map-append (λ (outcome : JobOutcome). outcome.place) (handed_told jobs s (slice_get replies place) rows) rest
    ∙ ap (λ reply. places_in (handed_told jobs s reply rows) ++ places_in rest) told.1
    ∙ ap (λ ps. ps ++ places_in rest) (place_handed jobs s (fate_of told.0 rows)
    (All-head (λ (submission : Submission). submission.place < length jobs) s ss there))
    ∙ ap (λ ps. s.place ∷ ps) (handed_places jobs replies (place + 1) ss (rows_told (slice_get replies place) rows)
    (All-tail (λ (submission : Submission). submission.place < length jobs) s ss there) (omega arith))

left_places : (jobs : List TraceJob) (left_out : List LeftOutJob) → AreLeftThere jobs left_out
    → places_in (outcomes_left jobs left_out) ≡ places_left left_out
unfolding outcome_left
left_places jobs [] there = refl
left_places jobs (l ∷ ls) there =
    let found = found_there jobs l.place (All-head (λ (left : LeftOutJob). left.place < length jobs) l ls there) in
    rw found.1 (ap (λ ps. l.place ∷ ps) (left_places jobs ls (All-tail (λ (left : LeftOutJob). left.place < length jobs) l ls there)))

pub each_has : EachHasItsOutcome
each_has jobs submissions left_out replies shown there left_there enough =
    map-append (λ (outcome : JobOutcome). outcome.place) (outcomes_handed jobs replies 0 submissions (rows_of shown)) (outcomes_left jobs left_out)
    ∙ ap (λ ps. ps ++ places_in (outcomes_left jobs left_out)) (handed_places jobs replies 0 submissions (rows_of shown) there (omega arith))
    ∙ ap (λ ps. places_handed submissions ++ ps) (left_places jobs left_out left_there)
