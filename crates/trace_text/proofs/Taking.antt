-- The jobs of a trace, taken one after the other: what the rest gives behind what was taken.
use Rattle.std.proofs.Common.{◌≡◌, ℕ, suc, ◌+◌, ◌<◌, ◌≤◌, List, [], ◌∷◌, ◌++◌, length, drop, get_or, refl, ap, ◌∙◌, sym, append_assoc, arith}
use Rattle.std.proofs.Math.Seq.{drop-cons}
use Rattle.std.proofs.lemmas.List.{append-nil, drop_all}
use Rattle.trace_text.specs.declared.job.TraceJob.{TraceJob}
use Rattle.trace_text.specs.Handing.{all_handed, all_left, handed, left, submission_of}
use Rattle.trace_text.specs.declared.submission.LeftOutJob.{LeftOutJob}
use Rattle.trace_text.specs.declared.submission.Submission.{Submission}
use Rattle.trace_text.specs.declared.submission.TakenNames.{TakenNames}

-- what the jobs from a place on give, behind what was taken before
unfoldable pub handed_behind : List Submission → TakenNames → ℕ → List TraceJob → List Submission
handed_behind before taken place jobs = before ++ all_handed taken place jobs

unfoldable pub left_behind : List LeftOutJob → TakenNames → ℕ → List TraceJob → List LeftOutJob
left_behind before taken place jobs = before ++ all_left taken place jobs

pub handed_behind-none : (taken : TakenNames) (place : ℕ) (jobs : List TraceJob) → handed_behind [] taken place jobs ≡ all_handed taken place jobs
unfolding handed_behind
handed_behind-none taken place jobs = refl

pub handed_behind-end : (before : List Submission) (taken : TakenNames) (place : ℕ) → handed_behind before taken place [] ≡ before
unfolding handed_behind all_handed
handed_behind-end before taken place = append-nil before

pub handed_behind-more : (before : List Submission) (taken : TakenNames) (place : ℕ) (job : TraceJob) (jobs : List TraceJob)
    → handed_behind before taken place (job ∷ jobs) ≡ handed_behind (before ++ handed (submission_of taken place job)) taken (place + 1) jobs
unfolding handed_behind all_handed
handed_behind-more before taken place job jobs = sym (append_assoc before (handed (submission_of taken place job)) (all_handed taken (place + 1) jobs))

pub left_behind-none : (taken : TakenNames) (place : ℕ) (jobs : List TraceJob) → left_behind [] taken place jobs ≡ all_left taken place jobs
unfolding left_behind
left_behind-none taken place jobs = refl

pub left_behind-end : (before : List LeftOutJob) (taken : TakenNames) (place : ℕ) → left_behind before taken place [] ≡ before
unfolding left_behind all_left
left_behind-end before taken place = append-nil before

pub left_behind-more : (before : List LeftOutJob) (taken : TakenNames) (place : ℕ) (job : TraceJob) (jobs : List TraceJob)
    → left_behind before taken place (job ∷ jobs) ≡ left_behind (before ++ left place (submission_of taken place job)) taken (place + 1) jobs
unfolding left_behind all_left
left_behind-more before taken place job jobs = sym (append_assoc before (left place (submission_of taken place job)) (all_left taken (place + 1) jobs))

-- the first of the jobs that are left
first_left : (jobs : List TraceJob) (place : ℕ) (job : TraceJob) → place < length jobs → job ≡ get_or jobs place job
    → drop place jobs ≡ job ∷ drop (place + 1) jobs
first_left jobs place job within is =
    let next : place + 1 ≡ suc place = omega arith in
    rw next (drop-cons jobs place job within ∙ ap (λ x. x ∷ drop (suc place) jobs) (sym is))

pub one_handed : (taken : TakenNames) (jobs : List TraceJob) (place : ℕ) (job : TraceJob) (before after whole : List Submission)
    → place < length jobs → job ≡ get_or jobs place job → after ≡ before ++ handed (submission_of taken place job)
    → handed_behind before taken place (drop place jobs) ≡ whole
    → handed_behind after taken (place + 1) (drop (place + 1) jobs) ≡ whole
one_handed taken jobs place job before after whole within is one leads =
    let others = drop (place + 1) jobs in
    ap (λ b. handed_behind b taken (place + 1) others) one ∙ sym (handed_behind-more before taken place job others)
    ∙ ap (handed_behind before taken place) (sym (first_left jobs place job within is)) ∙ leads

pub one_left : (taken : TakenNames) (jobs : List TraceJob) (place : ℕ) (job : TraceJob) (before after whole : List LeftOutJob)
    → place < length jobs → job ≡ get_or jobs place job → after ≡ before ++ left place (submission_of taken place job)
    → left_behind before taken place (drop place jobs) ≡ whole
    → left_behind after taken (place + 1) (drop (place + 1) jobs) ≡ whole
one_left taken jobs place job before after whole within is one leads =
    let others = drop (place + 1) jobs in
    ap (λ b. left_behind b taken (place + 1) others) one ∙ sym (left_behind-more before taken place job others)
    ∙ ap (left_behind before taken place) (sym (first_left jobs place job within is)) ∙ leads

pub all_were_handed : (taken : TakenNames) (jobs : List TraceJob) (place : ℕ) (before whole : List Submission)
    → length jobs ≤ place → handed_behind before taken place (drop place jobs) ≡ whole → before ≡ whole
all_were_handed taken jobs place before whole all leads =
    sym (handed_behind-end before taken place) ∙ ap (handed_behind before taken place) (sym (drop_all place jobs all)) ∙ leads

pub all_were_left : (taken : TakenNames) (jobs : List TraceJob) (place : ℕ) (before whole : List LeftOutJob)
    → length jobs ≤ place → left_behind before taken place (drop place jobs) ≡ whole → before ≡ whole
all_were_left taken jobs place before whole all leads =
    sym (left_behind-end before taken place) ∙ ap (left_behind before taken place) (sym (drop_all place jobs all)) ∙ leads

pub ruleset taking = (handed_behind-none, handed_behind-end, handed_behind-more, left_behind-none, left_behind-end, left_behind-more)
