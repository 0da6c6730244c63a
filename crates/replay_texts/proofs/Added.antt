-- Jobs whose accounts and users are added, one after the other: what the rest adds behind what was written.
use Rattle.std.proofs.Common.{◌≡◌, ℕ, suc, ◌+◌, ◌<◌, ◌≤◌, List, [], ◌∷◌, ◌++◌, length, drop, get_or, ap, ◌∙◌, sym, append_assoc, arith}
use Rattle.std.proofs.Math.Seq.{drop-cons}
use Rattle.std.proofs.lemmas.List.{append-nil, drop_all}
use Rattle.trace_text.specs.declared.job.TraceJob.{TraceJob}
use Rattle.replay_texts.specs.Adding.{accounts_behind, added, job_lines, users_behind}
use Rattle.replay_texts.specs.declared.known.AccountUser.{AccountUser}

-- what jobs add, behind a text
unfoldable pub added_behind : List ℕ → List (List ℕ) → List AccountUser → List TraceJob → List ℕ
added_behind text accounts users jobs = text ++ added accounts users jobs

added_behind-more : (text : List ℕ) (accounts : List (List ℕ)) (users : List AccountUser) (job : TraceJob) (jobs : List TraceJob)
    → added_behind text accounts users (job ∷ jobs)
    ≡ added_behind (text ++ job_lines accounts users job) (accounts_behind accounts job) (users_behind users job) jobs
unfolding added_behind added
added_behind-more text accounts users job jobs =
    sym (append_assoc text (job_lines accounts users job) (added (accounts_behind accounts job) (users_behind users job) jobs))

added_behind-end : (text : List ℕ) (accounts : List (List ℕ)) (users : List AccountUser) → added_behind text accounts users [] ≡ text
unfolding added_behind added
added_behind-end text accounts users = append-nil text

first_left : (jobs : List TraceJob) (index : ℕ) (job : TraceJob) → index < length jobs → job ≡ get_or jobs index job
    → drop index jobs ≡ job ∷ drop (index + 1) jobs
first_left jobs index job within is =
    let next : index + 1 ≡ suc index = omega arith in
    rw next (drop-cons jobs index job within ∙ ap (λ x. x ∷ drop (suc index) jobs) (sym is))

pub one_added : (jobs : List TraceJob) (index : ℕ) (job : TraceJob) (before after : List ℕ) (accounts more_accounts : List (List ℕ)) (users more_users : List AccountUser) (whole : List ℕ)
    → index < length jobs → job ≡ get_or jobs index job → after ≡ before ++ job_lines accounts users job
    → more_accounts ≡ accounts_behind accounts job → more_users ≡ users_behind users job
    → added_behind before accounts users (drop index jobs) ≡ whole
    → added_behind after more_accounts more_users (drop (index + 1) jobs) ≡ whole
one_added jobs index job before after accounts more_accounts users more_users whole within is after_is accounts_are users_are leads =
    let others = drop (index + 1) jobs in
    ap (λ t. added_behind t more_accounts more_users others) after_is
    ∙ ap (λ a. added_behind (before ++ job_lines accounts users job) a more_users others) accounts_are
    ∙ ap (λ u. added_behind (before ++ job_lines accounts users job) (accounts_behind accounts job) u others) users_are
    ∙ sym (added_behind-more before accounts users job others)
    ∙ ap (added_behind before accounts users) (sym (first_left jobs index job within is)) ∙ leads

pub all_added : (jobs : List TraceJob) (index : ℕ) (text start : List ℕ) (accounts first_accounts : List (List ℕ)) (users first_users : List AccountUser)
    → length jobs ≤ index → added_behind text accounts users (drop index jobs) ≡ added_behind start first_accounts first_users jobs
    → text ≡ start ++ added first_accounts first_users jobs
unfolding added_behind
all_added jobs index text start accounts first_accounts users first_users all leads =
    sym (added_behind-end text accounts users)
    ∙ ap (added_behind text accounts users) (sym (drop_all index jobs all)) ∙ leads
