-- Passes that take no job out of Running and start none.
use Rattle.std.proofs.Common.{ℕ, ◌≡◌, ◌+◌, ◌∙◌, Bool, true, false, ◌&&◌, not, cond, List, [], ◌∷◌, None, length, map, filter, count_by, sum_by, nat_eq, refl, sym, ap, arith, inl, inr}
use Rattle.std.proofs.lemmas.Bool.{both_ways, cases_Bool, cond_both}
use Rattle.std.proofs.lemmas.Bool.Decides.{nat_tests}
use Rattle.std.proofs.lemmas.List.Sums.{sum_by-cons}
use Rattle.backfill_planner.specs.declared.Placed.{Placed}
use Rattle.request_data.specs.declared.request.Request.{Request}
use Rattle.request_data.specs.declared.request.Request.TheVariants.{Pass}
use Rattle.request_data.specs.declared.state.JobState.{JobState}
use Rattle.request_data.specs.declared.state.JobState.TheVariants.{Pending, Running, Completing, Ended}
use Rattle.request_data.specs.declared.state.Final.TheVariants.{Timeout}
use Rattle.job_table.specs.declared.change.Change.TheVariants.{Leave}
use Rattle.job_table.specs.declared.record.JobRecord.{JobRecord}
use Rattle.job_table.specs.Changes.{changed}
use Rattle.job_table.specs.JobStates.{is_ended, is_running}
use Rattle.ctl_state.specs.State.{State}
use Rattle.ctl_state.specs.Verdicts.{Stays}
use Rattle.ctl_nodes.specs.Failing.{after_loss, loses, off_lost, parts_kept}
use Rattle.ctl_node_side.specs.Passes.{after_pass, ended_by_pass, made_by_pass, pass_is_idle}
use Rattle.ctl_node_side.specs.Silence.{any_silent, failing_count, silenced, silent_at, without_silent}
use Rattle.ctl_pass.specs.Limits.{is_over, timed_out}
use Rattle.ctl_pass.specs.Passing.{outcome}
use Rattle.ctl_pass.specs.Preempting.{preempted, victims_in}
use Rattle.ctl_pass.specs.Readiness.{goes, jobs_left, placements}
use Rattle.ctl_pass.specs.Starting.{Started, begun, may_start, start_of, started}
use Rattle.ctl_core.specs.Step.{raised, reply_of, state_after}
use Rattle.list_lemmas.proofs.Sums.{count-cons}
use Rattle.reply_data.specs.declared.reply.Reply.{Reply}
use Rattle.step_lemmas.proofs.Making.{MakesBy, made_by}
use Rattle.step_lemmas.proofs.Steps.{step_says}
use Rattle.sacct_book.specs.Running.{cpus_run_by}
use Rattle.sacct_book.specs.Requests.{is_still}
use Rattle.sacct_book.proofs.Named.{counts, counts_if, if-fails, if-passes, run-filtered}
use Rattle.sacct_book.proofs.Others.{left-counts}
use Rattle.sacct_book.proofs.Quiet.{IsSame, still-none}

-- ---- starts

-- where none starts the jobs are as they were
none-started : (s : State) (now : ℕ) (jobs : List JobRecord) (plan : List Placed)
    → length (started s now jobs plan).starts ≡ 0 → (started s now jobs plan).jobs ≡ jobs
unfolding started
none-started s now jobs [] none = refl
none-started s now jobs (placed ∷ later) none =
    go (nat_eq placed.start now && may_start s jobs placed.id) none (none-started s now jobs later)
  where
    go : (starts : Bool)
        → length (cond {A = Started} starts
        (record (started s now (begun now jobs (start_of s.nodes jobs placed)) later) { starts = start_of s.nodes jobs placed ∷ (started s now (begun now jobs (start_of s.nodes jobs placed)) later).starts })
        (record (started s now jobs later) { stays = placed ∷ (started s now jobs later).stays })).starts ≡ 0
        → (length (started s now jobs later).starts ≡ 0 → (started s now jobs later).jobs ≡ jobs)
        → (cond {A = Started} starts
        (record (started s now (begun now jobs (start_of s.nodes jobs placed)) later) { starts = start_of s.nodes jobs placed ∷ (started s now (begun now jobs (start_of s.nodes jobs placed)) later).starts })
        (record (started s now jobs later) { stays = placed ∷ (started s now jobs later).stays })).jobs ≡ jobs
    go true none rest = absurd (omega (arith, none))
    go false none rest = rest none

-- ---- limits and old records

-- who has ended doesn't run
ended-still : (state : JobState) → is_ended state ≡ true → is_running state ≡ false
ended-still Pending ended = absurd (both_ways false refl ended)
ended-still Running ended = absurd (both_ways false refl ended)
ended-still (Completing end) ended = refl
ended-still (Ended end) ended = refl

first-none : (test : Bool) (rest : ℕ) → cond test 1 0 + rest ≡ 0 → test ≡ false
first-none true rest none = absurd (omega (arith, none))
first-none false rest none = refl

left-one : (place now : ℕ) (gone : JobRecord → Bool) (job : JobRecord)
    → (gone job ≡ true → is_running job.state ≡ false) → is_over now job ≡ false
    → counts_if (λ one. not (gone one)) place (timed_out now job) ≡ counts place job
left-one place now gone job still off =
    let stays : JobRecord → Bool = λ one. not (gone one) in
    ap (λ b. counts_if stays place (cond b (changed (Leave Timeout now None) job) job)) off
    ∙ elim (cases_Bool (gone job)) [
      | inr kept ↦ if-passes stays place job (ap not kept)
      | inl goes ↦ if-fails stays place job (ap not goes) ∙ sym (still-none place job (still goes))
    ]

left-sum : (place now : ℕ) (gone : JobRecord → Bool) (jobs : List JobRecord)
    → ((job : JobRecord) → gone job ≡ true → is_running job.state ≡ false) → count_by (is_over now) jobs ≡ 0
    → sum_by (counts_if (λ one. not (gone one)) place) (map (timed_out now) jobs) ≡ sum_by (counts place) jobs
left-sum place now gone [] still none = refl
left-sum place now gone (job ∷ jobs) still none =
    let split : cond (is_over now job) 1 0 + count_by (is_over now) jobs ≡ 0 =
    omega (arith, none, count-cons (is_over now) job jobs) in
    omega (
      arith,
      sum_by-cons (counts_if (λ one. not (gone one)) place) (timed_out now job) (map (timed_out now) jobs),
      sum_by-cons (counts place) job jobs,
      left-one place now gone job (still job) (first-none (is_over now job) (count_by (is_over now) jobs) split),
      left-sum place now gone jobs still (omega (arith, split)),
    )

-- where none is over its limit, and those that go don't run
left-same : (place now : ℕ) (gone : JobRecord → Bool) (jobs : List JobRecord)
    → ((job : JobRecord) → gone job ≡ true → is_running job.state ≡ false) → count_by (is_over now) jobs ≡ 0
    → cpus_run_by (filter (λ job. not (gone job)) (map (timed_out now) jobs)) place ≡ cpus_run_by jobs place
unfolding cpus_run_by
left-same place now gone jobs still none =
    run-filtered (λ job. not (gone job)) place (map (timed_out now) jobs) ∙ left-sum place now gone jobs still none

-- who goes has ended
gone-still : (s : State) (now : ℕ) (job : JobRecord) → goes s now job ≡ true → is_running job.state ≡ false
gone-still s now job gone = ended-still job.state (first (is_ended job.state) _ _ gone)
  where
    first : (ended old left : Bool) → ((ended && old) && left) ≡ true → ended ≡ true
    first ended old left on = grind arith

-- ---- silent nodes

lost-one : (place now : ℕ) (lost : ℕ → Bool) (job : JobRecord) (state : JobState) → job.state ≡ state
    → loses lost job ≡ true → (is_running job.state && loses lost job) ≡ false
    → counts place (off_lost now lost job state) ≡ counts place job
lost-one place now lost job Pending is some none = refl
lost-one place now lost job Running is some none =
    absurd (both_ways (loses lost job) (sym (ap (λ b. b && loses lost job) (ap is_running is)) ∙ none) some)
lost-one place now lost job (Completing end) is some none =
    left-counts place now end (parts_kept lost job.parts) job is ∙ sym (still-none place job (ap is_running is))
lost-one place now lost job (Ended end) is some none = refl

lost-sum : (place now : ℕ) (lost : ℕ → Bool) (jobs : List JobRecord)
    → count_by (λ (job : JobRecord). is_running job.state && loses lost job) jobs ≡ 0
    → sum_by (counts place) (map (after_loss now lost) jobs) ≡ sum_by (counts place) jobs
lost-sum place now lost [] none = refl
lost-sum place now lost (job ∷ jobs) none =
    let fails : JobRecord → Bool = λ (one : JobRecord). is_running one.state && loses lost one in
    let split : cond (fails job) 1 0 + count_by fails jobs ≡ 0 = omega (arith, none, count-cons fails job jobs) in
    let same : counts place (after_loss now lost job) ≡ counts place job =
    cond_both (loses lost job) (off_lost now lost job job.state) job
    (λ (after : JobRecord). counts place after ≡ counts place job)
    (λ some. lost-one place now lost job job.state refl some (first-none (fails job) (count_by fails jobs) split))
    (λ not. refl) in
    omega (
      arith,
      sum_by-cons (counts place) (after_loss now lost job) (map (after_loss now lost) jobs),
      sum_by-cons (counts place) job jobs,
      same,
      lost-sum place now lost jobs (omega (arith, split)),
    )

silenced-same : (s : State) (now place : ℕ) → failing_count s now ≡ 0
    → cpus_run_by (silenced s now).jobs place ≡ cpus_run_by s.jobs place
unfolding cpus_run_by
silenced-same s now place none =
    cond_both (any_silent s now) (without_silent s now) s (λ (t : State). cpus_run_by t.jobs place ≡ cpus_run_by s.jobs place)
    (λ some. lost-sum place now (silent_at s now) s.jobs none) (λ not. refl)

-- ---- whole passes

-- where nobody goes for another the jobs are as they were
none-gone : (now : ℕ) (gone : List ℕ) (jobs : List JobRecord) → length gone ≡ 0
    → map (preempted now gone) jobs ≡ jobs
none-gone now [] [] none = refl
none-gone now [] (job ∷ jobs) none = ap (λ (rest : List JobRecord). job ∷ rest) (none-gone now [] jobs none)
none-gone now (id ∷ gone) jobs none = absurd (omega (arith, none))

pass-same : (s : State) (now place : ℕ) → ended_by_pass s now ≡ 0
    → length (outcome (silenced s now) now).starts ≡ 0
    → cpus_run_by (after_pass s now).jobs place ≡ cpus_run_by s.jobs place
pass-same s now place ended starts =
    let t = silenced s now in
    ap (λ some. cpus_run_by some place)
    (none-gone now (victims_in t now) (outcome t now).jobs (omega (arith, ended))
    ∙ none-started t now (jobs_left t now) (placements t now) starts)
    ∙ left-same place now (goes t now) t.jobs (gone-still t now) (omega (arith, ended))
    ∙ silenced-same s now place (omega (arith, ended))

-- a pass that was answered so leaves what the running jobs of each association hold
abbrev StillBy : ℕ → State → Reply → State → Type 0
StillBy place s reply after = is_still Pass reply ≡ true → IsSame place s after

made-still : (place : ℕ) (s : State) (now : ℕ) → MakesBy (StillBy place s) (made_by_pass s now)
made-still place s now =
    cond_both (pass_is_idle s now) Stays _ (MakesBy (StillBy place s)) (λ idle. tt)
    (λ busy on.
    let none = both (ended_by_pass s now) (length (outcome (silenced s now) now).starts) on in
    pass-same s now place none.0 none.1)
  where
    both : (ended starts : ℕ) → (nat_eq ended 0 && nat_eq starts 0) ≡ true → (ended ≡ 0) × (starts ≡ 0)
    both ended starts on = grind (arith, nat_tests)

still-same : (s : State) (now : ℕ) (user : List ℕ) (place : ℕ) → StillBy place s (reply_of s now user Pass) (state_after s now user Pass)
still-same s now user place =
    step_says (StillBy place s) s now user Pass (λ refusal on. refl) (λ view on. refl) (λ idle on. refl)
    (λ reply after is enters. made_by (StillBy place s) (made-still place s (raised s now)) is.makes)
    (λ reply after is not on. refl)

-- An entry that is such a pass leaves what the running jobs of each association hold.
pub still-any : (s : State) (now : ℕ) (user : List ℕ) (request : Request) (place : ℕ)
    → is_still request (reply_of s now user request) ≡ true
    → cpus_run_by (state_after s now user request).jobs place ≡ cpus_run_by s.jobs place
still-any s now user Pass place still = still-same s now user place still
still-any s now user request place still = absurd (both_ways false refl still)
