-- What the running jobs hold that are named.
use Rattle.std.proofs.Common.{◌≡◌, ℕ, ◌+◌, ◌-◌, ◌^◌, ◌≤◌, ◌<◌, Bool, true, false, ◌&&◌, ◌||◌, not, cond, min, List, [], ◌∷◌, ◌++◌, length, take, filter, sum_by, get_or, nat_eq, refl, sym, ap, ◌∙◌, arith, inl, inr}
use Rattle.std.proofs.lemmas.Bool.{cases_Bool}
use Rattle.std.proofs.lemmas.List.{take_more}
use Rattle.std.proofs.lemmas.List.Filters.{sum_by-filter_both}
use Rattle.std.proofs.lemmas.List.Folds.{list_any-append}
use Rattle.std.proofs.lemmas.List.Sums.{sum_by-cons, sum_by_more}
use Rattle.request_data.specs.declared.target.Target.{Target}
use Rattle.job_table.specs.declared.record.JobRecord.{JobRecord}
use Rattle.job_table.specs.Targets.{is_named}
use Rattle.ctl_jobs.specs.Changing.{are_naming}
use Rattle.list_lemmas.proofs.Filters.{filter-nothing}
use Rattle.list_lemmas.proofs.Sums.{sum_by-add, sum_by-same}
use Rattle.sacct_book.specs.declared.running.Way.{Way}
use Rattle.sacct_book.specs.declared.running.Way.TheVariants.{More, Fewer}
use Rattle.sacct_book.specs.Naming.{is_named_first, run_by_named, run_by_others}
use Rattle.sacct_book.specs.Running.{counted, cpus_run_by, cpus_running}

-- ---- counts

pub counted-none : (way : Way) (count : ℕ) → count ≤ 2 ^ 64 - 1 → count ≡ counted way count 0
counted-none More count small = omega (arith, small)
counted-none Fewer count small = omega arith

pub counted-on : (way : Way) (count first second : ℕ)
    → counted way (counted way count first) second ≡ counted way count (first + second)
counted-on More count first second = omega arith
counted-on Fewer count first second = omega arith

-- one more job
pub counted-more : (way : Way) (own : Bool) (old was now holds cpus sum more : ℕ) → old ≤ 2 ^ 64 - 1
    → was ≡ counted way old sum → cpus ≡ min holds (2 ^ 64 - 1) → now ≡ counted way was (cond own cpus 0)
    → more ≡ sum + cond own holds 0 → now ≡ counted way old more
counted-more More true old was now holds cpus sum more small before held after is = omega (arith, before, held, after, is)
counted-more More false old was now holds cpus sum more small before held after is = omega (arith, before, after, is)
counted-more Fewer true old was now holds cpus sum more small before held after is =
    omega (arith, small, before, held, after, is)
counted-more Fewer false old was now holds cpus sum more small before held after is = omega (arith, before, after, is)

-- ---- sums over the jobs that pass a test

-- what counts of a job for the association at a place
abbrev pub counts : ℕ → JobRecord → ℕ
counts place job = cond (nat_eq job.assoc place) (cpus_running job) 0

-- where it passes a test
abbrev pub counts_if : (JobRecord → Bool) → ℕ → JobRecord → ℕ
counts_if test place job = cond (nat_eq job.assoc place) (cond (test job) (cpus_running job) 0) 0

pub if-passes : (test : JobRecord → Bool) (place : ℕ) (job : JobRecord) → test job ≡ true
    → counts_if test place job ≡ counts place job
if-passes test place job on = rw on refl

pub if-fails : (test : JobRecord → Bool) (place : ℕ) (job : JobRecord) → test job ≡ false → counts_if test place job ≡ 0
if-fails test place job off = none (nat_eq job.assoc place) (test job) (cpus_running job) off
  where
    none : (own passes : Bool) (held : ℕ) → passes ≡ false → cond own (cond passes held 0) 0 ≡ 0
    none own passes held off = grind arith

pub run-filtered : (test : JobRecord → Bool) (place : ℕ) (jobs : List JobRecord)
    → cpus_run_by (filter test jobs) place ≡ sum_by (counts_if test place) jobs
unfolding cpus_run_by
run-filtered test place [] = refl
run-filtered test place (job ∷ jobs) = step (run-filtered test place jobs) (test job) refl
  where
    step : cpus_run_by (filter test jobs) place ≡ sum_by (counts_if test place) jobs → (passes : Bool)
        → test job ≡ passes
        → cpus_run_by (cond passes (job ∷ filter test jobs) (filter test jobs)) place
        ≡ sum_by (counts_if test place) (job ∷ jobs)
    step rest true on =
        omega (
          arith,
          sum_by-cons (counts place) job (filter test jobs),
          sum_by-cons (counts_if test place) job jobs,
          if-passes test place job on,
          rest,
        )
    step rest false off =
        omega (arith, sum_by-cons (counts_if test place) job jobs, if-fails test place job off, rest)

-- a sum in which only those count that pass a test
only-passing : (test : JobRecord → Bool) (f : JobRecord → ℕ) (jobs : List JobRecord)
    → ((job : JobRecord) → test job ≡ false → f job ≡ 0) → sum_by f jobs ≡ sum_by f (filter test jobs)
only-passing test f [] none = refl
only-passing test f (job ∷ jobs) none = elim (cases_Bool (test job)) [
  | inr off ↦ rw off (omega (arith, sum_by-cons f job jobs, none job off, only-passing test f jobs none))
  | inl on ↦ rw on (omega (arith, sum_by-cons f job jobs, sum_by-cons f job (filter test jobs), only-passing test f jobs none))
]

-- ---- one target

-- one more job of those that are counted
pub span-more : (way : Way) (test : JobRecord → Bool) (place : ℕ) (span : List JobRecord) (i : ℕ) (job : JobRecord)
    → i < length span → job ≡ get_or span i job → (old was now cpus : ℕ) → old ≤ 2 ^ 64 - 1
    → was ≡ counted way old (cpus_run_by (filter test (take i span)) place)
    → cpus ≡ min (cond (test job) (cpus_running job) 0) (2 ^ 64 - 1)
    → now ≡ counted way was (cond (nat_eq job.assoc place) cpus 0)
    → now ≡ counted way old (cpus_run_by (filter test (take (i + 1) span)) place)
span-more way test place span i job inside is old was now cpus small before held after =
    let more : sum_by (counts_if test place) (take (i + 1) span)
    ≡ sum_by (counts_if test place) (take i span) + counts_if test place job =
    rw (sym is) at (sum_by_more (counts_if test place) span i job inside) in
    counted-more way (nat_eq job.assoc place) old was now (cond (test job) (cpus_running job) 0) cpus
    (cpus_run_by (filter test (take i span)) place) (cpus_run_by (filter test (take (i + 1) span)) place) small before held
    after
    (run-filtered test place (take (i + 1) span) ∙ more
    ∙ ap (λ n. n + counts_if test place job) (sym (run-filtered test place (take i span))))

-- those among which all are that the target names hold what all hold that it names
pub run-span : (target : Target) (before : List Target) (place : ℕ) (span jobs : List JobRecord)
    → filter (is_named target) span ≡ filter (is_named target) jobs
    → cpus_run_by (filter (is_named_first before target) span) place
    ≡ cpus_run_by (filter (is_named_first before target) jobs) place
run-span target before place span jobs same =
    let first = is_named_first before target in
    let none : (job : JobRecord) → is_named target job ≡ false → counts_if first place job ≡ 0 =
    λ job off. if-fails first place job (ap (λ named. named && not (are_naming before job)) off) in
    run-filtered first place span
    ∙ only-passing (is_named target) (counts_if first place) span none
    ∙ ap (sum_by (counts_if first place)) same
    ∙ sym (only-passing (is_named target) (counts_if first place) jobs none)
    ∙ sym (run-filtered first place jobs)

-- ---- all targets

pub named-none : (jobs : List JobRecord) (place : ℕ) → run_by_named [] jobs place ≡ 0
unfolding cpus_run_by
named-none jobs place = ap (λ some. cpus_run_by some place) (filter-nothing jobs)

-- what is named by some more is what they name, and what is named first by the next
either : (place : ℕ) (more named first : JobRecord → Bool) (jobs : List JobRecord)
    → ((job : JobRecord) → counts_if more place job ≡ counts_if named place job + counts_if first place job)
    → sum_by (counts_if more place) jobs ≡ sum_by (counts_if named place) jobs + sum_by (counts_if first place) jobs
either place more named first jobs each =
    sum_by-same (counts_if more place) (λ job. counts_if named place job + counts_if first place job) jobs
    (λ k d below. each (get_or jobs k d))
    ∙ sum_by-add (counts_if named place) (counts_if first place) jobs

pub named-more : (targets : List Target) (d : Target) (n : ℕ) (jobs : List JobRecord) (place : ℕ) → n < length targets
    → run_by_named (take (n + 1) targets) jobs place
    ≡ run_by_named (take n targets) jobs place
    + cpus_run_by (filter (is_named_first (take n targets) (get_or targets n d)) jobs) place
named-more targets d n jobs place inside =
    let before = take n targets in
    let target = get_or targets n d in
    let each : (job : JobRecord) → counts_if (are_naming (before ++ target ∷ [])) place job
    ≡ counts_if (are_naming before) place job + counts_if (is_named_first before target) place job =
    λ job. rw (list_any-append (λ one. is_named one job) before (target ∷ []))
    (by (nat_eq job.assoc place) (are_naming before job) (is_named target job) (cpus_running job)) in
    ap (λ some. run_by_named some jobs place) (take_more targets n d inside)
    ∙ run-filtered (are_naming (before ++ target ∷ [])) place jobs
    ∙ either place (are_naming (before ++ target ∷ [])) (are_naming before) (is_named_first before target) jobs each
    ∙ sym (both (run-filtered (are_naming before) place jobs) (run-filtered (is_named_first before target) place jobs))
  where
    by : (own named next : Bool) (held : ℕ) → cond own (cond (named || (next || false)) held 0) 0
        ≡ cond own (cond named held 0) 0 + cond own (cond (next && not named) held 0) 0
    by own named next held = grind arith

    both : {a b c d : ℕ} → a ≡ b → c ≡ d → a + c ≡ b + d
    both one other = omega (arith, one, other)

-- the others hold the rest
pub named-others : (targets : List Target) (jobs : List JobRecord) (place : ℕ)
    → run_by_named targets jobs place + run_by_others targets jobs place ≡ cpus_run_by jobs place
unfolding cpus_run_by
named-others targets jobs place =
    sum_by-filter_both (are_naming targets) (λ job. not (are_naming targets job)) (λ job. refl) (counts place) jobs
