-- What associations have used stays through every step, and grows in time by what runs.
use Rattle.std.proofs.Common.{zero, suc, ℕ, ◌≡◌, ◌≤◌, ◌<◌, ◌+◌, ◌-◌, ◌*◌, ◌∙◌, min, Bool, true, false, ◌&&◌, not, cond, List, [], ◌∷◌, ◌++◌, map, filter, All, length, Option, Some, None, get_or, refl, sym, ap, arith, inl, inr, nat_eq, slice_get, zero-add, add-zero}
use Rattle.std.specs.Prelude.{sum_by, unwrap_or, option_map}
use Rattle.std.specs.List.{AllZip, enumerate_from, zip}
use Rattle.std.proofs.lemmas.Bool.{both_ways, cases_Bool, cases_lt}
use Rattle.std.proofs.lemmas.Bool.Decides.{nat_tests}
use Rattle.std.proofs.Math.Nat.{mul-add, mul-zero, mul_comm}
use Rattle.std.proofs.lemmas.Option.{slice_get-get_or}
use Rattle.std.proofs.lemmas.List.Elements.{All-head, All-tail, All-weaker}
use Rattle.std.proofs.lemmas.List.Sums.{sum_by-append, sum_by-cons}
use Rattle.job_table.specs.declared.record.JobRecord.{JobRecord}
use Rattle.job_table.specs.JobStates.{is_running}
use Rattle.job_table.specs.Usage.{charged, cpus_held, greatest_usage, grown, used_by, used_of, used_when_left}
use Rattle.ctl_waiting.specs.Usage.{running_usage, usage_at, used_running}
use Rattle.ctl_state.specs.Soundness.{IsKept, IsSound}
use Rattle.ctl_state.specs.State.{State}
use Rattle.user_laws.specs.Using.{cpus_run_by, cpus_running}
use Rattle.user_laws.proofs.Changes.{GoesOn}

-- ---- who leaves Running is charged what it used while it ran

-- what a job adds to the usage of the association at a place
abbrev pub uses : ℕ → ℕ → JobRecord → ℕ
uses now place job = cond (nat_eq job.assoc place) (used_running now job) 0

abbrev leaves : ℕ → ℕ → JobRecord → JobRecord → ℕ
leaves now place job after = cond (nat_eq job.assoc place) (used_when_left now job after) 0

split : (same a b : Bool) (used again : ℕ) → (b ≡ true → a ≡ true) → (b ≡ true → again ≡ used)
    → cond same (cond a used 0) 0 ≡ cond same (cond b again 0) 0 + cond same (cond (a && not b) used 0) 0
split false a b used again ran held = refl
split true false false used again ran held = refl
split true false true used again ran held = absurd (both_ways false refl (ran refl))
split true true false used again ran held = omega arith
split true true true used again ran held = omega (arith, held refl)

one-conserved : (now place : ℕ) (job after : JobRecord) → GoesOn job after
    → uses now place job ≡ uses now place after + leaves now place job after
unfolding used_running used_when_left used_by
one-conserved now place job after goes =
    let held : is_running after.state ≡ true → used_by now after ≡ used_by now job =
    λ runs. let holds = goes.holds runs in rw (holds.cpus, holds.started) refl in
    split (nat_eq job.assoc place) (is_running job.state) (is_running after.state) (used_by now job) (used_by now after)
    goes.ran held
    ∙ ap (λ who. cond (nat_eq who place) (used_running now after) 0 + leaves now place job after) (sym goes.assoc)

-- the jobs have become others, none of which has started
abbrev pub AllGoOn : List JobRecord → List JobRecord → Type 0
AllGoOn jobs after = AllZip GoesOn jobs after

pub map_goes_on : (f : JobRecord → JobRecord) (jobs : List JobRecord) → ((job : JobRecord) → GoesOn job (f job))
    → AllGoOn jobs (map f jobs)
map_goes_on f [] each = tt
map_goes_on f (job ∷ jobs) each = (each job, map_goes_on f jobs each)

conserved : (now place : ℕ) (jobs after : List JobRecord) → AllGoOn jobs after
    → running_usage now jobs place ≡ running_usage now after place + used_of now jobs after place
unfolding used_of
conserved now place [] [] all = refl
conserved now place [] (after ∷ later) all = absurd all
conserved now place (job ∷ jobs) [] all = absurd all
conserved now place (job ∷ jobs) (after ∷ later) all =
    omega (
      arith,
      one-conserved now place job after all.0,
      conserved now place jobs later all.1,
      sum_by-cons (uses now place) job jobs,
      sum_by-cons (uses now place) after later,
      sum_by-cons (λ (one : JobRecord × JobRecord). leaves now place one.0 one.1) (job, after) (zip jobs later),
    )

-- ---- and the association with it

-- what a total shows beside what runs
abbrev pub shown : ℕ → Option ℕ → ℕ
shown running total = unwrap_or (option_map (λ total. min (total + running) greatest_usage) total) 0

grown-shown : (total running left more : ℕ) → more ≡ running + left
    → min (grown total left + running) greatest_usage ≡ min (total + more) greatest_usage
grown-shown total running zero more is = ap (λ n. min (total + n) greatest_usage) (sym (is ∙ add-zero running))
grown-shown total running (suc left) more is = elim (cases_lt (total + suc left) greatest_usage) [
  | inl below ↦ grind (arith, nat_tests, below, is)
  | inr above ↦ grind (arith, nat_tests, above, is)
]

charged-at : (by : ℕ → ℕ) (n place : ℕ) (totals : List ℕ)
    → slice_get (map (λ (one : ℕ × ℕ). grown one.1 (by one.0)) (enumerate_from n totals)) place
    ≡ option_map (λ total. grown total (by (n + place))) (slice_get totals place)
charged-at by n place [] = refl
charged-at by n zero (total ∷ totals) = ap (λ k. Some (grown total (by k))) (sym (add-zero n))
charged-at by n (suc place) (total ∷ totals) =
    let moved : n + 1 + place ≡ n + suc place = omega arith in
    charged-at by (n + 1) place totals
    ∙ ap (λ k. option_map (λ total. grown total (by k)) (slice_get totals place)) moved

both-shown : (running left more : ℕ) (total : Option ℕ) → more ≡ running + left
    → shown running (option_map (λ total. grown total left) total) ≡ shown more total
both-shown running left more None is = refl
both-shown running left more (Some total) is = grown-shown total running left more is

-- what the association at a place has used, by these totals and these jobs
abbrev pub usage_of : ℕ → ℕ → List ℕ → List JobRecord → ℕ
usage_of now place totals jobs = shown (running_usage now jobs place) (slice_get totals place)

pub charged_same : (now place : ℕ) (totals : List ℕ) (jobs after : List JobRecord) → AllGoOn jobs after
    → usage_of now place (charged now jobs after totals) after ≡ usage_of now place totals jobs
unfolding charged
charged_same now place totals jobs after all =
    let at = charged-at (used_of now jobs after) 0 place totals in
    let here = ap (λ k. option_map (λ total. grown total (used_of now jobs after k)) (slice_get totals place))
    (zero-add place) in
    ap (shown (running_usage now after place)) (at ∙ here)
    ∙ both-shown (running_usage now after place) (used_of now jobs after place) (running_usage now jobs place)
    (slice_get totals place) (conserved now place jobs after all)

pub usage_is : (s : State) (now place : ℕ) → usage_at s now place ≡ usage_of now place s.usage s.jobs
unfolding usage_at
usage_is s now place = refl

-- ---- jobs that don't run add nothing

pub still_uses : (now place : ℕ) (job : JobRecord) → is_running job.state ≡ false → uses now place job ≡ 0
unfolding used_running
still_uses now place job still =
    none (nat_eq job.assoc place) (used_running now job) (rw still refl)
  where
    none : (same : Bool) (n : ℕ) → n ≡ 0 → cond same n 0 ≡ 0
    none false n is = refl
    none true n is = is

pub filter_same : (now place : ℕ) (stays : JobRecord → Bool) (jobs : List JobRecord)
    → ((job : JobRecord) → stays job ≡ false → is_running job.state ≡ false)
    → running_usage now (filter stays jobs) place ≡ running_usage now jobs place
filter_same now place stays [] still = refl
filter_same now place stays (job ∷ jobs) still =
    let rest = filter_same now place stays jobs still in
    let whole = sum_by-cons (uses now place) job jobs in
    elim (cases_Bool (stays job)) [
      | inl is ↦ rw is (omega (arith, rest, whole, sum_by-cons (uses now place) job (filter stays jobs)))
      | inr goes ↦ rw goes (omega (arith, rest, whole, still_uses now place job (still job goes)))
    ]

none-uses : (now place : ℕ) (jobs : List JobRecord) → All (λ (job : JobRecord). is_running job.state ≡ false) jobs
    → running_usage now jobs place ≡ 0
none-uses now place [] all = refl
none-uses now place (job ∷ jobs) all =
    let Still = λ (job : JobRecord). is_running job.state ≡ false in
    omega (
      arith,
      sum_by-cons (uses now place) job jobs,
      still_uses now place job (All-head Still job jobs all),
      none-uses now place jobs (All-tail Still job jobs all),
    )

pub append_same : (now place : ℕ) (jobs new : List JobRecord)
    → All (λ (job : JobRecord). is_running job.state ≡ false) new
    → running_usage now (jobs ++ new) place ≡ running_usage now jobs place
append_same now place jobs new all =
    omega (arith, sum_by-append (uses now place) jobs new, none-uses now place new all)

-- a walk in which each adds what it added
pub map_same : (now place : ℕ) (P : JobRecord → Type 0) (f : JobRecord → JobRecord) (jobs : List JobRecord) → All P jobs
    → ((job : JobRecord) → P job → uses now place (f job) ≡ uses now place job)
    → running_usage now (map f jobs) place ≡ running_usage now jobs place
map_same now place P f [] all each = refl
map_same now place P f (job ∷ jobs) all each =
    omega (
      arith,
      sum_by-cons (uses now place) job jobs,
      sum_by-cons (uses now place) (f job) (map f jobs),
      each job (All-head P job jobs all),
      map_same now place P f jobs (All-tail P job jobs all) each,
    )

-- ---- time

-- what grows in time is what the jobs hold that run
held-grows : (same runs : Bool) (cpus seconds moment started : ℕ) → started ≤ moment
    → cond same (cond runs (cpus * (moment + seconds - started)) 0) 0
    ≡ cond same (cond runs (cpus * (moment - started)) 0) 0 + seconds * cond same (cond runs cpus 0) 0
held-grows false runs cpus seconds moment started before = omega (arith, mul-zero seconds)
held-grows true false cpus seconds moment started before = omega (arith, mul-zero seconds)
held-grows true true cpus seconds moment started before =
    let later : moment + seconds - started ≡ (moment - started) + seconds = omega (arith, before) in
    ap (λ n. cpus * n) later ∙ mul-add cpus (moment - started) seconds
    ∙ ap (λ n. cpus * (moment - started) + n) (mul_comm cpus seconds)

-- what a job holds that runs and is of the association at a place
abbrev cpus-of : ℕ → JobRecord → ℕ
cpus-of place job = cond (nat_eq job.assoc place) (cpus_running job) 0

one-grows : (moment seconds place : ℕ) (job : JobRecord) → unwrap_or job.started 0 ≤ moment
    → uses (moment + seconds) place job ≡ uses moment place job + seconds * cpus-of place job
unfolding used_running used_by
one-grows moment seconds place job before =
    held-grows (nat_eq job.assoc place) (is_running job.state) (cpus_held job) seconds moment (unwrap_or job.started 0)
    before

all-grow : (moment seconds place : ℕ) (jobs : List JobRecord)
    → All (λ (job : JobRecord). unwrap_or job.started 0 ≤ moment) jobs
    → running_usage (moment + seconds) jobs place
    ≡ running_usage moment jobs place + seconds * sum_by (cpus-of place) jobs
all-grow moment seconds place [] all = omega (arith, mul-zero seconds)
all-grow moment seconds place (job ∷ jobs) all =
    let Before = λ (job : JobRecord). unwrap_or job.started 0 ≤ moment in
    let both = ap (λ n. seconds * n) (sum_by-cons (cpus-of place) job jobs)
    ∙ mul-add seconds (cpus-of place job) (sum_by (cpus-of place) jobs) in
    omega (
      arith,
      sum_by-cons (uses (moment + seconds) place) job jobs,
      sum_by-cons (uses moment place) job jobs,
      one-grows moment seconds place job (All-head Before job jobs all),
      all-grow moment seconds place jobs (All-tail Before job jobs all),
      both,
    )

grown-later : (total running more : ℕ)
    → min (total + (running + more)) greatest_usage
    ≡ min (min (total + running) greatest_usage + more) greatest_usage
grown-later total running more = elim (cases_lt (total + running) greatest_usage) [
  | inl below ↦ grind (arith, nat_tests, below)
  | inr above ↦ grind (arith, nat_tests, above)
]

later-shown : (running more place : ℕ) (totals : List ℕ) → place < length totals
    → shown (running + more) (slice_get totals place)
    ≡ min (shown running (slice_get totals place) + more) greatest_usage
later-shown running more place totals below =
    rw (slice_get-get_or totals place 0 below) (grown-later (get_or totals place 0) running more)

-- In time the usage of an association grows by what its running jobs hold for each second, up to the greatest.
pub grows_in_time : (s : State) (moment seconds place : ℕ) → IsSound s → s.moment ≤ moment → place < length s.assocs
    → usage_at s (moment + seconds) place
    ≡ min (usage_at s moment place + seconds * cpus_run_by s place) greatest_usage
unfolding cpus_run_by
grows_in_time s moment seconds place sound later below =
    let before = All-weaker (IsKept s.moment) (λ (job : JobRecord). unwrap_or job.started 0 ≤ moment)
    (λ job kept. omega (arith, kept.run.start_passed, later)) s.jobs sound.jobs in
    let there : place < length s.usage = omega (arith, sound.usage, below) in
    usage_is s (moment + seconds) place
    ∙ ap (λ n. shown n (slice_get s.usage place)) (all-grow moment seconds place s.jobs before)
    ∙ later-shown (running_usage moment s.jobs place) (seconds * sum_by (cpus-of place) s.jobs) place s.usage there
    ∙ ap (λ n. min (n + seconds * sum_by (cpus-of place) s.jobs) greatest_usage) (sym (usage_is s moment place))
