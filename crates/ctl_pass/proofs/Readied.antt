-- What the first steps of a pass leave: jobs past their limits complete, and old records are gone.
use Rattle.std.proofs.lemmas.Bool.Decides.{nat_tests}
use Rattle.std.proofs.Common.{◌≡◌, ℕ, suc, ◌+◌, ◌≤◌, ◌<◌, Bool, true, false, ◌&&◌, not, cond, eqb, leb, ltb, List, [], ◌∷◌, ◌++◌, length, map, filter, flat_map, take, get_or, unwrap_or, All, Contains, Some, None, refl, sym, ◌∙◌, arith, inl, inr, rules, tests}
use Rattle.std.specs.List.{AllZip, list_any}
use Rattle.std.proofs.lemmas.Bool.{cond_both, and_parts, cases_Bool, ne_eqb}
use Rattle.std.proofs.lemmas.List.{take_more, map-append, append-nil, length-map}
use Rattle.std.proofs.lemmas.List.Concat.{flat_map-append}
use Rattle.std.proofs.lemmas.List.Elements.{All-head, All-tail, All-weaker, All-nil, filter-append}
use Rattle.std.proofs.lemmas.List.Sums.{length-filter, count_by-le-length}
use Rattle.request_data.specs.declared.state.JobState.{JobState}
use Rattle.request_data.specs.declared.state.JobState.TheVariants.{Completing}
use Rattle.request_data.specs.declared.state.Final.TheVariants.{Timeout}
use Rattle.backfill_planner.specs.declared.Placed.{Placed}
use Rattle.job_table.specs.declared.record.JobRecord.{JobRecord}
use Rattle.job_table.specs.declared.change.Change.TheVariants.{Leave}
use Rattle.job_table.specs.Changes.{changed}
use Rattle.job_table.specs.JobStates.{is_running, is_ended, is_holding, is_pending}
use Rattle.job_table.specs.declared.awaited.Awaited.{Awaited}
use Rattle.job_table.specs.Awaiting.{AwaitedThroughChanges, ShowsAwaited, has_awaited, has_gone, is_awaited}
use Rattle.job_table.specs.Table.{is_old}
use Rattle.job_table.specs.Usage.{ChangesRunOn, RunsOn, StaysOn}
use Rattle.ctl_state.specs.Events.{LetsGo, those_left}
use Rattle.ctl_state.specs.Holding.{has_members}
use Rattle.node_state.specs.declared.reservation_record.Reservation.{Reservation}
use Rattle.node_state.specs.ReservationLaws.{Fewer}
use Rattle.node_state.specs.Reservations.{lasting}
use Rattle.ctl_state.specs.Laws.{Charging, LettingGo, ChangesLetGo, LetsGoNothing, KeptLater, Reserving}
use Rattle.ctl_state.specs.Soundness.{IsSound, IsKept, PlansPending, pending_ids, HasItsParts}
use Rattle.ctl_state.specs.State.{State, last_moment, last_second}
use Rattle.ctl_pass.specs.Limits.{deadline, is_over, timed_out, holds_of_job}
use Rattle.ctl_pass.specs.Readiness.{goes, jobs_left, ready}

-- no plan names nobody
pub no-plan : (jobs : List JobRecord) → PlansPending jobs []
no-plan jobs = record {
  pending = All-nil (λ (placed : Placed). Contains (pending_ids jobs) placed.id);
  once = λ i j d before below. absurd (omega (arith, below));
  last = All-nil (λ (placed : Placed). placed.start ≤ last_second);
}

-- the laws of letting go that a pass rests on
pub record ReadyLaws : Type 0 where
  pub letting_go : LettingGo
  pub changes : ChangesLetGo
  pub nothing : LetsGoNothing
  pub later : KeptLater
  pub charging : Charging
  pub reserving : Reserving
  pub fewer : Fewer

-- what the limit makes of a job: it was running where it is over
pub by_limit : (P : JobRecord → Type 0) (now : ℕ) (job : JobRecord)
    → (is_over now job ≡ true → is_running job.state ≡ true
    → P (record job { state = Completing Timeout; ended = Some now; exit = None }))
    → (is_over now job ≡ false → P job)
    → P (timed_out now job)
by_limit P now job ends stays =
    cond_both (is_over now job) (changed (Leave Timeout now None) job) job P
    (λ over. let running =
    (and_parts (is_running job.state) (leb (deadline job) now) over).0 in rw running (ends over running)) stays

-- the ready state at its moment, with no plan yet
abbrev pub readied : State → ℕ → State
readied s now = record (ready s now) { plan = []; moment = now }

pub ended-others : (state : JobState) → is_ended state ≡ true → (is_pending state ≡ false) × (is_holding state ≡ false)
ended-others state ended = search (rules, tests)

-- limits, old records and reservations that are over let go: what a pass plans is sound
pub sound-readied : ReadyLaws → (s : State) (now : ℕ) → IsSound s → s.moment ≤ now → now ≤ last_moment
    → IsSound (readied s now)
sound-readied laws s now sound raised in_time =
    let old = goes s now in
    let left = record s { jobs = those_left (timed_out now) old s.jobs; arrays = (ready s now).arrays; plan = []; moment = now }
    in
    let lets_go : IsSound left =
    laws.letting_go s now (timed_out now) old (ready s now).arrays [] sound in_time
    (All-weaker (IsKept s.moment) (λ job. LetsGo now job (timed_out now job))
    (λ job kept. lets job (laws.later s.moment now job raised kept)) s.jobs sound.jobs)
    (no-plan (those_left (timed_out now) old s.jobs)) in
    let charged_left = laws.charging left now s.jobs (map (timed_out now) s.jobs) lets_go in
    laws.reserving (record left { usage = (ready s now).usage }) (lasting now s.reservations) charged_left
    (laws.fewer (λ (one : Reservation). ltb now one.end) s.reservations sound.reservations)
  where
    lets : (job : JobRecord) → IsKept now job → LetsGo now job (timed_out now job)
    lets job kept =
        cond_both (is_over now job) (changed (Leave Timeout now None) job) job (LetsGo now job)
        (λ over. laws.changes now (Leave Timeout now None) job refl kept) (λ within. laws.nothing now job kept)

pub running-not_ended : (state : JobState) → is_running state ≡ true
    → (is_ended state ≡ false) × (is_pending state ≡ false)
running-not_ended state running = search (rules, tests)

pub running-holds : (state : JobState) → is_running state ≡ true → is_holding state ≡ true
running-holds state running = search (rules, tests)

no_members : {X : Type 0} (xs : List X) → has_members xs ≡ false → xs ≡ []
no_members xs none = search (rules, tests)

-- a job that holds nothing has no parts
pub no_parts : (job : JobRecord) → HasItsParts job → is_holding job.state ≡ false → job.parts ≡ []
no_parts job has idle = no_members job.parts (has.some ∙ idle)

-- a limit that is seen to changes no number and no part, nor how long the job holds, nor whether it is old
pub timed_out-id : (now : ℕ) (job : JobRecord) → (timed_out now job).id ≡ job.id
timed_out-id now job = grind (arith, nat_tests)

timed_out-holds : (now : ℕ) (job : JobRecord) → holds_of_job now (timed_out now job) ≡ holds_of_job now job
timed_out-holds now job =
    by_limit (λ after. holds_of_job now after ≡ holds_of_job now job) now job (λ over running. grind (arith, nat_tests))
    (λ within. refl)

pub timed_out-old : (age now : ℕ) (job : JobRecord) → is_old age now (timed_out now job) ≡ is_old age now job
timed_out-old age now job =
    by_limit (λ after. is_old age now after ≡ is_old age now job) now job
    (λ over running. grind (arith, nat_tests, running-not_ended job.state)) (λ within. refl)

pub old-ended : (age now : ℕ) (job : JobRecord) → is_old age now job ≡ true → is_ended job.state ≡ true
old-ended age now job old =
    (and_parts (is_ended job.state) (not (eqb age 0) && leb (unwrap_or job.ended 0 + age) now) old).0

-- A test of records that go: those of ended jobs alone, whether their limits were seen to or not.
pub record Going (now : ℕ) (test : JobRecord → Bool) : Type 0 where
  pub same : (job : JobRecord) → test (timed_out now job) ≡ test job
  pub ended : (job : JobRecord) → test job ≡ true → is_ended job.state ≡ true

timed_out-awaited : AwaitedThroughChanges → (jobs : List JobRecord) (now : ℕ) (job : JobRecord)
    → is_awaited jobs (timed_out now job) ≡ is_awaited jobs job
timed_out-awaited law jobs now job =
    cond_both (is_over now job) (changed (Leave Timeout now None) job) job
    (λ after. is_awaited jobs after ≡ is_awaited jobs job)
    (λ over. law jobs (Leave Timeout now None) job) (λ within. refl)

-- those that go are such
pub going : AwaitedThroughChanges → (s : State) (now : ℕ) → Going now (goes s now)
going law s now = record {
  same = λ job. rw (timed_out-old s.settings.min_job_age now job, timed_out-awaited law s.jobs now job) refl;
  ended = λ job goes. old-ended s.settings.min_job_age now job
      (and_parts (is_old s.settings.min_job_age now job) (not (is_awaited s.jobs job)) goes).0;
}

timed_out-has : (awaited : Awaited) (now : ℕ) (job : JobRecord)
    → has_awaited awaited (timed_out now job).id (timed_out now job).array ≡ has_awaited awaited job.id job.array
timed_out-has awaited now job =
    by_limit (λ after. has_awaited awaited after.id after.array ≡ has_awaited awaited job.id job.array) now job
    (λ over running. refl) (λ within. refl)

-- and so are those of which it is known who is awaited
pub going-known : (age now : ℕ) (awaited : Awaited) → Going now (has_gone age now awaited)
going-known age now awaited = record {
  same = λ job. rw (timed_out-old age now job, timed_out-has awaited now job) refl;
  ended = λ job goes. old-ended age now job
      (and_parts (is_old age now job) (not (has_awaited awaited job.id job.array)) goes).0;
}

left-agree : (now : ℕ) (one other : JobRecord → Bool) (jobs : List JobRecord) → Going now one → Going now other
    → All (λ job. one job ≡ other job) jobs
    → those_left (timed_out now) one jobs ≡ those_left (timed_out now) other jobs
left-agree now one other [] goes_one goes_other same = refl
left-agree now one other (job ∷ jobs) goes_one goes_other same =
    grind (
      arith,
      nat_tests,
      goes_one.same job,
      goes_other.same job,
      All-head (λ j. one j ≡ other j) job jobs same,
      left-agree now one other jobs goes_one goes_other (All-tail (λ j. one j ≡ other j) job jobs same),
    )

-- where it is known who is awaited, those that are left are known
pub left-known : AwaitedThroughChanges → (s : State) (now : ℕ) (awaited : Awaited) → ShowsAwaited awaited s.jobs
    → those_left (timed_out now) (has_gone s.settings.min_job_age now awaited) s.jobs ≡ jobs_left s now
left-known law s now awaited shows =
    left-agree now (has_gone s.settings.min_job_age now awaited) (goes s now) s.jobs
    (going-known s.settings.min_job_age now awaited) (going law s now)
    (All-weaker (λ job. has_awaited awaited job.id job.array ≡ is_awaited s.jobs job)
    (λ job. has_gone s.settings.min_job_age now awaited job ≡ goes s now job)
    (λ job same. rw same refl) s.jobs shows.each)

-- one that goes doesn't run
pub goes-not_running : (now : ℕ) (test : JobRecord → Bool) (job : JobRecord) → Going now test → test job ≡ true
    → is_running job.state ≡ false
goes-not_running now test job going goes = by job.state (going.ended job goes)
  where
    by : (state : JobState) → is_ended state ≡ true → is_running state ≡ false
    by state ended = search (rules, tests)

-- a limit that is seen to starts nothing
pub timed_out-runs_on : ChangesRunOn → StaysOn → (now : ℕ) (jobs : List JobRecord)
    → AllZip (RunsOn now) jobs (map (timed_out now) jobs)
timed_out-runs_on changes stays now [] = tt
timed_out-runs_on changes stays now (job ∷ jobs) = (
  cond_both (is_over now job) (changed (Leave Timeout now None) job) job (RunsOn now job)
      (λ over. changes now (Leave Timeout now None) job refl) (λ within. stays now job),
  timed_out-runs_on changes stays now jobs,
)

-- one more job of those that are left
pub left-more : (now i : ℕ) (test : JobRecord → Bool) (jobs : List JobRecord) (job : JobRecord) → Going now test
    → i < length jobs → job ≡ get_or jobs i job
    → flat_map (holds_of_job now) (those_left (timed_out now) test (take (i + 1) jobs))
    ≡ flat_map (holds_of_job now) (those_left (timed_out now) test (take i jobs)) ++ cond
    (not (test job)) (holds_of_job now job) []
left-more now i test jobs job going within is =
    let keep : JobRecord → Bool = λ one. not (test one) in
    let before = map (timed_out now) (take i jobs) in
    let joined = flat_map-append (holds_of_job now) (filter keep before) (filter keep (timed_out now job ∷ [])) in
    rw (
      take_more jobs i job within,
      ← is,
      map-append (timed_out now) (take i jobs) (job ∷ []),
      filter-append keep before (timed_out now job ∷ []),
      joined,
    )
    (grind (arith, nat_tests, going.same job, timed_out-holds now job, append-nil (holds_of_job now job)))

-- those that wait are the same
pub pending-left : (now : ℕ) (test : JobRecord → Bool) (jobs : List JobRecord) → Going now test
    → filter (λ (job : JobRecord). is_pending job.state) (those_left (timed_out now) test jobs)
    ≡ filter (λ (job : JobRecord). is_pending job.state) jobs
pending-left now test [] going = refl
pending-left now test (job ∷ jobs) going =
    grind (
      arith,
      nat_tests,
      pending-left now test jobs going,
      going.same job,
      going.ended job,
      ended-others job.state,
      running-not_ended job.state,
    )

-- nothing is dropped where none goes
pub length-left : (now : ℕ) (test : JobRecord → Bool) (jobs : List JobRecord) → Going now test
    → eqb (length (those_left (timed_out now) test jobs)) (length jobs)
    ≡ not (list_any test jobs)
length-left now test [] going = refl
length-left now test (job ∷ jobs) going =
    let stays : JobRecord → Bool = λ one. not (test one) in
    let changed = map (timed_out now) jobs in
    let left = those_left (timed_out now) test jobs in
    let few : length left ≤ length jobs =
    omega (arith, length-filter stays changed, count_by-le-length stays changed, length-map jobs (timed_out now)) in
    elim (cases_Bool (test job)) [
      | inl old ↦ rw (going.same job, old)
          (ne_eqb (length left) (length (job ∷ jobs)) (λ same. omega (arith, same, few)))
      | inr recent ↦ rw (going.same job, recent) (one_more (length left) (length jobs)
          ∙ length-left now test jobs going)
    ]
  where
    one_more : (a b : ℕ) → eqb (suc a) (suc b) ≡ eqb a b
    one_more a b = grind (arith, nat_tests)

-- each job keeps its parts, and one that goes has none
pub timed_out-parts : (now : ℕ) (job : JobRecord) → (timed_out now job).parts ≡ job.parts
timed_out-parts now job = by_limit (λ after. after.parts ≡ job.parts) now job (λ over running. refl) (λ within. refl)

pub gone-empty : (now : ℕ) (test : JobRecord → Bool) (job : JobRecord) → Going now test → HasItsParts job
    → test (timed_out now job) ≡ true → job.parts ≡ []
gone-empty now test job going has gone =
    no_parts job has (ended-others job.state (going.ended job (sym (going.same job) ∙ gone))).1
