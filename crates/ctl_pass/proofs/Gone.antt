-- Who goes in a pass: some of the jobs that might, which ran before it.
use Rattle.std.proofs.lemmas.Bool.Decides.{nat_tests}
use Rattle.std.proofs.Common.{◌≡◌, ◌≢◌, ℕ, zero, suc, ◌+◌, ◌≤◌, ◌<◌, Bool, true, false, ◌&&◌, not, cond, eqb, List, [], ◌∷◌, length, map, filter, reverse, get_or, unwrap_or, All, AllPairs, Any, Contains, Option, Some, None, IfSome, option_map, refl, ap, sym, ◌∙◌, arith, inl, inr}
use Rattle.std.specs.Prelude.{filter_map, slice_get}
use Rattle.std.specs.List.{list_any}
use Rattle.std.proofs.lemmas.Bool.{and_parts, both_ways, cases_Bool}
use Rattle.std.proofs.lemmas.List.{get_or_default, length-map, length-reverse}
use Rattle.std.proofs.lemmas.List.Elements.{All-filter, All-head, All-nil, All-tail, All-weaker, filter_passes}
use Rattle.std.proofs.lemmas.List.Sorted.{All-permutation, IsPermutation-reverse, length_permutation}
use Rattle.small_texts.specs.Options.{◌>>=◌}
use Rattle.backfill_planner.specs.declared.job.PlanJob.{PlanJob}
use Rattle.job_table.specs.declared.record.JobRecord.{JobRecord}
use Rattle.job_table.specs.JobStates.{is_running}
use Rattle.job_table.specs.Table.{job_with}
use Rattle.ctl_state.specs.Laws.{OrderMoves}
use Rattle.ctl_state.specs.Ordered.{ordered_by}
use Rattle.ctl_state.specs.Planning.{room_of}
use Rattle.ctl_state.specs.Soundness.{IsSound}
use Rattle.ctl_state.specs.State.{State}
use Rattle.ctl_waiting.specs.Rank.{is_higher}
use Rattle.ctl_pass.specs.Limits.{holds_of_job, is_over}
use Rattle.ctl_pass.specs.Passing.{jobs_ended, outcome}
use Rattle.ctl_pass.specs.Preempting.{gone_for, ids_at, is_lower, is_preemptable, places_gone, preemptable, preemptor, preempts, runs_on, staying_holds, victims_in}
use Rattle.ctl_pass.specs.Starting.{may_start}
use Rattle.ctl_pass.proofs.Lists.{at-place, length-rising}
use Rattle.ctl_pass.proofs.Planned.{few-jobs}
use Rattle.ctl_pass.proofs.Ranks.{filter_map-all, filter_map-less}
use Rattle.list_lemmas.proofs.Filters.{filter-less}
use Rattle.backfill_planner.specs.Going.{victims_of}
use Rattle.resource_profile.specs.declared.Hold.{Hold}
use Rattle.resource_profile.specs.declared.NodeRoom.{NodeRoom}
use Rattle.std.proofs.lemmas.List.Sums.{count_by-le-length}

-- what holds of all jobs that might go holds of them in their order
pub preemptable-all : OrderMoves JobRecord → (P : JobRecord → Type 0) (s : State) (now : ℕ) (high : JobRecord)
    → All (λ job. is_preemptable s now high job ≡ true → P job) s.jobs → All P (preemptable s now high)
unfolding preemptable
preemptable-all moves P s now high each =
    let test = is_preemptable s now high in
    let some = filter test s.jobs in
    let sorted = ordered_by (is_higher s now) some in
    let all : All P some = λ k d below.
    All-filter test (λ job. test job ≡ true → P job) s.jobs each k d below (filter_passes test s.jobs k d below) in
    All-permutation P sorted (reverse sorted) (IsPermutation-reverse sorted)
    (All-permutation P some sorted (moves (is_higher s now) some) all)

-- and of the numbers of those that are at some places
ids-all : (P : ℕ → Type 0) (jobs : List JobRecord) (places : List ℕ) → All (λ (job : JobRecord). P job.id) jobs
    → All P (ids_at jobs places)
ids-all P jobs places each =
    filter_map-all P (λ place. option_map (λ (job : JobRecord). job.id) (slice_get jobs place)) places
    (λ k d below. at (slice_get jobs (get_or places k d)) (get_or places k d) refl)
  where
    at : (found : Option JobRecord) (place : ℕ) → slice_get jobs place ≡ found
        → IfSome (option_map (λ (job : JobRecord). job.id) found) P
    at None place is = tt
    at (Some job) place is = at-place (λ (one : JobRecord). P one.id) jobs place job each is

-- so of the numbers of those that go for a job
pub gone-all : OrderMoves JobRecord → (P : ℕ → Type 0) (s : State) (now : ℕ) (need : PlanJob) (high : JobRecord)
    → All (λ (job : JobRecord). is_preemptable s now high job ≡ true → P job.id) s.jobs → All P (gone_for s now need high)
unfolding gone_for
gone-all moves P s now need high each =
    let all = preemptable-all moves (λ (job : JobRecord). P job.id) s now high each in
    by (places_gone s now need high) all
  where
    by : (places : Option (List ℕ)) → All (λ (job : JobRecord). P job.id) (preemptable s now high)
        → All P (unwrap_or (option_map (ids_at (preemptable s now high)) places) [])
    by None all = All-nil P
    by (Some places) all = ids-all P (preemptable s now high) places all

-- what holds of those that go for the highest candidate holds of all victims
pub victims-all : (P : ℕ → Type 0) (s : State) (now : ℕ)
    → ((need : PlanJob) (high : JobRecord) → preemptor s now ≡ Some need → job_with need.id s.jobs ≡ Some high
    → All P (gone_for s now need high))
    → All P (victims_in s now)
unfolding victims_in
victims-all P s now each = by (preemptor s now) refl
  where
    by_job : (need : PlanJob) (found : Option JobRecord) → preemptor s now ≡ Some need → job_with need.id s.jobs ≡ found
        → All P (unwrap_or (found >>= λ high. Some (gone_for s now need high)) [])
    by_job need None is has = All-nil P
    by_job need (Some high) is has = each need high is has

    by : (some : Option PlanJob) → preemptor s now ≡ some
        → All P (unwrap_or (some >>= λ need. job_with need.id s.jobs >>= λ high. Some (gone_for s now need high)) [])
    by None is = All-nil P
    by (Some need) is = by_job need (job_with need.id s.jobs) is refl

-- the number is that of one of these jobs, which runs
abbrev pub IsOfRunning : List JobRecord → ℕ → Type 0
IsOfRunning jobs id = Any (λ (job : JobRecord). (job.id ≡ id) × (is_running job.state ≡ true)) jobs

-- each victim ran before the pass
pub victims-ran : OrderMoves JobRecord → (s : State) (now : ℕ) → All (IsOfRunning s.jobs) (victims_in s now)
victims-ran moves s now =
    victims-all (IsOfRunning s.jobs) s now (λ need high is has. gone-all moves (IsOfRunning s.jobs) s now need high
    (λ k d below might. let job = get_or s.jobs k d in (
      k,
      job,
      below,
      get_or_default s.jobs k job d below,
      (refl, (and_parts (is_running job.state) (not (is_over now job)) (and_parts (runs_on now job) _ might).0).0),
    )))

-- and whoever goes for a job might
pub gone-might : OrderMoves JobRecord → (s : State) (now : ℕ) (need : PlanJob) (high : JobRecord)
    → All (λ id. Any (λ (job : JobRecord). (job.id ≡ id) × (is_preemptable s now high job ≡ true)) s.jobs)
    (gone_for s now need high)
gone-might moves s now need high =
    gone-all moves (λ id. Any (λ (job : JobRecord). (job.id ≡ id) × (is_preemptable s now high job ≡ true)) s.jobs)
    s now need high
    (λ k d below might. let job = get_or s.jobs k d in
    (k, job, below, get_or_default s.jobs k job d below, (refl, might)))

-- the laws of who goes that a pass rests on
abbrev pub VictimsRise : Type 0
VictimsRise = (rooms : List NodeRoom) (stay : List Hold) (going : List (List Hold)) (job : PlanJob) (now : ℕ)
    (gone : List ℕ) → victims_of rooms stay going job now ≡ Some gone → AllPairs (λ one other. one < other) gone

abbrev pub VictimsWithin : Type 0
VictimsWithin = (rooms : List NodeRoom) (stay : List Hold) (going : List (List Hold)) (job : PlanJob) (now : ℕ)
    (gone : List ℕ) → victims_of rooms stay going job now ≡ Some gone → All (λ place. place < length going) gone

preemptable-less : OrderMoves JobRecord → (s : State) (now : ℕ) (high : JobRecord)
    → length (preemptable s now high) ≤ length s.jobs
unfolding preemptable
preemptable-less moves s now high =
    let some = filter (is_preemptable s now high) s.jobs in
    let sorted = ordered_by (is_higher s now) some in
    omega (
      arith,
      length-reverse sorted,
      length_permutation some sorted (moves (is_higher s now) some),
      filter-less (is_preemptable s now high) s.jobs,
    )

-- no more go than there are jobs
gone-less : OrderMoves JobRecord → VictimsRise → VictimsWithin → (s : State) (now : ℕ) (need : PlanJob)
    (high : JobRecord) → length (gone_for s now need high) ≤ length s.jobs
unfolding gone_for places_gone
gone-less moves rise within s now need high =
    let rooms = map room_of s.nodes in
    let stay = staying_holds s now high in
    let might = preemptable s now high in
    let going = map (holds_of_job now) might in
    let few : length going ≤ length s.jobs = omega (arith, length-map might (holds_of_job now), preemptable-less moves s now high) in
    by rooms stay going might few (victims_of rooms stay going need now) refl
  where
    by : (rooms : List NodeRoom) (stay : List Hold) (going : List (List Hold)) (might : List JobRecord)
        → length going ≤ length s.jobs
        → (places : Option (List ℕ)) → victims_of rooms stay going need now ≡ places
        → length (unwrap_or (option_map (ids_at might) places) []) ≤ length s.jobs
    by rooms stay going might few None is = omega arith
    by rooms stay going might few (Some places) is =
        omega (
          arith,
          few,
          filter_map-less (λ place. option_map (λ (job : JobRecord). job.id) (slice_get might place)) places,
          length-rising (λ place. place) 0 (length going) places (omega arith)
              (rise rooms stay going need now places is) (λ k d below. omega arith)
              (within rooms stay going need now places is),
        )

pub victims-less : OrderMoves JobRecord → VictimsRise → VictimsWithin → (s : State) (now : ℕ)
    → length (victims_in s now) ≤ length s.jobs
unfolding victims_in
victims-less moves rise within s now = by (preemptor s now)
  where
    by_job : (need : PlanJob) (found : Option JobRecord)
        → length (unwrap_or (found >>= λ high. Some (gone_for s now need high)) []) ≤ length s.jobs
    by_job need None = omega arith
    by_job need (Some high) = gone-less moves rise within s now need high

    by : (some : Option PlanJob)
        → length (unwrap_or (some >>= λ need. job_with need.id s.jobs >>= λ high. Some (gone_for s now need high)) [])
        ≤ length s.jobs
    by None = omega arith
    by (Some need) = by_job need (job_with need.id s.jobs)

-- so few leave Running
pub few-end : OrderMoves JobRecord → VictimsRise → VictimsWithin → (s : State) (now : ℕ) → IsSound s
    → jobs_ended s now ≤ 134086658
few-end moves rise within s now sound =
    omega (arith, few-jobs s sound, count_by-le-length (is_over now) s.jobs, victims-less moves rise within s now)
