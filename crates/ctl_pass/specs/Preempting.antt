-- Preemption: which running jobs go, so that the highest of the candidates that a pass couldn't start can begin.
use Rattle.std.specs.Prelude.{ℕ, Bool, false, ◌&&◌, ◌||◌, not, nat_eq, nat_lt, if◌then◌else◌, unwrap_or, List, [], ◌++◌, map, filter, filter_map, find, flat_map, reverse, slice_get, Option, Some, None, option_map}
use Rattle.std.specs.List.{list_any}
use Rattle.small_texts.specs.Options.{◌>>=◌}
use Rattle.plain_data.specs.declared.limit.Limit.{Limit}
use Rattle.request_data.specs.declared.state.Final.TheVariants.{Requeue}
use Rattle.resource_profile.specs.declared.Hold.{Hold}
use Rattle.backfill_planner.specs.declared.Placed.{Placed}
use Rattle.backfill_planner.specs.declared.Share.{Share}
use Rattle.backfill_planner.specs.declared.job.PlanJob.{PlanJob}
use Rattle.job_table.specs.declared.record.JobRecord.{JobRecord}
use Rattle.job_table.specs.declared.change.Change.TheVariants.{Leave}
use Rattle.job_table.specs.Changes.{changed}
use Rattle.job_table.specs.JobStates.{is_running}
use Rattle.job_table.specs.Table.{has_id, job_with}
use Rattle.run_limits.specs.declared.record.QosRecord.{QosRecord}
use Rattle.backfill_planner.specs.Going.{suffices, victims_of}
use Rattle.ctl_state.specs.Ordered.{ordered_by}
use Rattle.ctl_state.specs.Planning.{room_of}
use Rattle.ctl_state.specs.State.{State}
use Rattle.ctl_waiting.specs.Candidates.{ranked}
use Rattle.ctl_waiting.specs.Rank.{is_higher}
use Rattle.ctl_pass.specs.Limits.{holds_of_job, is_over, limit_end}
use Rattle.ctl_pass.specs.Naming.{names, preempts_at_all}
use Rattle.ctl_pass.specs.Outcome.{outcome, placements_due}
use Rattle.ctl_pass.specs.Readiness.{ready}
use Rattle.ctl_pass.specs.Starting.{may_start}

-- the job ran before the pass, and no limit ends it
abbrev pub runs_on : ℕ → JobRecord → Bool
runs_on now job = is_running job.state && not (is_over now job)

-- both are there, and the first one names the other
abbrev pub is_named_by : Option QosRecord → Option QosRecord → Bool
is_named_by (Some one) (Some other) = names one other
is_named_by one other = false

-- the quality of service at a place names that at another one
unfoldable pub preempts : List QosRecord → ℕ → ℕ → Bool
preempts qos one other = not (nat_eq one other) && is_named_by (slice_get qos one) (slice_get qos other)

-- One job is lower in rank than another. Of jobs that are alike in rank the one with the higher number is.
unfoldable pub is_lower : State → ℕ → JobRecord → JobRecord → Bool
is_lower s now one other = is_higher s now other one || (not (is_higher s now one other) && nat_lt other.id one.id)

-- The job might go for this one: it runs on, may be requeued, is of a quality of service that this one's names, and
-- lower in rank, its priority being counted as if it waited.
abbrev pub is_preemptable : State → ℕ → JobRecord → JobRecord → Bool
is_preemptable s now high job =
    runs_on now job && (job.terms.requeue && (preempts s.qos high.qos job.qos && is_lower s now job high))

-- the jobs that might go for this one, the lowest in rank first
unfoldable pub preemptable : State → ℕ → JobRecord → List JobRecord
preemptable s now high = reverse (ordered_by (is_higher s now) (filter (is_preemptable s now high) s.jobs))

-- what a job of this limit holds that starts as it is placed
abbrev pub placed_holds : Limit → Placed → List Hold
placed_holds limit placed =
    map
    (λ (share : Share). record {
      node = share.node;
      from = placed.start;
      until = limit_end limit placed.start;
      cpus = share.cpus;
      mem = share.mem;
    })
    placed.parts

-- the same of a placement of one of these jobs
abbrev pub start_holds : List JobRecord → Placed → List Hold
start_holds jobs placed =
    unwrap_or (option_map (λ (job : JobRecord). placed_holds job.limit placed) (job_with placed.id jobs)) []

-- the job runs on, and can't go for this one
abbrev pub stays : State → ℕ → JobRecord → JobRecord → Bool
stays s now high job = runs_on now job && not (is_preemptable s now high job)

-- What those hold that stay in any case: the jobs that run on and can't go for this one, and those that the pass starts.
-- What completing jobs hold is left out.
unfoldable pub staying_holds : State → ℕ → JobRecord → List Hold
staying_holds s now high =
    flat_map (holds_of_job now) (filter (stays s now high) s.jobs)
    ++ flat_map (start_holds s.jobs) (placements_due s now)

-- the numbers of the jobs at these places
abbrev pub ids_at : List JobRecord → List ℕ → List ℕ
ids_at jobs places = filter_map (λ place. option_map (λ (job : JobRecord). job.id) (slice_get jobs place)) places

-- the places, among those that might go for this job, of those that do, or none where even all of them don't suffice
unfoldable pub places_gone : State → ℕ → PlanJob → JobRecord → Option (List ℕ)
places_gone s now need high =
    victims_of (map room_of s.nodes) (staying_holds s now high) (map (holds_of_job now) (preemptable s now high)) need now

-- once those go that stand at these places, the job fits at this very moment
unfoldable pub makes_room : State → ℕ → PlanJob → JobRecord → List ℕ → Bool
makes_room s now need high places =
    suffices (map room_of s.nodes) (staying_holds s now high) (map (holds_of_job now) (preemptable s now high)) need now
    places

-- the numbers of those that go for this job: none where even all that might don't suffice
unfoldable pub gone_for : State → ℕ → PlanJob → JobRecord → List ℕ
gone_for s now need high = unwrap_or (option_map (ids_at (preemptable s now high)) (places_gone s now need high)) []

-- one of these placements is of the job
abbrev pub is_among : List Placed → PlanJob → Bool
is_among placements need = list_any (λ (placed : Placed). nat_eq placed.id need.id) placements

-- what the highest of those candidates needs that don't start
unfoldable pub first_waiting : State → ℕ → Option PlanJob
first_waiting s now = find (λ need. not (is_among (placements_due s now) need)) (ranked (ready s now) now)

-- the same where others may go for it: preemption is on, and it reaches no limit beside those that hold processors once
-- the others have started
unfoldable pub preemptor : State → ℕ → Option PlanJob
preemptor s now = do
  need ← if preempts_at_all s.settings then first_waiting s now else None
  if may_start s (outcome s now).jobs need.id then Some need else None

-- the numbers of the jobs that go for it, the lowest in rank first
unfoldable pub victims_in : State → ℕ → List ℕ
victims_in s now = unwrap_or (do
  need ← preemptor s now
  high ← job_with need.id s.jobs
  Some (gone_for s now need high)) []

-- the job once those with these numbers are to go: they complete, to be requeued
abbrev pub preempted : ℕ → List ℕ → JobRecord → JobRecord
preempted now gone job = if list_any (λ id. has_id id job) gone then changed (Leave Requeue now None) job else job
