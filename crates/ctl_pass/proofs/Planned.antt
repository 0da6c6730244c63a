-- The plan of a pass: what is held is within the nodes, what is planned is of candidates and can start, and its jobs
-- await that.
use Rattle.std.proofs.lemmas.Bool.Decides.{nat_tests}
use Rattle.std.proofs.Common.{◌≡◌, ◌≢◌, ℕ, ◌+◌, ◌≤◌, ◌<◌, Bool, true, false, ◌&&◌, not, cond, List, [], ◌∷◌, ◌++◌, length, map, filter, flat_map, get_or, sum_by, unwrap_or, All, AllPairs, Contains, Option, Some, None, IfSome, option_map, refl, ap, sym, ◌∙◌, arith}
use Rattle.std.specs.Prelude.{filter_map, is_none}
use Rattle.std.proofs.lemmas.Bool.{and_parts, both_ways, not-true}
use Rattle.std.proofs.lemmas.List.{length-map}
use Rattle.std.proofs.lemmas.List.Elements.{All-contains, All-contains_itself, All-filter, All-head, All-map, All-tail, filter_passes}
use Rattle.resource_profile.specs.declared.Hold.{Hold}
use Rattle.resource_profile.specs.Free.{covers}
use Rattle.resource_profile.specs.Profiles.{AreWithin}
use Rattle.plain_data.specs.declared.limit.Limit.{Limit}
use Rattle.plain_data.specs.declared.limit.Limit.TheVariants.{Minutes, Unlimited}
use Rattle.request_data.specs.declared.state.Reason.{Reason}
use Rattle.request_data.specs.declared.state.Reason.TheVariants.{BeginTime, QosMaxWallDurationPerJobLimit, ReqNodeNotAvail, Reservation as Unreserved}
use Rattle.backfill_planner.specs.declared.Placed.{Placed}
use Rattle.backfill_planner.specs.declared.job.PlanJob.{PlanJob}
use Rattle.backfill_planner.specs.Bases.{BaseView}
use Rattle.backfill_planner.specs.Placements.{IsPlannable, IsOnRooms, AreParts, StartsFit}
use Rattle.backfill_planner.specs.Plans.{plan_of, PlannedView}
use Rattle.node_state.specs.Partitions.{IsOnNodes}
use Rattle.small_texts.specs.Options.{◌>>=◌}
use Rattle.node_state.specs.declared.reservation_record.Reservation.{Reservation}
use Rattle.node_state.specs.ReservationLaws.{LastingTwice}
use Rattle.node_state.specs.Reservations.{lasting, reservation_named}
use Rattle.job_table.specs.declared.standing.Standing.{Standing}
use Rattle.job_table.specs.Laws.{PassesLeaveStandings, SameForOthers}
use Rattle.job_table.specs.Standing.{standing}
use Rattle.job_table.specs.declared.record.JobRecord.{JobRecord}
use Rattle.job_table.specs.declared.record.Part.{Part}
use Rattle.job_table.specs.Changes.{is_on}
use Rattle.job_table.specs.Awaiting.{AwaitedThroughChanges, is_awaited}
use Rattle.job_table.specs.JobStates.{is_ended, is_pending}
use Rattle.job_table.specs.Table.{is_old}
use Rattle.job_table.specs.Usage.{ChangesRunOn, StaysOn}
use Rattle.run_limits.specs.declared.counted.Counted.{Counted}
use Rattle.run_limits.specs.declared.tally.Tally.{Tally}
use Rattle.run_limits.specs.Limits.{Beside, first_reason, limits_reached, reason_if}
use Rattle.run_limits.specs.Tallies.{Shows}
use Rattle.ctl_state.specs.Counted.{counted_of, holding}
use Rattle.ctl_state.specs.Holding.{parts_of, mem_held, IsPartOf}
use Rattle.ctl_state.specs.Laws.{JobNodes, OrderMoves, OrderKeepsApart}
use Rattle.ctl_state.specs.Ordered.{ordered_by}
use Rattle.ctl_state.specs.Planning.{barred_of, bounds_in, plan_job, room_of, seconds_of}
use Rattle.ctl_state.specs.Soundness.{IsSound, IsKept, IsLimit, pending_ids}
use Rattle.ctl_state.specs.State.{State, partition_of, last_moment, last_job_id}
use Rattle.ctl_waiting.specs.FairShare.{rank_at, user_count, user_usage}
use Rattle.ctl_waiting.specs.Laws.{RanksStay}
use Rattle.ctl_waiting.specs.Priority as priority
use Rattle.ctl_waiting.specs.Priority.{all_cpus, greatest_factor, greatest_qos}
use Rattle.ctl_waiting.specs.Rank.{is_higher}
use Rattle.ctl_waiting.specs.Usage.{usage_at}
use Rattle.ctl_pass.specs.Awaiting.{Awaits, CanBegin}
use Rattle.ctl_pass.specs.Limits.{holds_of_job, hold_end, timed_out}
use Rattle.ctl_waiting.specs.Candidates.{is_candidate, candidates, need_in, needs_of, ranked}
use Rattle.ctl_pass.specs.Readiness.{goes, jobs_left, ready, base_of, planned, placements}
use Rattle.ctl_pass.specs.Taking.{CanStart}
use Rattle.ctl_waiting.specs.Reasons.{exceeds_wall, held_reason, hindrance, hindrances_in, is_early, is_too_late, lacks_node, most_tasks, awaiting_reason}
use Rattle.ctl_pass.proofs.Held.{held-counted, free-counted}
use Rattle.ctl_pass.proofs.Lists.{sum_by-map, joined-larger, length-rising, at-place, All-joins, All-joined}
use Rattle.ctl_pass.proofs.Ranks.{IsOfCandidate, waiting, candidates-wait, ordered-agree, ranked-all, ranked-candidates, ranked-waits, ranked-apart}
use Rattle.ctl_pass.proofs.Readied.{ReadyLaws, by_limit, goes-not_running, going, pending-left, readied, running-not_ended, sound-readied, timed_out-runs_on}
use Rattle.ctl_pass.proofs.Tasks.{holding-left, waits-with, with-left}
use Rattle.plain_data.specs.declared.seconds.TheConstants.{LAST_START}
use Rattle.list_lemmas.proofs.Sums.{sum_by-larger}

-- the laws of plans that a pass rests on
abbrev pub PlanIds : Type 0
PlanIds = (base : BaseView) (ranked : List PlanJob) (now : ℕ)
    → All (λ (placed : Placed). Contains (map (λ (job : PlanJob). job.id) ranked) placed.id) (plan_of base ranked now)

abbrev pub PlanApart : Type 0
PlanApart = (base : BaseView) (ranked : List PlanJob) (now : ℕ)
    → AllPairs (λ (one other : PlanJob). one.id ≢ other.id) ranked
    → AllPairs (λ (one other : Placed). one.id ≢ other.id) (plan_of base ranked now)

pub record PlanLaws : Type 0 where
  pub moves : OrderMoves JobRecord
  pub keeps : OrderKeepsApart JobRecord
  pub nodes : JobNodes
  pub ids : PlanIds
  pub apart : PlanApart
  pub starts : (base : BaseView) (ranked : List PlanJob) (now : ℕ)
      → All (λ (placed : Placed). (now ≤ placed.start) × (placed.start ≤ base.horizon)) (plan_of base ranked now)
  pub some : (base : BaseView) (ranked : List PlanJob) (now : ℕ)
      → All (λ (job : PlanJob). 1 ≤ job.need.tasks) ranked
      → All (λ (placed : Placed). 1 ≤ length placed.parts) (plan_of base ranked now)
  pub parts : (base : BaseView) (ranked : List PlanJob) (now : ℕ)
      → base.horizon ≤ LAST_START → All (IsOnRooms base.rooms) ranked → All IsPlannable ranked
      → All (λ (placed : Placed). AreParts base.rooms placed.parts) (plan_of base ranked now)
  pub fit : (base : BaseView) (ranked : List PlanJob) (now : ℕ)
      → AreWithin base.rooms base.holds → base.horizon ≤ LAST_START → All (IsOnRooms base.rooms) ranked
      → All IsPlannable ranked → StartsFit base (plan_of base ranked now) now

-- Of what is counted, processors or megabytes, so much a part has of the node, and a hold holds at a moment.
abbrev pub part_has : (ℕ → ℕ → ℕ) → ℕ → Part → ℕ
part_has counted node part = cond (is_on node part) (counted (length part.cpus) part.mem) 0

abbrev pub hold_has : (ℕ → ℕ → ℕ) → ℕ → ℕ → Hold → ℕ
hold_has counted node moment hold = cond (covers node moment hold) (counted hold.cpus hold.mem) 0

-- what a job holds of its part, until a later moment
abbrev pub hold_of : ℕ → JobRecord → Part → Hold
hold_of now job part =
    record {
      node = part.node;
      from = unwrap_or job.started 0;
      until = hold_end now job;
      cpus = length part.cpus;
      mem =
          part.mem;
    }

pub hold_end-later : (now : ℕ) (job : JobRecord) → now < hold_end now job
hold_end-later now job = grind (arith, nat_tests)

-- at no moment more is held of a node than the parts have
pub held-most : (counted : ℕ → ℕ → ℕ) (node moment now : ℕ) (jobs : List JobRecord)
    → sum_by (hold_has counted node moment) (flat_map (holds_of_job now) jobs) ≤ sum_by (part_has counted node)
    (parts_of jobs)
held-most counted node moment now jobs =
    joined-larger (hold_has counted node moment) (part_has counted node) (holds_of_job now)
    (λ (job : JobRecord). job.parts) jobs
    (λ k d below. let job = get_or jobs k d in
    let each = sum_by-larger (λ part. hold_has counted node moment (hold_of now job part)) (part_has counted node)
    job.parts (λ i part inside. grind (arith, nat_tests)) in
    omega (arith, sum_by-map (hold_has counted node moment) (hold_of now job) job.parts, each))

-- and at this moment no less
held-now : (counted : ℕ → ℕ → ℕ) (node now : ℕ) (jobs : List JobRecord)
    → All (λ (job : JobRecord). unwrap_or job.started 0 ≤ now) jobs
    → sum_by (part_has counted node) (parts_of jobs) ≤ sum_by (hold_has counted node now)
    (flat_map (holds_of_job now) jobs)
held-now counted node now jobs started =
    joined-larger (part_has counted node) (hold_has counted node now) (λ (job : JobRecord). job.parts)
    (holds_of_job now) jobs
    (λ k d below. let job = get_or jobs k d in
    let each = sum_by-larger (part_has counted node) (λ part. hold_has counted node now (hold_of now job part))
    job.parts
    (λ i part inside. grind (arith, nat_tests, started k d below, hold_end-later now job)) in
    omega (arith, sum_by-map (hold_has counted node now) (hold_of now job) job.parts, each))

-- all that is held is within the nodes
pub base-within : (s : State) → IsSound s → AreWithin (map room_of s.nodes) (flat_map (holds_of_job s.moment) s.jobs)
unfolding mem_held
base-within s sound =
    let rooms = map room_of s.nodes in
    let parts = parts_of s.jobs in
    record {
      nodes = All-joins (λ (hold : Hold). hold.node < length rooms) (holds_of_job s.moment) s.jobs
          (λ k d below. let job = get_or s.jobs k d in
          All-map (λ (hold : Hold). hold.node < length rooms) (hold_of s.moment job) job.parts
          (λ i part inside. (All-joined (IsPartOf rooms) (λ (one : JobRecord). one.parts) s.jobs sound.held.each k d
          below i part inside).node));
      windows = All-joins (λ (hold : Hold). hold.from < hold.until) (holds_of_job s.moment) s.jobs
          (λ k d below. let job = get_or s.jobs k d in
          All-map (λ (hold : Hold). hold.from < hold.until) (hold_of s.moment job) job.parts
          (λ i part inside. omega (arith, (sound.jobs k d below).run.start_passed, hold_end-later s.moment job)));
      cpus = λ node moment.
          let free = free-counted rooms parts node (sound.held.once node) in
          omega (
            arith,
            held-most (λ cpus mem. cpus) node moment s.moment s.jobs,
            held-counted rooms parts node sound.held.each,
            free,
          );
      mem = λ node moment. omega (arith, held-most (λ cpus mem. mem) node moment s.moment s.jobs, sound.held.mem node);
    }

-- what is planned for a job can be
record CanBePlanned (s : State) (need : PlanJob) : Type 0 where
  tasks : 1 ≤ need.need.tasks
  nodes : IsOnRooms (map room_of s.nodes) need
  plannable : IsPlannable need

ranked-planned : OrderMoves JobRecord → JobNodes → (s : State) (now : ℕ) → IsSound s
    → All (CanBePlanned s) (ranked s now)
unfolding plan_job
ranked-planned moves job_nodes s now sound = ranked-all moves (CanBePlanned s) s now (λ k d below partition bounds is.
    let job = get_or (waiting s.jobs) k d in
    let kept = All-filter (λ (one : JobRecord). is_pending one.state) (IsKept s.moment) s.jobs sound.jobs k d below in
    let kept_out = barred_of (lasting now s.reservations) job.terms.reservation in
    let nodes = job_nodes s.nodes (lasting now s.reservations) partition kept_out bounds job
    (at-place (IsOnNodes (length s.nodes)) s.partitions job.partition partition sound.partitions is) in
    record {
      tasks = kept.terms.tasks.0;
      nodes = λ i node inside. omega (arith, nodes.0 i node inside, length-map s.nodes room_of);
      plannable = record { once = nodes.1; cpus = kept.terms.cpus.0; seconds = seconds job.limit kept.limit };
    })
  where
    seconds : (limit : Limit) → IsLimit limit → IfSome (seconds_of limit) (λ seconds. 1 ≤ seconds)
    seconds (Minutes minutes) is = omega (arith, is.0)
    seconds Unlimited is = tt

-- so a plan is of jobs that wait
pub plan-waits : OrderMoves JobRecord → PlanIds → (s : State) (now : ℕ)
    → All (λ (placed : Placed). Contains (pending_ids s.jobs) placed.id) (planned s now)
unfolding planned
plan-waits moves ids s now k d below =
    All-contains (Contains (pending_ids s.jobs)) (map (λ (job : PlanJob). job.id) (ranked s now)) _
    (All-map (Contains (pending_ids s.jobs)) (λ (job : PlanJob). job.id) (ranked s now) (ranked-waits moves s now))
    (ids (base_of s now) (ranked s now) now k d below)

-- and of candidates
pub plan-candidates : OrderMoves JobRecord → PlanIds → (s : State) (now : ℕ)
    → All (λ (placed : Placed). IsOfCandidate s now placed.id) (planned s now)
unfolding planned
plan-candidates moves ids s now k d below =
    All-contains (IsOfCandidate s now) (map (λ (job : PlanJob). job.id) (ranked s now)) _
    (All-map (IsOfCandidate s now) (λ (job : PlanJob). job.id) (ranked s now) (ranked-candidates moves s now))
    (ids (base_of s now) (ranked s now) now k d below)

-- The plan of a sound state can start.
pub can-start : PlanLaws → (s : State) → IsSound s → CanStart s (planned s s.moment)
unfolding planned base_of mem_held
can-start laws s sound =
    let now = s.moment in
    let base = base_of s now in
    let jobs = ranked s now in
    let horizon : base.horizon ≤ LAST_START = omega (arith, sound.moment, sound.settings.window.1) in
    let can = ranked-planned laws.moves laws.nodes s now sound in
    let rooms : All (IsOnRooms (map room_of s.nodes)) jobs = λ k d below. (can k d below).nodes in
    let plannable : All IsPlannable jobs = λ k d below. (can k d below).plannable in
    let fit = laws.fit base jobs now (base-within s sound) horizon rooms plannable in
    let started : All (λ (job : JobRecord). unwrap_or job.started 0 ≤ now) s.jobs =
    λ k d below. (sound.jobs k d below).run.start_passed in
    record {
      sound = sound;
      each = λ k d below. record {
        waits = plan-waits laws.moves laws.ids s now k d below;
        last = omega (arith, (laws.starts base jobs now k d below).1, horizon);
        some = laws.some base jobs now (λ j e inside. (can j e inside).tasks) k d below;
        parts = laws.parts base jobs now horizon rooms plannable k d below;
      };
      apart = laws.apart base jobs now (ranked-apart laws.keeps s now sound.rising);
      cpus = λ node. omega (
        arith,
        fit.cpus node,
        held-now (λ cpus mem. cpus) node now s.jobs started,
        held-counted (map room_of s.nodes) (parts_of s.jobs) node sound.held.each,
        free-counted (map room_of s.nodes) (parts_of s.jobs) node (sound.held.once node),
      );
      mem = λ node. omega (arith, fit.mem node, held-now (λ cpus mem. mem) node now s.jobs started);
    }

-- So those of a pass can.
pub can-start_ready : ReadyLaws → PlanLaws → (s : State) (now : ℕ) → IsSound s → s.moment ≤ now → now ≤ last_moment
    → CanStart (readied s now) (placements s now)
unfolding planned base_of ranked candidates needs_of hindrance is_higher priority.parts_of rank_at user_usage user_count usage_at all_cpus greatest_factor greatest_qos
can-start_ready readies plans s now sound raised in_time =
    can-start plans (readied s now) (sound-readied readies s now sound raised in_time)

-- the base has the nodes' rooms
pub base-rooms : (s : State) (now : ℕ) (base : BaseView) → base ≡ base_of s now → base.rooms ≡ map room_of s.nodes
unfolding base_of
base-rooms s now base is = ap (λ (one : BaseView). one.rooms) is

-- what hinders a job at a moment beside what is counted, by what it waits for and by these reservations
abbrev hindered : State → ℕ → JobRecord → List Counted → Standing → List Reservation → Option Reason
hindered s now job counted stands reservations =
    let beside : Beside = record { assocs = s.assocs; qos = s.qos; holding = counted } in
    first_reason (held_reason job.held_by
    ∷ (awaiting_reason stands
    ∷ (reason_if (is_early now job) BeginTime
    ∷ (hindrances_in (partition_of s job) job
    ++ (reason_if (exceeds_wall s job) QosMaxWallDurationPerJobLimit
    ∷ (limits_reached beside (counted_of job) (most_tasks job)
    ++ (reason_if (unwrap_or (option_map (λ name. is_too_late (reservation_named name reservations) now job.limit)
    job.terms.reservation) false) Unreserved
    ∷ reason_if (lacks_node s job) ReqNodeNotAvail ∷ [])))))))

-- the laws of ranks, of dependencies and of reservations that a pass rests on
pub record RankLaws : Type 0 where
  pub changes : ChangesRunOn
  pub stays : StaysOn
  pub ranks : RanksStay
  pub standings : PassesLeaveStandings
  pub awaited : AwaitedThroughChanges
  pub lasting_twice : LastingTwice

-- a limit that is seen to changes nothing for others
timed_out-others : (now : ℕ) (job : JobRecord) → SameForOthers job (timed_out now job)
timed_out-others now job =
    by_limit (SameForOthers job) now job
    (λ over running. let others = running-not_ended job.state running in record {
      id = refl;
      array = refl;
      user = refl;
      index = refl;
      terms = refl;
      starts = refl;
      ended = sym others.0;
      final = λ ended. absurd (both_ways (is_ended job.state) others.0 ended);
    })
    (λ within. record {
      id = refl;
      array = refl;
      user = refl;
      index = refl;
      terms = refl;
      starts = refl;
      ended = refl;
      final = λ ended. refl;
    })

-- so a pending job waits for the same
standing-ready : RankLaws → (s : State) (now : ℕ) (job : JobRecord) → Contains s.jobs job
    → is_pending job.state ≡ true → standing (jobs_left s now) job ≡ standing s.jobs job
standing-ready laws s now job has waits =
    let gone = going laws.awaited s now in
    laws.standings s.jobs (timed_out now) (goes s now) job has waits
    (λ k d below. timed_out-others now (get_or s.jobs k d))
    (λ k d below left. let one = get_or s.jobs k d in
    let out : goes s now one ≡ true = sym (gone.same one) ∙ left in
    (gone.ended one out, not-true _ (and_parts (is_old s.settings.min_job_age now one) (not (is_awaited s.jobs one)) out).1))

-- the same hinders a pending job before the first steps
hindrance-ready : RankLaws → (s : State) (now : ℕ) (job : JobRecord) → Contains s.jobs job
    → is_pending job.state ≡ true → hindrance (ready s now) now job ≡ hindrance s now job
unfolding hindrance
hindrance-ready laws s now job has waits =
    let left = ready s now in
    let counted : holding left.jobs ≡ holding s.jobs = holding-left now (goes s now) s.jobs (going laws.awaited s now) in
    let stands : standing left.jobs job ≡ standing s.jobs job = standing-ready laws s now job has waits in
    let lasts : lasting now left.reservations ≡ lasting now s.reservations = laws.lasting_twice now s.reservations in
    ap (λ some. hindered s now job some (standing left.jobs job) (lasting now left.reservations)) counted
    ∙ ap (λ some. hindered s now job (holding s.jobs) some (lasting now left.reservations)) stands
    ∙ ap (hindered s now job (holding s.jobs) (standing s.jobs job)) lasts

-- no order of two jobs is another after the first steps
higher-ready : RankLaws → (s : State) (now : ℕ) (one other : JobRecord)
    → is_higher (ready s now) now one other ≡ is_higher s now one other
higher-ready laws s now =
    let jobs = map (timed_out now) s.jobs in
    laws.ranks s now jobs (goes s now) (ready s now).arrays (ready s now).reservations
    (timed_out-runs_on laws.changes laws.stays now s.jobs)
    (λ k d below gone. goes-not_running now (goes s now) (get_or jobs k d) (going laws.awaited s now) gone)

-- nor does a job need anything else
needs-ready : RankLaws → (s : State) (now : ℕ) (job : JobRecord) → needs_of (ready s now) now job ≡ needs_of s now job
unfolding needs_of
needs-ready laws s now job =
    ap (λ some. partition_of s job >>= λ partition. bounds_in partition job.terms >>= λ bounds.
    Some (need_in s some partition bounds job)) (laws.lasting_twice now s.reservations)

filter_map-agree : {X Y : Type 0} (f g : X → Option Y) → ((x : X) → f x ≡ g x) → (xs : List X)
    → filter_map f xs ≡ filter_map g xs
filter_map-agree f g same [] = refl
filter_map-agree f g same (x ∷ xs) = rw (same x, filter_map-agree f g same xs) refl

-- so the candidates are those of the state before, in their order
pub ranked-stay : RankLaws → (s : State) (now : ℕ) → ranked (ready s now) now ≡ ranked s now
unfolding ranked candidates
ranked-stay laws s now =
    let left = ready s now in
    let same : filter (is_candidate left now) left.jobs ≡ filter (is_candidate s now) s.jobs =
    candidates-wait left now left.jobs
    ∙ ap (filter (λ job. is_none (hindrance left now job))) (pending-left now (goes s now) s.jobs (going laws.awaited s now))
    ∙ filter_same-where (λ job. is_none (hindrance left now job)) (λ job. is_none (hindrance s now job)) (waiting s.jobs)
    (λ k d below. ap (λ some. is_none some) (hindrance-ready laws s now (get_or (waiting s.jobs) k d)
    (All-filter (λ (job : JobRecord). is_pending job.state) (Contains s.jobs) s.jobs (All-contains_itself s.jobs) k d below)
    (filter_passes (λ (job : JobRecord). is_pending job.state) s.jobs k d below)))
    ∙ sym (candidates-wait s now s.jobs) in
    ap (λ some. filter_map (needs_of left now) (ordered_by (is_higher left now) some)) same
    ∙ filter_map-agree (needs_of left now) (needs_of s now) (needs-ready laws s now)
    (ordered_by (is_higher left now) (filter (is_candidate s now) s.jobs))
    ∙ ap (filter_map (needs_of s now)) (ordered-agree (is_higher left now) (is_higher s now) (higher-ready laws s now)
    (filter (is_candidate s now) s.jobs))
  where
    filter_same-where : (p q : JobRecord → Bool) (jobs : List JobRecord) → All (λ job. p job ≡ q job) jobs
        → filter p jobs ≡ filter q jobs
    filter_same-where p q [] same = refl
    filter_same-where p q (job ∷ jobs) same =
        rw (All-head (λ j. p j ≡ q j) job jobs same, filter_same-where p q jobs (All-tail (λ j. p j ≡ q j) job jobs same)) refl

pub plan-is : (s : State) (now : ℕ) (made : PlannedView) (base : BaseView) (jobs : List PlanJob)
    → made ≡ record { base = base; ranked = jobs; moment = now }
    → base ≡ base_of (ready s now) now → jobs ≡ ranked (ready s now) now
    → plan_of made.base made.ranked made.moment ≡ placements s now
unfolding planned
plan-is s now made base jobs is base_is jobs_are =
    ap (λ (one : PlannedView). plan_of one.base one.ranked one.moment) is ∙ rw (base_is, jobs_are) refl

-- the numbers of the jobs bound how many there are
pub few-jobs : (s : State) → IsSound s → length s.jobs ≤ last_job_id + 1
few-jobs s sound =
    omega (
      arith,
      length-rising (λ (job : JobRecord). job.id) 0 s.next_id s.jobs (omega arith) sound.rising
          (λ k d below. omega arith) sound.below_next,
      sound.next,
    )

-- a pending job waits as it did before the first steps
awaits-still : AwaitedThroughChanges → (s : State) (now : ℕ) (placed : Placed) → IsSound s → IsSound (readied s now)
    → Contains (pending_ids (jobs_left s now)) placed.id → Awaits s.jobs (jobs_left s now) placed
awaits-still law s now placed sound ready_sound waits =
    let gone = going law s now in
    let before = waits-with placed.id s.jobs sound.rising (rw (pending-left now (goes s now) s.jobs gone) at waits) in
    record {
      waits = waits-with placed.id (jobs_left s now) ready_sound.rising waits;
      same = with-left now placed.id (goes s now) s.jobs gone before;
    }

-- so all placements of a pass can begin, beside what is counted
pub can-begin-ready : AwaitedThroughChanges → OrderMoves JobRecord → OrderKeepsApart JobRecord → PlanIds → PlanApart
    → (s : State) (now : ℕ) (tally : Tally) (plan : List Placed)
    → IsSound s → IsSound (readied s now) → plan ≡ placements s now → Shows s.assocs tally (holding s.jobs)
    → CanBegin s.assocs s.jobs (jobs_left s now) tally plan
unfolding planned
can-begin-ready law moves keeps ids apart s now tally plan sound ready_sound is counted =
    let left = ready s now in
    let waits : All (λ (placed : Placed). Contains (pending_ids left.jobs) placed.id) plan =
    rw is (plan-waits moves ids left now) in
    record {
      rising = ready_sound.rising;
      counted = rw (holding-left now (goes s now) s.jobs (going law s now)) counted;
      awaits = λ k d below. awaits-still law s now (get_or plan k d) sound ready_sound (waits k d below);
      once = rw is (apart (base_of left now) (ranked left now) now (ranked-apart keeps left now ready_sound.rising));
    }
