-- The plan stays on nodes that there are, or that are gone.
use Rattle.std.proofs.Common.{ℕ, ◌≡◌, ◌<◌, ◌≤◌, true, false, ◌&&◌, List, [], ◌∷◌, filter, length, map, get_or, All, Option, Some, None, IfSome, nat_eq, slice_get, refl, sym, subst, arith}
use Rattle.std.specs.Prelude.{filter_map}
use Rattle.std.specs.List.{cons_option}
use Rattle.std.proofs.lemmas.Bool.{both_ways, cond_both}
use Rattle.std.proofs.lemmas.List.{length-map}
use Rattle.std.proofs.lemmas.List.Elements.{All-cons, All-filter, All-head, All-nil, All-tail}
use Rattle.std.proofs.lemmas.List.Sorted.{All-permutation}
use Rattle.small_texts.specs.Options.{◌>>=◌}
use Rattle.plain_data.specs.declared.limit.Limit.{Limit}
use Rattle.plain_data.specs.declared.limit.Limit.TheVariants.{Minutes, Unlimited}
use Rattle.plain_data.specs.declared.seconds.TheConstants.{LAST_START}
use Rattle.request_data.specs.declared.report.Report.{Report as Told}
use Rattle.request_data.specs.declared.request.Request.{Request}
use Rattle.backfill_planner.specs.Bases.{BaseView}
use Rattle.backfill_planner.specs.Placements.{AreParts, IsOnRooms, IsPlannable}
use Rattle.backfill_planner.specs.Plans.{plan_of}
use Rattle.backfill_planner.specs.declared.Placed.{Placed}
use Rattle.backfill_planner.specs.declared.job.PlanJob.{PlanJob}
use Rattle.node_state.specs.declared.partition_record.PartRecord.{PartRecord}
use Rattle.node_state.specs.Partitions.{IsOnNodes as IsOfThese}
use Rattle.node_state.specs.Reservations.{lasting}
use Rattle.job_table.specs.declared.record.JobRecord.{JobRecord}
use Rattle.job_table.specs.Table.{job_with}
use Rattle.ctl_state.specs.Events.{waits}
use Rattle.ctl_state.specs.Laws.{JobNodes, OrderMoves}
use Rattle.ctl_state.specs.Ordered.{ordered_by}
use Rattle.ctl_state.specs.Planning.{barred_of, bounds_in, plan_job, room_of, seconds_of}
use Rattle.ctl_state.specs.Soundness.{IsKept as IsSoundJob, IsLimit, IsSound}
use Rattle.ctl_state.specs.State.{State, last_moment, partition_of}
use Rattle.ctl_waiting.specs.Candidates.{candidates, is_candidate, need_in, needs_of, ranked}
use Rattle.ctl_waiting.specs.Rank.{is_higher}
use Rattle.ctl_jobs.specs.Changing.{done_if}
use Rattle.ctl_pass.specs.Readiness.{base_of, jobs_left, placements, planned, ready}
use Rattle.ctl_pass.specs.Starting.{Started, begun, may_start, start_of, started}
use Rattle.ctl_node_side.specs.Answering.{is_restarted}
use Rattle.ctl_node_side.specs.Restarting.{met}
use Rattle.ctl_node_side.specs.Silence.{any_silent, silenced}
use Rattle.step_lemmas.proofs.Making.{ByAction, ByPass, ByReconfigure, ByReport, MayMake}
use Rattle.saved_laws.specs.Kept.{IsOnNodes, is_reconfigure}
use Rattle.saved_laws.proofs.Positions.{all_at}
use Rattle.ctl_node_side.proofs.Silent.{silenced_raised as silenced-moment}

-- what is known of plans
pub record PlanLaws : Type 0 where
  pub parts : (base : BaseView) (ranked : List PlanJob) (now : ℕ) → base.horizon ≤ LAST_START
      → All (IsOnRooms base.rooms) ranked → All IsPlannable ranked
      → All (λ (placed : Placed). AreParts base.rooms placed.parts) (plan_of base ranked now)
  pub moves : OrderMoves JobRecord
  pub nodes : JobNodes
  pub silence : (s : State) (now : ℕ) → IsSound s → s.moment ≤ now → now ≤ last_moment → IsSound (silenced s now)
  pub planned : (s : State) (now : ℕ) → IsSound s → s.moment ≤ now → now ≤ last_moment
      → IsSound (record (ready s now) { plan = []; moment = now })

-- ---- what is ranked

filter-map-all : {A B : Type 0} (P : B → Type 0) (h : A → Option B) (xs : List A) → All (λ x. IfSome (h x) P) xs
    → All P (filter_map h xs)
filter-map-all P h [] each = All-nil P
filter-map-all {A} {B} P h (x ∷ xs) each =
    by (h x) (filter_map h xs) (All-head (λ (y : A). IfSome (h y) P) x xs each)
    (filter-map-all P h xs (All-tail (λ (y : A). IfSome (h y) P) x xs each))
  where
    by : (some : Option B) (later : List B) → IfSome some P → All P later → All P (cons_option some later)
    by None later is rest = rest
    by (Some y) later is rest = All-cons P y later is rest

-- what holds of what a job needs in its partition
needs-all : (P : PlanJob → Type 0) (s : State) (now : ℕ) (job : JobRecord)
    → ((partition : PartRecord) (bounds : ℕ × ℕ) → slice_get s.partitions job.partition ≡ Some partition
    → P (need_in s (lasting now s.reservations) partition bounds job))
    → IfSome (needs_of s now job) P
unfolding needs_of
needs-all P s now job each = by (partition_of s job) refl
  where
    by_bounds : (partition : PartRecord) (some : Option (ℕ × ℕ)) → slice_get s.partitions job.partition ≡ Some partition
        → IfSome (some >>= λ bounds. Some (need_in s (lasting now s.reservations) partition bounds job)) P
    by_bounds partition None is = tt
    by_bounds partition (Some bounds) is = each partition bounds is

    by : (some : Option PartRecord) → slice_get s.partitions job.partition ≡ some
        → IfSome (some >>= λ partition. bounds_in partition job.terms >>= λ bounds.
        Some (need_in s (lasting now s.reservations) partition bounds job)) P
    by None is = tt
    by (Some partition) is = by_bounds partition (bounds_in partition job.terms) is

ranked-all : OrderMoves JobRecord → (P : PlanJob → Type 0) (s : State) (now : ℕ)
    → All (λ (job : JobRecord). (partition : PartRecord) (bounds : ℕ × ℕ)
    → slice_get s.partitions job.partition ≡ Some partition
    → P (need_in s (lasting now s.reservations) partition bounds job)) s.jobs
    → All P (ranked s now)
unfolding ranked candidates
ranked-all moves P s now each =
    let Needs : JobRecord → Type 0 = λ job. IfSome (needs_of s now job) P in
    let chosen = filter (is_candidate s now) s.jobs in
    let sorted = ordered_by (is_higher s now) chosen in
    filter-map-all P (needs_of s now) sorted
    (All-permutation Needs chosen sorted (moves (is_higher s now) chosen)
    (All-filter (is_candidate s now) Needs s.jobs
    (λ k d below. needs-all P s now (get_or s.jobs k d) (each k d below))))

some-second : (limit : Limit) → IsLimit limit → IfSome (seconds_of limit) (λ seconds. 1 ≤ seconds)
some-second (Minutes minutes) is = omega (arith, is.0)
some-second Unlimited is = tt

-- ---- what is planned

-- each placement of a pass is on nodes that there are
planned-there : PlanLaws → (s : State) (now : ℕ) → IsSound s → s.moment ≤ now → now ≤ last_moment
    → All (IsOnNodes (length s.nodes)) (placements s now)
unfolding planned base_of plan_job
planned-there laws s now sound later in_time =
    let r = ready s now in
    let t = laws.planned s now sound later in_time in
    let of-partition : (partition : PartRecord) (k : ℕ) → slice_get s.partitions k ≡ Some partition
    → IsOfThese (length s.nodes) partition = λ partition k is. all_at (IsOfThese (length s.nodes)) s.partitions k partition sound.partitions is in
    let on : All (IsOnRooms (map room_of s.nodes)) (ranked r now) =
    ranked-all laws.moves (IsOnRooms (map room_of s.nodes)) r now
    (λ k d below partition bounds is.
    subst (λ count. All (λ node. node < count) (need_in r (lasting now r.reservations) partition bounds (get_or r.jobs k d)).nodes)
    (sym (length-map s.nodes room_of))
    (laws.nodes s.nodes (lasting now r.reservations) partition
    (barred_of (lasting now r.reservations) (get_or r.jobs k d).terms.reservation) bounds (get_or r.jobs k d)
    (of-partition partition (get_or r.jobs k d).partition is)).0) in
    let plannable : All IsPlannable (ranked r now) =
    ranked-all laws.moves IsPlannable r now
    (λ k d below partition bounds is.
    let kept : IsSoundJob now (get_or r.jobs k d) = t.jobs k d below in
    record {
      once = (laws.nodes s.nodes (lasting now r.reservations) partition
          (barred_of (lasting now r.reservations) (get_or r.jobs k d).terms.reservation) bounds (get_or r.jobs k d)
          (of-partition partition (get_or r.jobs k d).partition is)).1;
      cpus = kept.terms.cpus.0;
      seconds = some-second (get_or r.jobs k d).limit kept.limit;
    }) in
    let parts = laws.parts (base_of r now) (ranked r now) now
    (omega (arith, in_time, sound.settings.window.1)) on plannable in
    λ k d below i e inside.
    subst (λ count. (get_or (get_or (placements s now) k d).parts i e).node < count) (length-map s.nodes room_of)
    ((parts k d below).each i e inside).node

-- what stays of placements is of these
stays-there : (count : ℕ) (s : State) (now : ℕ) (jobs : List JobRecord) (plan : List Placed) → All (IsOnNodes count) plan
    → All (IsOnNodes count) (started s now jobs plan).stays
unfolding started
stays-there count s now jobs [] there = All-nil (IsOnNodes count)
stays-there count s now jobs (placed ∷ later) there =
    let start = start_of s.nodes jobs placed in
    cond_both (nat_eq placed.start now && may_start s jobs placed.id) _ _
    (λ (out : Started). All (IsOnNodes count) out.stays)
    (λ starts. stays-there count s now (begun now jobs start) later (All-tail (IsOnNodes count) placed later there))
    (λ stays. All-cons (IsOnNodes count) placed (started s now jobs later).stays
    (All-head (IsOnNodes count) placed later there)
    (stays-there count s now jobs later (All-tail (IsOnNodes count) placed later there)))

-- ---- what each request makes

-- the state's plan is on nodes that there are
abbrev pub Plans : ℕ → State → Type 0
Plans count s = All (IsOnNodes count) s.plan

met-plan : (count : ℕ) (s : State) (now node : ℕ) (report : Told) → Plans count s → Plans count (met s now node report)
met-plan count s now node report there =
    cond_both (is_restarted s report) _ s (Plans count) (λ restarted. there) (λ not. there)

-- as many nodes are there once silent ones are seen to
silenced-count : (s : State) (now : ℕ) → length (silenced s now).nodes ≡ length s.nodes
silenced-count s now =
    cond_both (any_silent s now) _ s (λ (t : State). length t.nodes ≡ length s.nodes)
    (λ some. length-map s.nodes _) (λ none. refl)

pub made_plan : PlanLaws → (count : ℕ) (s : State) (moment : ℕ) (user : List ℕ) (request : Request) (after : State)
    → is_reconfigure request ≡ false → IsSound s → s.moment ≤ moment → moment ≤ last_moment → length s.nodes ≤ count
    → Plans count s → MayMake s moment user request after → Plans count after
made_plan laws count s moment user request after other sound later in_time more there (ByAction action named asks) =
    All-filter (λ (placed : Placed). waits (job_with placed.id (map (done_if s moment user action named) s.jobs)))
    (IsOnNodes count) s.plan there
made_plan laws count s moment user request after other sound later in_time more there (ByReport report node found) =
    met-plan count s moment node report there
made_plan laws count s moment user request after other sound later in_time more there ByPass =
    let t = silenced s moment in
    let planned : All (IsOnNodes (length s.nodes)) (placements t moment) =
    subst (λ count. All (IsOnNodes count) (placements t moment)) (silenced-count s moment)
    (planned-there laws t moment (laws.silence s moment sound later in_time) (silenced-moment s moment later) in_time) in
    let within : All (IsOnNodes count) (placements t moment) =
    λ k d below i e inside. omega (arith, planned k d below i e inside, more) in
    stays-there count t moment (jobs_left t moment) (placements t moment) within
made_plan laws count s moment user request after other sound later in_time more there (ByReconfigure conf bytes) =
    absurd (both_ways true other refl)
made_plan laws count s moment user request after other sound later in_time more there kind = there
