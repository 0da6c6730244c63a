-- What a pass plans: what the candidates need, each of a job that waits.
use Rattle.std.proofs.Common.{◌≡◌, ◌≢◌, ℕ, ◌≤◌, Bool, List, [], ◌∷◌, length, filter, get_or, All, AllPairs, Any, Contains, true, Option, Some, None, arith, refl}
use Rattle.std.specs.Prelude.{IfSome, is_none, slice_get, filter_map}
use Rattle.std.specs.List.{cons_option}
use Rattle.std.proofs.lemmas.Bool.Decides.{nat_tests}
use Rattle.std.proofs.lemmas.List.{get_or-map, get_or_default, length-map}
use Rattle.std.proofs.lemmas.List.Elements.{All-cons, All-filter, All-head, All-nil, All-tail, filter_passes}
use Rattle.std.proofs.lemmas.List.Kept.{AllPairs-cons, AllPairs-filter}
use Rattle.std.proofs.lemmas.List.Sorted.{All-permutation}
use Rattle.backfill_planner.specs.declared.job.PlanJob.{PlanJob}
use Rattle.node_state.specs.declared.partition_record.PartRecord.{PartRecord}
use Rattle.small_texts.specs.Options.{◌>>=◌}
use Rattle.job_table.specs.declared.record.JobRecord.{JobRecord}
use Rattle.job_table.specs.JobStates.{is_pending}
use Rattle.ctl_state.specs.Ordered.{put, ordered_by}
use Rattle.ctl_state.specs.Laws.{OrderMoves, OrderKeepsApart}
use Rattle.node_state.specs.Reservations.{lasting}
use Rattle.ctl_state.specs.Planning.{bounds_in, plan_job}
use Rattle.ctl_state.specs.Soundness.{pending_ids}
use Rattle.job_table.specs.Table.{HaveRisingIds}
use Rattle.ctl_state.specs.State.{State, partition_of}
use Rattle.ctl_waiting.specs.Rank.{is_higher}
use Rattle.ctl_waiting.specs.Candidates.{is_candidate, candidates, need_in, needs_of, ranked}
use Rattle.ctl_waiting.specs.Reasons.{hindrance}
use Rattle.list_lemmas.proofs.Pairs.{pairs-head, pairs-tail}

-- an order of elements of which any two compare in the same way
put-agree : {X : Type 0} (before other : X → X → Bool) → ((x y : X) → before x y ≡ other x y) → (x : X) (xs : List X)
    → put before x xs ≡ put other x xs
put-agree before other same x [] = refl
put-agree before other same x (y ∷ ys) = rw (same y x, put-agree before other same x ys) refl

pub ordered-agree : {X : Type 0} (before other : X → X → Bool) → ((x y : X) → before x y ≡ other x y) → (xs : List X)
    → ordered_by before xs ≡ ordered_by other xs
unfolding ordered_by
ordered-agree before other same [] = refl
ordered-agree before other same (x ∷ xs) =
    rw (ordered-agree before other same xs) (put-agree before other same x (ordered_by other xs))

-- of what is had of some elements, what holds of each, and of each two
pub filter_map-all : {X Y : Type 0} (P : Y → Type 0) (h : X → Option Y) (xs : List X)
    → All (λ x. IfSome (h x) P) xs → All P (filter_map h xs)
filter_map-all {Y = Y} P h [] each = All-nil P
filter_map-all {Y = Y} P h (x ∷ xs) each =
    by (h x) (filter_map h xs) (All-head (λ y. IfSome (h y) P) x xs each)
    (filter_map-all P h xs (All-tail (λ y. IfSome (h y) P) x xs each))
  where
    by : (some : Option Y) (later : List Y) → IfSome some P → All P later → All P (cons_option some later)
    by None later is rest = rest
    by (Some y) later is rest = All-cons P y later is rest

filter_map-pairs : {X Y : Type 0} (R : Y → Y → Type 0) (h : X → Option Y) (xs : List X)
    → AllPairs (λ one other. IfSome (h one) (λ y. IfSome (h other) (R y))) xs → AllPairs R (filter_map h xs)
filter_map-pairs R h [] pairs = λ i j d before below. absurd (omega (arith, below))
filter_map-pairs {X = X} {Y = Y} R h (x ∷ xs) pairs =
    let both = λ (one other : X). IfSome (h one) (λ y. IfSome (h other) (R y)) in
    by (h x) (pairs-head both x xs pairs) (filter_map-pairs R h xs (pairs-tail both x xs pairs))
  where
    by : (some : Option Y) → All (λ other. IfSome some (λ y. IfSome (h other) (R y))) xs → AllPairs R (filter_map h xs)
        → AllPairs R (cons_option some (filter_map h xs))
    by None first rest = rest
    by (Some y) first rest = AllPairs-cons R y (filter_map h xs) (filter_map-all (R y) h xs first) rest

pub filter_map-less : {X Y : Type 0} (h : X → Option Y) (xs : List X) → length (filter_map h xs) ≤ length xs
filter_map-less h [] = omega arith
filter_map-less {Y = Y} h (x ∷ xs) = by (h x) (filter_map-less h xs)
  where
    by : (some : Option Y) → length (filter_map h xs) ≤ length xs
        → length (cons_option some (filter_map h xs)) ≤ length (x ∷ xs)
    by None less = omega (arith, less)
    by (Some y) less = omega (arith, less)

-- the candidates are some of those that wait
abbrev pub waiting : List JobRecord → List JobRecord
waiting jobs = filter (λ (job : JobRecord). is_pending job.state) jobs

pub candidates-wait : (s : State) (now : ℕ) (jobs : List JobRecord)
    → filter (is_candidate s now) jobs ≡ filter (λ job. is_none (hindrance s now job)) (waiting jobs)
candidates-wait s now [] = refl
candidates-wait s now (job ∷ jobs) = grind (arith, nat_tests, candidates-wait s now jobs)

-- what holds of what a job needs in its partition
needs-all : (P : PlanJob → Type 0) (s : State) (now : ℕ) (job : JobRecord)
    → ((partition : PartRecord) (bounds : ℕ × ℕ) → slice_get s.partitions job.partition ≡ Some partition
    → P (need_in s (lasting now s.reservations) partition bounds job))
    → IfSome (needs_of s now job) P
unfolding needs_of
needs-all P s now job each = by (partition_of s job) refl
  where
    by_bounds : (partition : PartRecord) (some : Option (ℕ × ℕ)) → slice_get s.partitions job.partition ≡ Some partition
        → IfSome (some >>= λ bounds. Some (need_in s (lasting now s.reservations) partition bounds job)) P
    by_bounds partition None is = tt
    by_bounds partition (Some bounds) is = each partition bounds is

    by : (some : Option PartRecord) → slice_get s.partitions job.partition ≡ some
        → IfSome (some >>= λ partition. bounds_in partition job.terms >>= λ bounds.
        Some (need_in s (lasting now s.reservations) partition bounds job)) P
    by None is = tt
    by (Some partition) is = by_bounds partition (bounds_in partition job.terms) is

-- what holds of what each candidate may need
ranked-of : OrderMoves JobRecord → (P : PlanJob → Type 0) (s : State) (now : ℕ)
    → All (λ (job : JobRecord). IfSome (needs_of s now job) P) (filter (is_candidate s now) s.jobs) → All P (ranked s now)
unfolding ranked candidates
ranked-of moves P s now each =
    let chosen = filter (is_candidate s now) s.jobs in
    let sorted = ordered_by (is_higher s now) chosen in
    filter_map-all P (needs_of s now) sorted (All-permutation (λ (job : JobRecord). IfSome (needs_of s now job) P) chosen sorted
    (moves (is_higher s now) chosen) each)

-- what holds of what each waiting job may need
pub ranked-all : OrderMoves JobRecord → (P : PlanJob → Type 0) (s : State) (now : ℕ)
    → All (λ (job : JobRecord). (partition : PartRecord) (bounds : ℕ × ℕ)
    → slice_get s.partitions job.partition ≡ Some partition
    → P (need_in s (lasting now s.reservations) partition bounds job)) (waiting s.jobs)
    → All P (ranked s now)
ranked-all moves P s now each =
    let needs : JobRecord → Type 0 = λ job. IfSome (needs_of s now job) P in
    ranked-of moves P s now (rw (candidates-wait s now s.jobs)
    (All-filter (λ job. is_none (hindrance s now job)) needs (waiting s.jobs)
    (λ k d below. needs-all P s now (get_or (waiting s.jobs) k d) (each k d below))))

-- the job with this number is a candidate at a moment
abbrev pub IsOfCandidate : State → ℕ → ℕ → Type 0
IsOfCandidate s now id = Any (λ (job : JobRecord). (job.id ≡ id) × (is_candidate s now job ≡ true)) s.jobs

-- they are of candidates
pub ranked-candidates : OrderMoves JobRecord → (s : State) (now : ℕ)
    → All (λ (need : PlanJob). IsOfCandidate s now need.id) (ranked s now)
unfolding plan_job
ranked-candidates moves s now =
    let chosen = filter (is_candidate s now) s.jobs in
    let each : All (λ (job : JobRecord). is_candidate s now job ≡ true → IsOfCandidate s now job.id) s.jobs =
    λ k d below passes. (
      k,
      get_or s.jobs k d,
      below,
      get_or_default s.jobs k (get_or s.jobs k d) d below,
      (refl, passes),
    ) in
    ranked-of moves (λ (need : PlanJob). IsOfCandidate s now need.id) s now
    (λ k d below. needs-all (λ (need : PlanJob). IsOfCandidate s now need.id) s now (get_or chosen k d)
    (λ partition bounds is. All-filter (is_candidate s now) (λ (job : JobRecord). is_candidate s now job ≡ true
    → IsOfCandidate s now job.id) s.jobs each k d below (filter_passes (is_candidate s now) s.jobs k d below)))

-- they are of jobs that wait
pub ranked-waits : OrderMoves JobRecord → (s : State) (now : ℕ)
    → All (λ (job : PlanJob). Contains (pending_ids s.jobs) job.id) (ranked s now)
unfolding plan_job
ranked-waits moves s now =
    ranked-all moves (λ (job : PlanJob). Contains (pending_ids s.jobs) job.id) s now
    (λ k d below partition bounds is. (
      k,
      omega (
        arith,
        below,
        length-map (waiting s.jobs) (λ (job : JobRecord). job.id),
      ),
      get_or-map (λ (job : JobRecord). job.id) (waiting s.jobs) k d _ below,
    ))

-- of different ones
pub ranked-apart : OrderKeepsApart JobRecord → (s : State) (now : ℕ) → HaveRisingIds s.jobs
    → AllPairs (λ (one other : PlanJob). one.id ≢ other.id) (ranked s now)
unfolding ranked candidates plan_job
ranked-apart keeps s now rising =
    let apart : AllPairs (λ (one other : JobRecord). one.id ≢ other.id) s.jobs =
    λ i j d before within same. omega (arith, rising i j d before within, same) in
    let sorted = keeps (is_higher s now) (λ (job : JobRecord). job.id) (filter (is_candidate s now) s.jobs)
    (AllPairs-filter (λ (one other : JobRecord). one.id ≢ other.id) (is_candidate s now) s.jobs apart) in
    filter_map-pairs (λ (one other : PlanJob). one.id ≢ other.id) (needs_of s now)
    (ordered_by (is_higher s now) (filter (is_candidate s now) s.jobs))
    (λ i j d before below. let one = get_or (ordered_by (is_higher s now) (filter (is_candidate s now) s.jobs)) i d in
    let other = get_or (ordered_by (is_higher s now) (filter (is_candidate s now) s.jobs)) j d in
    needs-all (λ (need : PlanJob). IfSome (needs_of s now other) (λ (later : PlanJob). need.id ≢ later.id)) s now one
    (λ partition bounds is. needs-all (λ (later : PlanJob). one.id ≢ later.id) s now other
    (λ part most same. sorted i j d before below)))
