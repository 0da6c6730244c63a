-- A waiting job that takes free parts keeps all sound, and adds just these to what is held.
use Rattle.std.proofs.Common.{◌≡◌, ◌≢◌, ℕ, ◌+◌, ◌<◌, ◌≤◌, Bool, true, false, cond, ◌&&◌, eqb, List, length, map, sum_by, All, AllPairs, Any, Contains, get_or, refl, ◌∙◌, sym, arith, rules, inl, inr}
use Rattle.std.specs.List.{list_any}
use Rattle.std.proofs.lemmas.Bool.{cases_Bool, cases_eq, cond_both, and_parts, eqb-true, ne_eqb}
use Rattle.std.proofs.lemmas.List.Elements.{All-map, All-weaker}
use Rattle.std.proofs.lemmas.List.Folds.{Any-from_list_any}
use Rattle.request_data.specs.declared.state.JobState.{JobState}
use Rattle.request_data.specs.declared.state.JobState.TheVariants.{Pending, Running, Completing, Ended}
use Rattle.backfill_planner.specs.declared.Placed.{Placed}
use Rattle.job_table.specs.declared.record.Part.{Part}
use Rattle.job_table.specs.declared.record.JobRecord.{JobRecord}
use Rattle.job_table.specs.declared.change.Change.TheVariants.{Start}
use Rattle.job_table.specs.JobStates.{is_pending}
use Rattle.job_table.specs.Changes.{changed}
use Rattle.job_table.specs.Table.{HaveRisingIds}
use Rattle.job_table.specs.Targets.{AreTogether}
use Rattle.ctl_state.specs.State.{State}
use Rattle.ctl_state.specs.Holding.{IsHeldOnce, IsPartOf, OnNodesApart, has_cpu, mem_held, mem_in, parts_of, times_held}
use Rattle.ctl_state.specs.Planning.{room_of}
use Rattle.ctl_state.specs.Events.{MayTake, started_as}
use Rattle.ctl_state.specs.Soundness.{AreOfPartitions, IsOfAccounts, AreUp, IsKept, IsSound, PlansPending, is_up_at, pending_ids}
use Rattle.ctl_state.proofs.Counts.{count-once, sum-grown, sum_by-flat_map}
use Rattle.ctl_state.proofs.Held.{cpu_in, was-held}
use Rattle.ctl_state.proofs.Kept.{kept-started, pending-nothing}
use Rattle.ctl_state.proofs.LetGo.{accounts-kept, together-kept}
use Rattle.ctl_state.proofs.Lists.{All-flat_map, All-from_flat_map, contains-still, rising-kept}

-- a job with another number stays as it is
other-same : (now id : ℕ) (parts : List Part) (names : List (List ℕ)) (job : JobRecord) → job.id ≢ id
    → started_as now id parts names job ≡ job
other-same now id parts names job other = rw (ne_eqb job.id id other) refl

same-partition : (now id : ℕ) (parts : List Part) (names : List (List ℕ)) (job : JobRecord)
    → (started_as now id parts names job).partition ≡ job.partition
same-partition now id parts names job =
    cond_both (eqb job.id id) (changed (Start now parts names) job) job
    (λ (after : JobRecord). after.partition ≡ job.partition) (λ here. refl) (λ other. refl)

same-id : (now id : ℕ) (parts : List Part) (names : List (List ℕ)) (job : JobRecord)
    → (started_as now id parts names job).id ≡ job.id
same-id now id parts names job = cond_both (eqb job.id id) (changed (Start now parts names) job) job
    (λ (after : JobRecord). after.id ≡ job.id) (λ here. refl) (λ other. refl)

same-accounts : (now id : ℕ) (parts : List Part) (names : List (List ℕ)) (job : JobRecord)
    → ((started_as now id parts names job).user ≡ job.user) × ((started_as now id parts names job).assoc ≡ job.assoc)
    × ((started_as now id parts names job).qos ≡ job.qos)
same-accounts now id parts names job =
    cond_both (eqb job.id id) (changed (Start now parts names) job) job
    (λ (after : JobRecord). (after.user ≡ job.user) × (after.assoc ≡ job.assoc) × (after.qos ≡ job.qos))
    (λ here. (refl, refl, refl)) (λ other. (refl, refl, refl))

same-array : (now id : ℕ) (parts : List Part) (names : List (List ℕ)) (job : JobRecord)
    → (started_as now id parts names job).array ≡ job.array
same-array now id parts names job =
    cond_both (eqb job.id id) (changed (Start now parts names) job) job
    (λ (after : JobRecord). after.array ≡ job.array) (λ here. refl) (λ other. refl)

pub others-wait : (jobs : List JobRecord) (now id other : ℕ) (parts : List Part) (names : List (List ℕ))
    → Contains (pending_ids jobs) other → other ≢ id
    → Contains (pending_ids (map (started_as now id parts names) jobs)) other
others-wait jobs now id other parts names waits differ =
    contains-still (λ (job : JobRecord). job.id) (λ (job : JobRecord). is_pending job.state)
    (started_as now id parts names) other jobs
    (λ (job : JobRecord) is. other-same now id parts names job (λ same. differ (sym is ∙ same))) waits

-- what is held grows by just the parts
sum-taken : (amount : Part → ℕ) (moment now id : ℕ) (parts : List Part) (names : List (List ℕ))
    (jobs : List JobRecord) → HaveRisingIds jobs → All (IsKept moment) jobs → Contains (pending_ids jobs) id
    → sum_by amount (parts_of (map (started_as now id parts names) jobs))
    ≡ sum_by amount (parts_of jobs) + sum_by amount parts
sum-taken amount moment now id parts names jobs rising kept waits =
    let held : JobRecord → List Part = λ job. job.parts in
    let over : JobRecord → ℕ = λ job. sum_by amount job.parts in
    let nothing : (job : JobRecord) → IsKept moment job → is_pending job.state ≡ true → over job ≡ 0 = λ job is pending. rw (pending-nothing moment job is pending) refl in
    let grown = sum-grown (λ (job : JobRecord). job.id) (λ (job : JobRecord). is_pending job.state)
    (changed (Start now parts names)) over id (sum_by amount parts) jobs rising waits
    (λ k d below pending. omega (arith, nothing (get_or jobs k d) (kept k d below) pending)) in
    let started = map (started_as now id parts names) jobs in
    omega (arith, grown, sum_by-flat_map amount held jobs, sum_by-flat_map amount held started)

pub times-taken : (s : State) (now id node cpu : ℕ) (parts : List Part) (names : List (List ℕ)) → IsSound s
    → Contains (pending_ids s.jobs) id
    → times_held (parts_of (map (started_as now id parts names) s.jobs)) node cpu
    ≡ times_held (parts_of s.jobs) node cpu + times_held parts node cpu
unfolding times_held
times-taken s now id node cpu parts names sound waits =
    sum-taken (cpu_in node cpu) s.moment now id parts names s.jobs sound.rising sound.jobs waits

pub mem-taken : (s : State) (now id node : ℕ) (parts : List Part) (names : List (List ℕ)) → IsSound s
    → Contains (pending_ids s.jobs) id
    → mem_held (parts_of (map (started_as now id parts names) s.jobs)) node
    ≡ mem_held (parts_of s.jobs) node + mem_held parts node
unfolding mem_held
mem-taken s now id node parts names sound waits =
    sum-taken (mem_in node) s.moment now id parts names s.jobs sound.rising sound.jobs waits

-- parts on nodes that differ have a processor once at most
parts-once : (node cpu : ℕ) (parts : List Part) → OnNodesApart parts → times_held parts node cpu ≤ 1
unfolding times_held
parts-once node cpu parts apart = count-once (has_cpu node cpu) parts off
  where
    off : AllPairs (λ (one other : Part). has_cpu node cpu one ≡ true → has_cpu node cpu other ≡ false) parts
    off i j d before below has =
        let on = (and_parts (eqb (get_or parts i d).node node) (list_any (λ id. eqb id cpu) (get_or parts i d).cpus) has).0 in
        rw (ne_eqb (get_or parts j d).node node (λ same. apart i j d before below (eqb-true (get_or parts i d).node node on ∙ sym same))) refl

-- a processor that one of them has was held by none
was-free : (times : ℕ → ℕ → ℕ) (node cpu : ℕ) (parts : List Part) → All (λ (part : Part). All (λ id. times part.node id ≡ 0) part.cpus) parts
    → Any (λ part. has_cpu node cpu part ≡ true) parts → times node cpu ≡ 0
was-free times node cpu parts unheld (k, part, below, is, has) =
    let both = and_parts (eqb part.node node) (list_any (λ id. eqb id cpu) part.cpus) has in
    let here : All (λ id. times part.node id ≡ 0) part.cpus = rw is at (unheld k part below) in
    let none : All (λ id. times node id ≡ 0) part.cpus = rw (eqb-true part.node node both.0) at here in
    found none (Any-from_list_any (λ id. eqb id cpu) part.cpus both.1)
  where
    found : All (λ id. times node id ≡ 0) part.cpus → Any (λ id. eqb id cpu ≡ true) part.cpus → times node cpu ≡ 0
    found none (place, id, inside, at, same) = rw (← eqb-true id cpu same) (rw at at (none place id inside))

-- what holds of all parts that are held and of those that are taken holds of all that are held then
all-taken : (P : Part → Type 0) (now id : ℕ) (parts : List Part) (names : List (List ℕ)) (jobs : List JobRecord)
    → All P parts → All P (parts_of jobs)
    → All P (parts_of (map (started_as now id parts names) jobs))
all-taken P now id parts names jobs new old =
    let held : JobRecord → List Part = λ job. job.parts in
    let has : JobRecord → Type 0 = λ job. All P job.parts in
    let start = started_as now id parts names in
    All-flat_map P held (map start jobs) (All-map has start jobs (All-weaker has (λ job. has (start job))
    (λ job had. cond_both (eqb job.id id) (changed (Start now parts names) job) job has (λ here. new) (λ other. had))
    jobs (All-from_flat_map P held jobs old)))

held-taken : (s : State) (id : ℕ) (parts : List Part) (names : List (List ℕ)) → IsSound s
    → MayTake s.nodes s.jobs id parts
    → IsHeldOnce (map room_of s.nodes) (parts_of (map (started_as s.moment id parts names) s.jobs))
held-taken s id parts names sound may =
    record {
      each = all-taken (IsPartOf (map room_of s.nodes)) s.moment id parts names s.jobs may.each sound.held.each;
      once = λ node cpu.
          let sum = times-taken s s.moment id node cpu parts names sound may.waits in
          elim (cases_eq (times_held parts node cpu) 0) [
            | inl none ↦ omega (arith, sum, none, sound.held.once node cpu)
            | inr some ↦ omega (
              arith,
              sum,
              parts-once node cpu parts may.apart,
              was-free (times_held (parts_of s.jobs)) node cpu parts may.unheld (was-held node cpu parts (omega (arith, some))),
            )
          ];
      mem = λ node. omega (arith, mem-taken s s.moment id node parts names sound may.waits, may.mem node);
    }

pub sound-taken : (s : State) (id : ℕ) (parts : List Part) (names : List (List ℕ)) (plan : List Placed) → IsSound s
    → MayTake s.nodes s.jobs id parts
    → PlansPending (map (started_as s.moment id parts names) s.jobs) plan
    → IsSound (record s { jobs = map (started_as s.moment id parts names) s.jobs; plan = plan })
sound-taken s id parts names plan sound may planned =
    let start = started_as s.moment id parts names in
    let low : JobRecord → Type 0 = λ job. job.id < s.next_id in
    let of : JobRecord → Type 0 = λ job. job.partition < length s.partitions in
    let same : All (λ (job : JobRecord). (start job).id ≡ job.id) s.jobs =
    λ k d below. same-id s.moment id parts names (get_or s.jobs k d) in
    let rise : HaveRisingIds (map start s.jobs) =
    rising-kept (λ (job : JobRecord). job.id) start s.jobs same sound.rising in
    let together : AreTogether (map start s.jobs) =
    together-kept start s.jobs same
    (λ k d below. same-array s.moment id parts names (get_or s.jobs k d)) sound.together in
    let next : All low (map start s.jobs) = All-map low start s.jobs
    (λ k d below. rw (same-id s.moment id parts names (get_or s.jobs k d)) (sound.below_next k d below)) in
    let partitions : AreOfPartitions s.partitions (map start s.jobs) =
    All-map of start s.jobs (λ k d below. rw (same-partition s.moment id parts names (get_or s.jobs k d))
    (sound.of_partitions k d below)) in
    let accounts : All (IsOfAccounts s.assocs s.qos) (map start s.jobs) =
    All-map (IsOfAccounts s.assocs s.qos) start s.jobs
    (λ k d below. let stays = same-accounts s.moment id parts names (get_or s.jobs k d) in
    accounts-kept s.assocs s.qos (get_or s.jobs k d) (start (get_or s.jobs k d)) stays.0 stays.1 stays.2
    (sound.of_accounts k d below)) in
    let kept : All (IsKept s.moment) (map start s.jobs) = All-map (IsKept s.moment) start s.jobs (All-weaker (IsKept s.moment) (λ job. IsKept s.moment (start job))
    (λ job kept. cond_both (eqb job.id id) (changed (Start s.moment parts names) job) job (IsKept s.moment)
    (λ here. kept-started s.moment parts names job may.some may.apart kept) (λ other. kept)) s.jobs sound.jobs) in
    let up : AreUp s.nodes (parts_of (map start s.jobs)) =
    all-taken (λ (part : Part). is_up_at s.nodes part.node ≡ true) s.moment id parts names s.jobs may.up sound.up in
    let held = held-taken s id parts names sound may in
    search rules
