-- Letting go keeps all sound.
use Rattle.std.proofs.Common.{◌≡◌, ◌≢◌, ℕ, ◌<◌, ◌≤◌, Bool, true, false, not, List, [], ◌∷◌, length, map, sum_by, All, Contains, Option, None, Some, get_or, refl, ap, arith, rules, tests}
use Rattle.std.specs.Prelude.{IfSome}
use Rattle.std.proofs.lemmas.Bool.Decides.{nat_tests}
use Rattle.std.proofs.lemmas.List.Elements.{All-head, All-tail, All-map, All-filter, filter_passes}
use Rattle.std.proofs.lemmas.List.Filters.{sum_by-filter_both}
use Rattle.std.proofs.lemmas.List.Kept.{AllPairs-filter}
use Rattle.std.proofs.lemmas.List.Sums.{sum_by-append}
use Rattle.resource_profile.specs.declared.NodeRoom.{NodeRoom}
use Rattle.backfill_planner.specs.declared.Placed.{Placed}
use Rattle.job_table.specs.declared.record.Part.{Part}
use Rattle.job_table.specs.declared.record.JobRecord.{JobRecord}
use Rattle.job_table.specs.JobStates.{is_pending}
use Rattle.job_table.specs.Table.{HaveRisingIds, job_with}
use Rattle.job_table.specs.Targets.{AreTogether}
use Rattle.ctl_state.specs.declared.record.ArrayRecord.{ArrayRecord}
use Rattle.run_limits.specs.declared.record.AssocRecord.{AssocRecord}
use Rattle.run_limits.specs.declared.record.QosRecord.{QosRecord}
use Rattle.ctl_state.specs.State.{State, last_moment, last_second}
use Rattle.ctl_state.specs.Holding.{IsHeldOnce, IsPartOf, mem_held, mem_in, parts_of, times_held}
use Rattle.ctl_state.specs.Planning.{room_of}
use Rattle.ctl_state.specs.Events.{LetsGo, plan_left, those_left, waits}
use Rattle.ctl_state.specs.Soundness.{AreOfPartitions, IsOfAccounts, AreUp, IsKept, IsSound, PlansPending, is_up_at, pending_ids}
use Rattle.ctl_state.proofs.Held.{cpu_in}
use Rattle.ctl_state.proofs.Kept.{kept-let_go}
use Rattle.ctl_state.proofs.Lists.{All-flat_map, All-from_flat_map, found-passes, pairs-kept, rising-kept}
use Rattle.list_lemmas.proofs.Filters.{filter-all}

-- what stays of a job, and of all jobs, is no more than there was
part-less : (amount : Part → ℕ) (now : ℕ) (job after : JobRecord) → LetsGo now job after → sum_by amount after.parts ≤ sum_by amount job.parts
part-less amount now job after lets =
    omega (arith, sum_by-filter_both (λ part. not (lets.keep part)) lets.keep (λ part. search (rules, tests)) amount job.parts, ap (sum_by amount) lets.parts)

left-less : (amount : Part → ℕ) (now : ℕ) (change : JobRecord → JobRecord) (goes : JobRecord → Bool) (jobs : List JobRecord) → All (λ job. LetsGo now job (change job)) jobs
    → sum_by amount (parts_of (those_left change goes jobs)) ≤ sum_by amount (parts_of jobs)
left-less amount now change goes [] lets = omega arith
left-less amount now change goes (job ∷ jobs) lets =
    let rest = left-less amount now change goes jobs (All-tail (λ one. LetsGo now one (change one)) job jobs lets) in
    let less = part-less amount now job (change job) (All-head (λ one. LetsGo now one (change one)) job jobs lets) in
    let before = sum_by-append amount job.parts (parts_of jobs) in
    let stays = sum_by-append amount (change job).parts (parts_of (those_left change goes jobs)) in
    grind (arith, nat_tests)

-- what holds of all parts holds of those that stay
all-left : (P : Part → Type 0) (now : ℕ) (change : JobRecord → JobRecord) (goes : JobRecord → Bool) (jobs : List JobRecord)
    → All (λ job. LetsGo now job (change job)) jobs → All P (parts_of jobs) → All P (parts_of (those_left change goes jobs))
all-left P now change goes jobs lets all =
    let has : JobRecord → Type 0 = λ job. All P job.parts in
    let parts : JobRecord → List Part = λ job. job.parts in
    let kept : All (λ job. has (change job)) jobs = λ k d below.
    let one = lets k d below in
    rw one.parts (All-filter one.keep P (get_or jobs k d).parts (All-from_flat_map P parts jobs all k d below)) in
    All-flat_map P parts (those_left change goes jobs) (All-filter (λ job. not (goes job)) has (map change jobs) (All-map has change jobs kept))

held-left : (rooms : List NodeRoom) (now : ℕ) (change : JobRecord → JobRecord) (goes : JobRecord → Bool) (jobs : List JobRecord) → All (λ job. LetsGo now job (change job)) jobs
    → IsHeldOnce rooms (parts_of jobs) → IsHeldOnce rooms (parts_of (those_left change goes jobs))
unfolding times_held mem_held
held-left rooms now change goes jobs lets held =
    record {
      each = all-left (IsPartOf rooms) now change goes jobs lets held.each;
      once = λ node cpu. omega (arith, left-less (cpu_in node cpu) now change goes jobs lets, held.once node cpu);
      mem = λ node. omega (arith, left-less (mem_in node) now change goes jobs lets, held.mem node);
    }

-- the tasks of an array stay together
abbrev tag_of : JobRecord → ℕ × Option ℕ
tag_of job = (job.id, job.array)

abbrev FollowsOn : ℕ × Option ℕ → ℕ × Option ℕ → Type 0
FollowsOn one other = IfSome other.1 (λ array. array ≤ one.0 → one.1 ≡ Some array)

pub together-kept : (change : JobRecord → JobRecord) (jobs : List JobRecord)
    → All (λ (job : JobRecord). (change job).id ≡ job.id) jobs
    → All (λ (job : JobRecord). (change job).array ≡ job.array) jobs → AreTogether jobs → AreTogether (map change jobs)
together-kept change jobs same task are =
    let above : JobRecord → Type 0 = λ job. IfSome job.array (λ array. array ≤ job.id) in
    let both : All (λ (job : JobRecord). tag_of (change job) ≡ tag_of job) jobs =
    λ k d below. rw (same k d below, task k d below) refl in
    record {
      after = All-map above change jobs (λ k d below. rw (same k d below, task k d below) (are.after k d below));
      together = pairs-kept FollowsOn tag_of change jobs both are.together;
    }

-- a job that keeps its user, his association and its quality of service is still of them
pub accounts-kept : (assocs : List AssocRecord) (qos : List QosRecord) (job after : JobRecord)
    → after.user ≡ job.user → after.assoc ≡ job.assoc → after.qos ≡ job.qos
    → IsOfAccounts assocs qos job → IsOfAccounts assocs qos after
accounts-kept assocs qos job after whose by with is =
    record { assoc = rw (whose, by) is.assoc; qos = rw with is.qos }

pub sound-left : (s : State) (now : ℕ) (change : JobRecord → JobRecord) (goes : JobRecord → Bool)
    (arrays : List ArrayRecord) (plan : List Placed)
    → IsSound s → now ≤ last_moment → All (λ job. LetsGo now job (change job)) s.jobs
    → PlansPending (those_left change goes s.jobs) plan
    → IsSound (record s { jobs = those_left change goes s.jobs; arrays = arrays; plan = plan; moment = now })
sound-left s now change goes arrays plan sound in_time lets planned =
    let stays : JobRecord → Bool = λ job. not (goes job) in
    let changed = map change s.jobs in
    let after = those_left change goes s.jobs in
    let low : JobRecord → Type 0 = λ job. job.id < s.next_id in
    let of : JobRecord → Type 0 = λ job. job.partition < length s.partitions in
    let same : All (λ (job : JobRecord). (change job).id ≡ job.id) s.jobs = λ k d below. (lets k d below).id in
    let rise : HaveRisingIds after =
    AllPairs-filter (λ (one other : JobRecord). one.id < other.id) stays changed
    (rising-kept (λ (job : JobRecord). job.id) change s.jobs same sound.rising) in
    let tied = together-kept change s.jobs same (λ k d below. (lets k d below).array) sound.together in
    let together : AreTogether after = record {
      after = All-filter stays (λ (job : JobRecord). IfSome job.array (λ array. array ≤ job.id)) changed tied.after;
      together =
          AllPairs-filter (λ (one other : JobRecord). FollowsOn (tag_of one) (tag_of other)) stays changed tied.together;
    } in
    let next : All low after = All-filter stays low changed
    (All-map low change s.jobs (λ k d below. rw (same k d below) (sound.below_next k d below))) in
    let partitions : AreOfPartitions s.partitions after =
    All-filter stays of changed
    (All-map of change s.jobs (λ k d below. rw ((lets k d below).partition) (sound.of_partitions k d below))) in
    let accounts : All (IsOfAccounts s.assocs s.qos) after =
    All-filter stays (IsOfAccounts s.assocs s.qos) changed
    (All-map (IsOfAccounts s.assocs s.qos) change s.jobs
    (λ k d below. accounts-kept s.assocs s.qos (get_or s.jobs k d) (change (get_or s.jobs k d))
    (lets k d below).user (lets k d below).assoc (lets k d below).qos (sound.of_accounts k d below))) in
    let kept : All (IsKept now) after = All-filter stays (IsKept now) changed
    (All-map (IsKept now) change s.jobs (λ k d below. kept-let_go s.moment now (get_or s.jobs k d) (change (get_or s.jobs k d)) (sound.jobs k d below) (lets k d below))) in
    let up : AreUp s.nodes (parts_of after) = all-left (λ (part : Part). is_up_at s.nodes part.node ≡ true) now change goes s.jobs lets sound.up in
    let held = held-left (map room_of s.nodes) now change goes s.jobs lets sound.held in
    search rules

-- the same where every job stays
pub sound-changed : (s : State) (now : ℕ) (change : JobRecord → JobRecord) (plan : List Placed) → IsSound s
    → now ≤ last_moment → All (λ job. LetsGo now job (change job)) s.jobs → PlansPending (map change s.jobs) plan
    → IsSound (record s { jobs = map change s.jobs; plan = plan; moment = now })
sound-changed s now change plan sound in_time lets planned =
    let all : those_left change (λ job. false) s.jobs ≡ map change s.jobs = filter-all (map change s.jobs) in
    let left = sound-left s now change (λ job. false) s.arrays plan sound in_time lets (rw all planned) in
    rw all at left

-- a job that is found and waits is among those that wait
found-waits : (jobs : List JobRecord) (id : ℕ) (found : Option JobRecord) → job_with id jobs ≡ found
    → waits found ≡ true → Contains (pending_ids jobs) id
found-waits jobs id None is never = absurd (let no = never in cc)
found-waits jobs id (Some job) is waiting =
    found-passes (λ (job : JobRecord). job.id) (λ (job : JobRecord). is_pending job.state) id jobs job is waiting

-- what is left of the plan then names those alone that still wait
pub plan-left : (jobs : List JobRecord) (before : List JobRecord) (plan : List Placed) → PlansPending before plan
    → PlansPending jobs (plan_left jobs plan)
plan-left jobs before plan planned =
    let stays : Placed → Bool = λ placed. waits (job_with placed.id jobs) in
    let pending : All (λ (placed : Placed). Contains (pending_ids jobs) placed.id) (plan_left jobs plan) = λ k d below.
    let id = (get_or (plan_left jobs plan) k d).id in
    found-waits jobs id (job_with id jobs) refl (filter_passes stays plan k d below) in
    record {
      pending = pending;
      once = AllPairs-filter (λ (one other : Placed). one.id ≢ other.id) stays plan planned.once;
      last = All-filter stays (λ (placed : Placed). placed.start ≤ last_second) plan planned.last;
    }
