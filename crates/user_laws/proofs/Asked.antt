-- A job that is granted what it needs has what it has asked for, and a plan grants that.
use Rattle.std.proofs.Common.{zero, suc, ℕ, ◌≡◌, ◌≢◌, ◌≤◌, ◌∙◌, true, false, List, [], ◌∷◌, ◌++◌, map, All, AllPairs, Any, Option, Some, None, length, get_or, slice_get, slice_index, sum_by, refl, sym, subst, arith}
use Rattle.std.specs.List.{AllZip}
use Rattle.std.specs.Option.{option_to_list}
use Rattle.std.proofs.lemmas.Bool.{both_ways}
use Rattle.std.proofs.lemmas.List.Elements.{All-append, All-cons, All-contains, All-head, All-nil, All-tail}
use Rattle.resource_profile.specs.declared.NodeRoom.{NodeRoom}
use Rattle.resource_profile.specs.declared.Hold.{Hold}
use Rattle.resource_profile.specs.Free.{room_at}
use Rattle.backfill_planner.specs.declared.Placed.{Placed}
use Rattle.backfill_planner.specs.declared.Share.{Share}
use Rattle.backfill_planner.specs.declared.job.PlanJob.{PlanJob}
use Rattle.backfill_planner.specs.Bases.{BaseView}
use Rattle.backfill_planner.specs.Placements.{IsPlacement}
use Rattle.backfill_planner.specs.Plans.{holds_of, placed_of, plan_beside, plan_of}
use Rattle.node_state.specs.declared.partition_record.PartRecord.{PartRecord}
use Rattle.node_state.specs.declared.record.NodeRecord.{NodeRecord}
use Rattle.node_state.specs.declared.reservation_record.Reservation.{Reservation}
use Rattle.node_state.specs.Nodes.{is_available, is_named}
use Rattle.node_state.specs.Partitions.{IsOnNodes}
use Rattle.node_state.specs.Reservations.{lasting}
use Rattle.job_table.specs.declared.record.JobRecord.{JobRecord}
use Rattle.job_table.specs.declared.record.Part.{Part}
use Rattle.ctl_state.specs.Holding.{OnNodesApart}
use Rattle.ctl_state.specs.Laws.{JobNodes}
use Rattle.ctl_state.specs.Planning.{barred_of, is_at, nodes_among, places_for, plan_job, room_of}
use Rattle.ctl_state.specs.State.{State}
use Rattle.ctl_waiting.specs.Candidates.{ranked}
use Rattle.ctl_pass.specs.Readiness.{base_of, planned}
use Rattle.ctl_pass.specs.Starting.{IsAsPlanned}
use Rattle.user_laws.specs.Asked.{HasTasks, HasWhatWasAsked, IsForJob, cpus_for, mem_for, room_under}
use Rattle.user_laws.proofs.Granting.{IsGranted, IsShare, placement_grants}
use Rattle.user_laws.proofs.Lists.{sum_mapped, zip_all, zip_any, zip_long, zip_mapped}
use Rattle.user_laws.proofs.Needing.{IsNeedOf, IsNeeded, IsPlace, NeededBy, need_places, ranked_needed, required_are_first}
use Rattle.daemon_world.proofs.Lists.{any_weaker}

-- ---- what a job has that is granted what it needs

usable-at : (nodes : List NodeRecord) (place : ℕ) → (room_at (map room_of nodes) place).usable ≡ true
    → is_at is_available nodes place ≡ true
usable-at [] place is = absurd (both_ways false refl is)
usable-at (node ∷ nodes) zero is = is
usable-at (node ∷ nodes) (suc place) is = usable-at nodes place is

got-all : {X : Type 0} (P : X → Type 0) (xs : List X) (place : ℕ) (x : X) → slice_get xs place ≡ Some x → All P xs → P x
got-all P [] place x is all = absurd (cc)
got-all P (y ∷ ys) zero x is all = let same : y ≡ x = cc in subst P same (All-head P y ys all)
got-all P (y ∷ ys) (suc place) x is all = got-all P ys place x is (All-tail P y ys all)

-- a job with a task has a node that it may get
some-node : (rooms : List NodeRoom) (need : PlanJob) (shares : List Share) → All (IsShare rooms need) shares
    → 1 ≤ sum_by (λ (share : Share). share.tasks) shares → 1 ≤ length need.nodes
some-node rooms need [] all some = absurd (omega (arith, some))
some-node rooms need (share ∷ shares) all some =
    let has = (All-head (IsShare rooms need) share shares all).node in omega (arith, has.1)

-- the job that is planned in a partition on so many nodes
abbrev need-of : State → PartRecord → ℕ × ℕ → JobRecord → PlanJob
need-of t partition bounds job =
    plan_job t.nodes partition (places_for t.nodes t.reservations partition job.terms.reservation)
    (barred_of t.reservations job.terms.reservation) bounds job

tasks-are : (t : State) (partition : PartRecord) (bounds : ℕ × ℕ) (job : JobRecord) (share : Share) (part : Part)
    → IsShare (map room_of t.nodes) (need-of t partition bounds job) share → IsAsPlanned share part
    → HasTasks partition job.terms (room_under t part) share.tasks part
unfolding plan_job
tasks-are t partition bounds job share part is planned =
    let rooms = map room_of t.nodes in
    let room = room_at rooms share.node in
    let cpus = planned.cpus ∙ is.cpus in
    let mem = planned.mem ∙ is.mem in
    let tasks : HasTasks partition job.terms room share.tasks part = record {
      some = is.some;
      few = is.takes.few;
      cpus = cpus;
      mem = mem;
      enough_cpus = subst (λ (n : ℕ). cpus_for job.terms share.tasks ≤ n) (sym cpus) is.takes.enough_cpus;
      enough_mem = subst (λ (n : ℕ). mem_for job.terms room share.tasks ≤ n) (sym mem) is.takes.enough_mem;
    } in
    subst (λ (node : ℕ). HasTasks partition job.terms (room_at rooms node) share.tasks part) (sym planned.node) tasks

part-is-for : (t : State) (partition : PartRecord) (bounds : ℕ × ℕ) (job : JobRecord) (share : Share) (part : Part)
    → IsShare (map room_of t.nodes) (need-of t partition bounds job) share → IsAsPlanned share part
    → IsForJob t partition job.terms part.node
unfolding plan_job
part-is-for t partition bounds job share part is planned =
    let places = nodes_among t.nodes job.terms (places_for t.nodes t.reservations partition job.terms.reservation) in
    let place = All-contains (IsPlace t.nodes partition t.reservations job.terms) places share.node
    (need_places t.nodes partition t.reservations job.terms) is.node in
    let for-share : IsForJob t partition job.terms share.node = record {
      among = place.among;
      available = usable-at t.nodes share.node is.takes.usable;
      suits = place.suits;
      reserved = place.reserved;
    } in
    subst (λ (node : ℕ). IsForJob t partition job.terms node) (sym planned.node) for-share

-- the nodes are named once, and each partition is on nodes that there are
pub record IsCluster (t : State) : Type 0 where
  pub named : AllPairs (λ (one other : NodeRecord). one.conf.name ≢ other.conf.name) t.nodes
  pub partitions : All (IsOnNodes (length t.nodes)) t.partitions

granted-asked : JobNodes → (t : State) (partition : PartRecord) (bounds : ℕ × ℕ) (job : JobRecord)
    (shares : List Share) (parts : List Part) → IsCluster t → IsOnNodes (length t.nodes) partition
    → IsGranted (map room_of t.nodes) (need-of t partition bounds job) shares → AllZip IsAsPlanned shares parts
    → 1 ≤ job.terms.tasks
    → All (λ name. Any (λ (part : Part). is_at (is_named name) t.nodes part.node ≡ true) parts) job.terms.required
unfolding plan_job
granted-asked nodes t partition bounds job shares parts cluster on granted zip some =
    let order = places_for t.nodes t.reservations partition job.terms.reservation in
    let places = nodes_among t.nodes job.terms order in
    let need = need-of t partition bounds job in
    let apart = (nodes t.nodes t.reservations partition (barred_of t.reservations job.terms.reservation) bounds job on).1 in
    let has : 1 ≤ length places =
    some-node (map room_of t.nodes) need shares granted.each (omega (arith, granted.all, some)) in
    let first = required_are_first t.nodes job.terms order cluster.named apart has in
    λ k d below.
    let name = get_or job.terms.required k d in
    let one = first k d below in
    zip_any (λ (share : Share). share.node ≡ slice_index places one.place) IsAsPlanned
    (λ (part : Part). is_at (is_named name) t.nodes part.node ≡ true) shares parts
    (λ share part same planned. subst (λ (node : ℕ). is_at (is_named name) t.nodes node ≡ true)
    (sym (planned.node ∙ same)) one.named) (granted.required one.place one.first) zip

pub has_asked : JobNodes → (t : State) (job : JobRecord) (need : PlanJob) (shares : List Share) (parts : List Part)
    → IsCluster t → IsNeedOf t.nodes t.partitions t.reservations job need
    → IsGranted (map room_of t.nodes) need shares → AllZip IsAsPlanned shares parts → OnNodesApart parts
    → 1 ≤ job.terms.tasks → HasWhatWasAsked t job parts
unfolding plan_job
has_asked nodes t job need shares parts cluster is got zip apart some =
    let rooms = map room_of t.nodes in
    let partition = is.partition in
    let wanted = need-of t partition is.bounds job in
    let granted : IsGranted rooms wanted shares = subst (λ (one : PlanJob). IsGranted rooms one shares) is.is got in
    let long = zip_long IsAsPlanned shares parts zip in
    let on = got-all (IsOnNodes (length t.nodes)) t.partitions job.partition partition is.of_partition
    cluster.partitions in
    record {
      partition = partition;
      of_partition = is.of_partition;
      apart = apart;
      nodes = zip_all (IsShare rooms wanted) IsAsPlanned (λ (part : Part). IsForJob t partition job.terms part.node)
          shares parts (λ share part one planned. part-is-for t partition is.bounds job share part one planned)
          granted.each zip;
      required = granted-asked nodes t partition is.bounds job shares parts cluster on granted zip some;
      bounds = is.bounds;
      bounded = is.bounded;
      least = omega (arith, granted.least, long);
      most = omega (arith, granted.most, long);
      tasks = map (λ (share : Share). share.tasks) shares;
      all = sum_mapped (λ (n : ℕ). n) (λ (share : Share). share.tasks) shares ∙ granted.all;
      each = zip_mapped (IsShare rooms wanted) IsAsPlanned
          (λ some (part : Part). HasTasks partition job.terms (room_under t part) some part)
          (λ (share : Share). share.tasks) shares parts
          (λ share part one planned. tasks-are t partition is.bounds job share part one planned) granted.each zip;
    }

-- ---- what a plan grants

-- each placement is what its job is placed as
abbrev pub ArePlaced : Type 0
ArePlaced = (rooms : List NodeRoom) (holds : List Hold) (job : PlanJob) (lo hi : ℕ) (placed : Placed)
    → placed_of rooms holds job lo hi ≡ Some placed → IsPlacement rooms holds job lo hi placed

-- the placement is of this job, and grants what it needs
pub record IsPlannedFor (nodes : List NodeRecord) (partitions : List PartRecord) (reservations : List Reservation)
    (placed : Placed) (job : JobRecord) : Type 0 where
  pub id : job.id ≡ placed.id
  pub need : PlanJob
  pub is : IsNeedOf nodes partitions reservations job need
  pub granted : IsGranted (map room_of nodes) need placed.parts

of-option : {X : Type 0} (P : X → Type 0) (some : Option X) → ((x : X) → some ≡ Some x → P x)
    → All P (option_to_list some)
of-option P None each = All-nil P
of-option P (Some x) each = All-cons P x [] (each x refl) (All-nil P)

plan-all : (Q : PlanJob → Type 0) (R : Placed → Type 0) (base : BaseView) (now : ℕ)
    → ((holds : List Hold) (job : PlanJob) (placed : Placed) → Q job
    → placed_of base.rooms holds job now base.horizon ≡ Some placed → R placed)
    → (holds : List Hold) (ranked : List PlanJob) → All Q ranked → All R (plan_beside base now holds ranked)
unfolding plan_beside
plan-all Q R base now each holds [] all = All-nil R
plan-all Q R base now each holds (job ∷ later) all =
    let some = placed_of base.rooms holds job now base.horizon in
    All-append R (option_to_list some) (plan_beside base now (holds ++ holds_of job some) later)
    (of-option R some (λ placed is. each holds job placed (All-head Q job later all) is))
    (plan-all Q R base now each (holds ++ holds_of job some) later (All-tail Q job later all))

abbrev pub PlannedFor : State → List Reservation → Placed → Type 0
PlannedFor s reservations placed = Any (IsPlannedFor s.nodes s.partitions reservations placed) s.jobs

pub planned_for : ArePlaced → (s : State) (now : ℕ)
    → All (PlannedFor s (lasting now s.reservations)) (planned s now)
unfolding planned plan_of base_of
planned_for first s now =
    let base = base_of s now in
    let lasts = lasting now s.reservations in
    plan-all (IsNeeded s now) (PlannedFor s lasts) base now
    (λ holds need placed any is.
    let placement = first base.rooms holds need now base.horizon placed is in
    any_weaker (NeededBy s.nodes s.partitions lasts need) (IsPlannedFor s.nodes s.partitions lasts placed) s.jobs
    (λ job needed. record {
      id = needed.id ∙ sym placement.id;
      need = need;
      is = needed.is;
      granted = placement_grants base.rooms holds need now base.horizon placed placement;
    }) any)
    base.holds (ranked s now) (ranked_needed s now)
