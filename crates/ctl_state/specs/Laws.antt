-- What stays true of every state, whatever happens. Each is proved as the contract of a law.
use Rattle.std.specs.Prelude.{◌≡◌, ◌≢◌, ℕ, ◌+◌, ◌<◌, ◌≤◌, Bool, true, false, IfSome, Option, Some, List, [], ◌∷◌, length, map, ◌++◌, All, AllPairs, Contains}
use Rattle.std.specs.Cmp.{IsStrictWeakOrder}
use Rattle.std.specs.List.Sorted.{IsPermutation, IsSortedBy, IsStableBy}
use Rattle.backfill_planner.specs.declared.Placed.{Placed}
use Rattle.backfill_planner.specs.declared.job.Barred.{Barred}
use Rattle.job_table.specs.declared.record.Part.{Part}
use Rattle.node_state.specs.declared.record.NodeRecord.{NodeRecord}
use Rattle.node_state.specs.declared.partition_record.PartRecord.{PartRecord}
use Rattle.node_state.specs.Partitions.{IsOnNodes, in_state_at}
use Rattle.plain_data.specs.declared.conf.PartState.{PartState}
use Rattle.job_table.specs.declared.record.JobRecord.{JobRecord}
use Rattle.job_table.specs.declared.change.Change.{Change}
use Rattle.node_state.specs.declared.reservation_record.Reservation.{Reservation}
use Rattle.node_state.specs.Reservations.{AreReservations}
use Rattle.ctl_state.specs.declared.record.ArrayRecord.{ArrayRecord}
use Rattle.ctl_state.specs.State.{State, last_moment, last_job_id, last_size, shutdown_size}
use Rattle.job_table.specs.JobStates.{is_pending}
use Rattle.job_table.specs.Changes.{changed}
use Rattle.job_table.specs.Targets.{AreTogether}
use Rattle.job_table.specs.Usage.{charged}
use Rattle.ctl_state.specs.Holding.{parts_of, times_held, mem_held}
use Rattle.ctl_state.specs.Index.{ShowsParts, TakesParts, GivesParts}
use Rattle.node_state.specs.declared.record.Held.{Held}
use Rattle.node_state.specs.Held.{held_mem, holds_cpu}
use Rattle.ctl_state.specs.Ordered.{ordered_by}
use Rattle.ctl_state.specs.Planning.{places_for, plan_job}
use Rattle.ctl_state.specs.Events.{FitsChange, LetsGo, MayTake, plan_left, started_as, those_left}
use Rattle.ctl_state.specs.Counted.{counted_of, holding}
use Rattle.run_limits.specs.Tallies.{HaveSameSums}
use Rattle.ctl_state.specs.Soundness.{AreOfPartitions, AreUp, IsOfAccounts, IsSound, IsKept, PlansPending, is_up_at, pending_ids}
use Rattle.job_table.specs.Table.{HaveRisingIds, job_with}

-- An event that starts nothing keeps all sound: each job that stays keeps some of its parts.
abbrev pub LettingGo : Type 0
LettingGo = (s : State) (now : ℕ) (change : JobRecord → JobRecord) (goes : JobRecord → Bool) (arrays : List ArrayRecord)
    (plan : List Placed)
    → IsSound s → now ≤ last_moment
    → All (λ job. LetsGo now job (change job)) s.jobs
    → PlansPending (those_left change goes s.jobs) plan
    → IsSound (record s { jobs = those_left change goes s.jobs; arrays = arrays; plan = plan; moment = now })

-- The same where every job stays.
abbrev pub Changing : Type 0
Changing = (s : State) (now : ℕ) (change : JobRecord → JobRecord) (plan : List Placed)
    → IsSound s → now ≤ last_moment
    → All (λ job. LetsGo now job (change job)) s.jobs
    → PlansPending (map change s.jobs) plan
    → IsSound (record s { jobs = map change s.jobs; plan = plan; moment = now })

-- A waiting job that takes free parts keeps all sound.
abbrev pub Taking : Type 0
Taking = (s : State) (id : ℕ) (parts : List Part) (names : List (List ℕ)) (plan : List Placed)
    → IsSound s → MayTake s.nodes s.jobs id parts
    → PlansPending (map (started_as s.moment id parts names) s.jobs) plan
    → IsSound (record s { jobs = map (started_as s.moment id parts names) s.jobs; plan = plan })

-- What is held grows by just what a waiting job takes.
abbrev pub TakenTimes : Type 0
TakenTimes = (s : State) (now id node cpu : ℕ) (parts : List Part) (names : List (List ℕ))
    → IsSound s → Contains (pending_ids s.jobs) id
    → times_held (parts_of (map (started_as now id parts names) s.jobs)) node cpu
    ≡ times_held (parts_of s.jobs) node cpu + times_held parts node cpu

abbrev pub TakenMem : Type 0
TakenMem = (s : State) (now id node : ℕ) (parts : List Part) (names : List (List ℕ))
    → IsSound s → Contains (pending_ids s.jobs) id
    → mem_held (parts_of (map (started_as now id parts names) s.jobs)) node
    ≡ mem_held (parts_of s.jobs) node + mem_held parts node

-- Those that hold processors are more by the waiting job that starts, whatever is summed over them.
abbrev pub TakenCounts : Type 0
TakenCounts = (jobs : List JobRecord) (now id : ℕ) (parts : List Part) (names : List (List ℕ)) (job : JobRecord)
    → HaveRisingIds jobs → job_with id jobs ≡ Some job → is_pending job.state ≡ true
    → HaveSameSums (holding jobs ++ counted_of job ∷ []) (holding (map (started_as now id parts names) jobs))

-- Whoever waited before a start of another waits after it.
abbrev pub OthersWait : Type 0
OthersWait = (jobs : List JobRecord) (now id other : ℕ) (parts : List Part) (names : List (List ℕ))
    → Contains (pending_ids jobs) other → other ≢ id
    → Contains (pending_ids (map (started_as now id parts names) jobs)) other

-- Nodes that stay as they are configured, of which none goes down, keep all sound.
abbrev pub NodesStay : Type 0
NodesStay = (s : State) (nodes : List NodeRecord)
    → IsSound s → map (λ (node : NodeRecord). node.conf) nodes ≡ map (λ (node : NodeRecord). node.conf) s.nodes
    → ((place : ℕ) → is_up_at s.nodes place ≡ true → is_up_at nodes place ≡ true)
    → IsSound (record s { nodes = nodes })

-- The same of any that stay as they are configured, where nothing is held of those that are down.
abbrev pub NodesHold : Type 0
NodesHold = (s : State) (nodes : List NodeRecord)
    → IsSound s → map (λ (node : NodeRecord). node.conf) nodes ≡ map (λ (node : NodeRecord). node.conf) s.nodes
    → AreUp nodes (parts_of s.jobs)
    → IsSound (record s { nodes = nodes })

-- A partition in another state keeps all sound.
abbrev pub PartitionStates : Type 0
PartitionStates = (s : State) (place : ℕ) (state : PartState)
    → IsSound s → IsSound (record s { partitions = in_state_at place state s.partitions })

-- Time that passes keeps all sound.
abbrev pub Passing : Type 0
Passing = (s : State) (now : ℕ) → IsSound s → s.moment ≤ now → now ≤ last_moment → IsSound (record s { moment = now })

-- Other reservations keep all sound.
abbrev pub Reserving : Type 0
Reserving = (s : State) (reservations : List Reservation)
    → IsSound s → AreReservations reservations → IsSound (record s { reservations = reservations })

-- A shutdown keeps all sound.
abbrev pub Shutting : Type 0
Shutting = (s : State) → IsSound s → IsSound (record s { is_shut = true })

-- Pending jobs that are added with the next numbers keep all sound.
abbrev pub Adding : Type 0
Adding = (s : State) (now next : ℕ) (more : List JobRecord) (arrays : List ArrayRecord)
    → IsSound s → s.moment ≤ now → now ≤ last_moment
    → AreOfPartitions s.partitions more → All (IsOfAccounts s.assocs s.qos) more → All (IsKept now) more
    → All (λ (job : JobRecord). is_pending job.state ≡ true) more
    → HaveRisingIds more → All (λ (job : JobRecord). s.next_id ≤ job.id) more
    → All (λ (job : JobRecord). job.id + 1 ≤ next) more → s.next_id ≤ next → next ≤ last_job_id + 1
    → AreTogether more → All (λ (job : JobRecord). IfSome job.array (λ array. s.next_id ≤ array)) more
    → IsSound (record s { jobs = s.jobs ++ more; arrays = arrays; next_id = next; moment = now })

-- Another plan of pending jobs keeps all sound.
abbrev pub Planning : Type 0
Planning = (s : State) (plan : List Placed) → IsSound s → PlansPending s.jobs plan → IsSound (record s { plan = plan })

-- A sum of sizes within its bound keeps all sound.
abbrev pub Sizing : Type 0
Sizing = (s : State) (size : ℕ) → IsSound s → size ≤ last_size + shutdown_size → (s.is_shut ≡ false → size ≤ last_size)
    → IsSound (record s { size = size })

-- Whoever is charged, all stays sound.
abbrev pub Charging : Type 0
Charging = (s : State) (now : ℕ) (before after : List JobRecord)
    → IsSound s → IsSound (record s { usage = charged now before after s.usage })

-- The plan without those that no longer wait is a plan of pending jobs.
abbrev pub PlansLeft : Type 0
PlansLeft = (s : State) (now : ℕ) (change : JobRecord → JobRecord)
    → IsSound s → All (λ job. LetsGo now job (change job)) s.jobs
    → PlansPending (map change s.jobs) (plan_left (map change s.jobs) s.plan)

-- Whatever change but a start lets go.
abbrev pub ChangesLetGo : Type 0
ChangesLetGo = (now : ℕ) (change : Change) (job : JobRecord)
    → FitsChange now change → IsKept now job → LetsGo now job (changed change job)

-- Time that passes takes nothing from what is kept of a job; what lets go keeps it, nothing lets go, and so do two one
-- after another.
abbrev pub KeptLater : Type 0
KeptLater = (before now : ℕ) (job : JobRecord) → before ≤ now → IsKept before job → IsKept now job

abbrev pub KeptOn : Type 0
KeptOn = (now : ℕ) (job after : JobRecord) → IsKept now job → LetsGo now job after → IsKept now after

abbrev pub LetsGoNothing : Type 0
LetsGoNothing = (now : ℕ) (job : JobRecord) → IsKept now job → LetsGo now job job

abbrev pub LetsGoTwice : Type 0
LetsGoTwice = (now : ℕ) (job middle after : JobRecord)
    → LetsGo now job middle → LetsGo now middle after → LetsGo now job after

-- The nodes that a job may get are nodes that there are, each once.
abbrev pub JobNodes : Type 0
JobNodes = (nodes : List NodeRecord) (reservations : List Reservation) (partition : PartRecord) (barred : List Barred)
    (bounds : ℕ × ℕ) (job : JobRecord)
    → IsOnNodes (length nodes) partition
    → let places = places_for nodes reservations partition job.terms.reservation in
    All (λ node. node < length nodes) (plan_job nodes partition places barred bounds job).nodes
    × AllPairs (λ one other. one ≢ other) (plan_job nodes partition places barred bounds job).nodes

-- Those that reservations leave of a partition's nodes are nodes that there are.
abbrev pub PlacesThere : Type 0
PlacesThere = (nodes : List NodeRecord) (reservations : List Reservation) (partition : PartRecord)
    (name : Option (List ℕ))
    → IsOnNodes (length nodes) partition
    → All (λ place. place < length nodes) (places_for nodes reservations partition name)

-- A list in order has the elements of the list.
abbrev pub OrderMoves : Type 0 → Type 0
OrderMoves X = (before : X → X → Bool) (xs : List X) → IsPermutation xs (ordered_by before xs)

-- Keys that differ differ in order too.
abbrev pub OrderKeepsApart : Type 0 → Type 0
OrderKeepsApart X = (before : X → X → Bool) (key : X → ℕ) (xs : List X)
    → AllPairs (λ (one other : X). key one ≢ key other) xs
    → AllPairs (λ (one other : X). key one ≢ key other) (ordered_by before xs)

-- What a stable sort makes of a list is the list in order.
abbrev pub SortOrders : Type 0 → Type 0
SortOrders X = (before : X → X → Bool) (xs ys : List X)
    → IsStrictWeakOrder before → IsSortedBy before ys → IsStableBy before xs ys → ys ≡ ordered_by before xs

-- The index goes on showing what is held: beside what a waiting job takes,
abbrev pub TakingShows : Type 0
TakingShows = (s : State) (now id : ℕ) (parts : List Part) (names : List (List ℕ)) (held after : List Held)
    → IsSound s → Contains (pending_ids s.jobs) id
    → ShowsParts held (parts_of s.jobs) → TakesParts held parts after
    → ShowsParts after (parts_of (map (started_as now id parts names) s.jobs))

-- and without what is given back of parts of which no two share a processor.
abbrev pub GivingShows : Type 0
GivingShows = (parts left gone : List Part) (held after : List Held)
    → ((node cpu : ℕ) → times_held parts node cpu ≤ 1)
    → ((node cpu : ℕ) → times_held parts node cpu ≡ times_held left node cpu + times_held gone node cpu)
    → ((node : ℕ) → mem_held parts node ≡ mem_held left node + mem_held gone node)
    → ShowsParts held parts → GivesParts held gone after
    → ShowsParts after left

-- What a part holds is held.
abbrev pub PartsAreShown : Type 0
PartsAreShown = (parts : List Part) (held : List Held) → ShowsParts held parts
    → All (λ (part : Part). (All (λ cpu. holds_cpu held part.node cpu ≡ true) part.cpus)
    × (part.mem ≤ held_mem held part.node)) parts

-- An event in which each job keeps its parts, and of which those that go have none, leaves the parts as they were;
abbrev pub PartsStay : Type 0
PartsStay = (jobs : List JobRecord) (change : JobRecord → JobRecord) (goes : JobRecord → Bool)
    → All (λ (job : JobRecord). (change job).parts ≡ job.parts) jobs
    → All (λ (job : JobRecord). goes (change job) ≡ true → job.parts ≡ []) jobs
    → parts_of (those_left change goes jobs) ≡ parts_of jobs

-- and so do jobs that are added and hold nothing.
abbrev pub AddedHoldNothing : Type 0
AddedHoldNothing = (jobs more : List JobRecord)
    → All (λ (job : JobRecord). job.parts ≡ []) more → parts_of (jobs ++ more) ≡ parts_of jobs
