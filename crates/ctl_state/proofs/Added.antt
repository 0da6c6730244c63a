-- Nodes that stay as they are configured, and jobs that are added keep all sound.
use Rattle.std.proofs.Common.{◌≡◌, ℕ, zero, suc, ◌+◌, ◌<◌, ◌≤◌, Bool, true, List, [], ◌∷◌, ◌++◌, length, map, filter, get_or, All, Contains, Some, refl, ap, sym, ◌∙◌, arith, rules}
use Rattle.std.specs.Prelude.{IfSome}
use Rattle.std.proofs.lemmas.Option.{IfSome_then}
use Rattle.std.proofs.lemmas.List.{get_or-map, length-map, map-append, append-nil}
use Rattle.std.proofs.lemmas.List.Concat.{flat_map-append}
use Rattle.std.proofs.lemmas.List.Elements.{All-append, All-cons, All-head, All-tail, All-weaker, Contains-append_left, filter-append}
use Rattle.plain_data.specs.declared.conf.NodeConf.{NodeConf}
use Rattle.plain_data.specs.declared.conf.PartState.{PartState}
use Rattle.resource_profile.specs.declared.NodeRoom.{NodeRoom}
use Rattle.backfill_planner.specs.declared.Placed.{Placed}
use Rattle.job_table.specs.declared.record.Part.{Part}
use Rattle.node_state.specs.declared.record.NodeRecord.{NodeRecord}
use Rattle.job_table.specs.declared.record.JobRecord.{JobRecord}
use Rattle.job_table.specs.Table.{HaveRisingIds}
use Rattle.job_table.specs.Targets.{AreTogether}
use Rattle.ctl_state.specs.declared.record.ArrayRecord.{ArrayRecord}
use Rattle.ctl_state.specs.State.{State, last_job_id, last_moment}
use Rattle.job_table.specs.JobStates.{is_pending}
use Rattle.ctl_state.specs.Holding.{IsHeldOnce, IsPartOf, cpus_of, mem_of, parts_of}
use Rattle.ctl_state.specs.Planning.{room_of}
use Rattle.node_state.specs.declared.partition_record.PartRecord.{PartRecord}
use Rattle.node_state.specs.PartitionLaws.{OnNodesStays}
use Rattle.node_state.specs.Partitions.{IsOnNodes, in_state, in_state_at}
use Rattle.ctl_state.specs.Soundness.{AreNodes, AreOfPartitions, HasLimits, IsOfAccounts, AreUp, IsKept, IsSound, PlansPending, is_up_at, pending_ids}
use Rattle.ctl_state.proofs.Kept.{kept-later, pending-nothing}
use Rattle.ctl_state.proofs.Lists.{flat_map-nothing}
use Rattle.list_lemmas.proofs.Pairs.{pairs-append}

abbrev conf_of : NodeRecord → NodeConf
conf_of node = node.conf

-- nodes that stay as they are configured are as many, and each has the ranges and the name of the one that was at its place
long-stays : (nodes old : List NodeRecord) → map conf_of nodes ≡ map conf_of old → length nodes ≡ length old
long-stays nodes old same = sym (length-map nodes conf_of) ∙ ap length same ∙ length-map old conf_of

nodes-stay : (nodes old : List NodeRecord) → map conf_of nodes ≡ map conf_of old → AreNodes old → AreNodes nodes
nodes-stay nodes old same are = record {
  named = record {
    few = omega (arith, long, are.named.few);
    once = λ i j d before below. rw (at i d (omega (arith, before, below)), at j d below) (are.named.once i j d before (omega (arith, long, below)));
  };
  each = λ k d below. let is = are.each k d (omega (arith, long, below)) in record { cpus = rw (at k d below) is.cpus; mem = rw (at k d below) is.mem };
}
  where
    long : length nodes ≡ length old
    long = long-stays nodes old same

    at : (k : ℕ) (d : NodeRecord) → k < length nodes → (get_or nodes k d).conf ≡ (get_or old k d).conf
    at k d below =
        sym (get_or-map conf_of nodes k d d.conf below) ∙ ap (λ confs. get_or confs k d.conf) same ∙ get_or-map conf_of old k d d.conf (omega (arith, long, below))

-- a room has what is configured, whether or not the node is available
abbrev whole : NodeConf → NodeRoom
whole conf = record { cpus = conf.cpus; mem = conf.mem; usable = true }

as-configured : (nodes : List NodeRecord) (place : ℕ) → let rooms = map whole (map conf_of nodes) in
    (cpus_of (map room_of nodes) place ≡ cpus_of rooms place) × (mem_of (map room_of nodes) place ≡ mem_of rooms place)
as-configured [] place = (refl, refl)
as-configured (node ∷ nodes) zero = (refl, refl)
as-configured (node ∷ nodes) (suc place) = as-configured nodes place

held-stays : (nodes old : List NodeRecord) (parts : List Part) → map conf_of nodes ≡ map conf_of old
    → IsHeldOnce (map room_of old) parts → IsHeldOnce (map room_of nodes) parts
held-stays nodes old parts same held =
    let cpus : (place : ℕ) → cpus_of (map room_of nodes) place ≡ cpus_of (map room_of old) place = λ place.
    (as-configured nodes place).0 ∙ ap (λ confs. cpus_of (map whole confs) place) same ∙ sym (as-configured old place).0 in
    let mem : (place : ℕ) → mem_of (map room_of nodes) place ≡ mem_of (map room_of old) place = λ place.
    (as-configured nodes place).1 ∙ ap (λ confs. mem_of (map whole confs) place) same ∙ sym (as-configured old place).1 in
    let long : length (map room_of nodes) ≡ length (map room_of old) = length-map nodes room_of ∙ long-stays nodes old same ∙ sym (length-map old room_of) in
    record {
      each = All-weaker (IsPartOf (map room_of old)) (IsPartOf (map room_of nodes))
          (λ part is. record { node = rw long is.node; rising = is.rising; cpus = rw (cpus part.node) is.cpus }) parts held.each;
      once = held.once;
      mem = λ place. rw (mem place) (held.mem place);
    }

pub sound-held : (s : State) (nodes : List NodeRecord) → IsSound s → map conf_of nodes ≡ map conf_of s.nodes
    → AreUp nodes (parts_of s.jobs) → IsSound (record s { nodes = nodes })
sound-held s nodes sound same up =
    let are = nodes-stay nodes s.nodes same sound.nodes in
    let held = held-stays nodes s.nodes (parts_of s.jobs) same sound.held in
    let partitions : All (IsOnNodes (length nodes)) s.partitions = rw (long-stays nodes s.nodes same) sound.partitions in
    search rules

pub sound-nodes : (s : State) (nodes : List NodeRecord) → IsSound s → map conf_of nodes ≡ map conf_of s.nodes
    → ((place : ℕ) → is_up_at s.nodes place ≡ true → is_up_at nodes place ≡ true) → IsSound (record s { nodes = nodes })
sound-nodes s nodes sound same stay =
    sound-held s nodes sound same (λ k d below. stay (get_or (parts_of s.jobs) k d).node (sound.up k d below))

-- a partition in another state is as it was configured
length-states : (place : ℕ) (state : PartState) (partitions : List PartRecord)
    → length (in_state_at place state partitions) ≡ length partitions
length-states place state [] = refl
length-states zero state (partition ∷ later) = refl
length-states (suc place) state (partition ∷ later) = ap suc (length-states place state later)

limits-stay : (place : ℕ) (state : PartState) (partitions : List PartRecord) → All HasLimits partitions
    → All HasLimits (in_state_at place state partitions)
limits-stay place state [] all = all
limits-stay zero state (partition ∷ later) all =
    let first = All-head HasLimits partition later all in
    All-cons HasLimits (in_state state partition) later (record { longest = first.longest; unasked = first.unasked })
    (All-tail HasLimits partition later all)
limits-stay (suc place) state (partition ∷ later) all =
    All-cons HasLimits partition (in_state_at place state later) (All-head HasLimits partition later all)
    (limits-stay place state later (All-tail HasLimits partition later all))

pub sound-states : OnNodesStays → (s : State) (place : ℕ) (state : PartState) → IsSound s
    → IsSound (record s { partitions = in_state_at place state s.partitions })
sound-states on_nodes s place state sound =
    let partitions = on_nodes (length s.nodes) place state s.partitions sound.partitions in
    let limits = limits-stay place state s.partitions sound.limits in
    let of_partitions : AreOfPartitions (in_state_at place state s.partitions) s.jobs =
    rw (length-states place state s.partitions) sound.of_partitions in
    search rules

-- jobs that hold nothing add no parts; and pending jobs hold nothing
pub parts-added : (jobs more : List JobRecord) → All (λ (job : JobRecord). job.parts ≡ []) more
    → parts_of (jobs ++ more) ≡ parts_of jobs
parts-added jobs more nothing =
    let parts : JobRecord → List Part = λ job. job.parts in
    flat_map-append parts jobs more
    ∙ ap (λ held. parts_of jobs ++ held) (flat_map-nothing parts more nothing)
    ∙ append-nil (parts_of jobs)

planned-added : (jobs more : List JobRecord) (plan : List Placed) → PlansPending jobs plan → PlansPending (jobs ++ more) plan
planned-added jobs more plan planned =
    let both : pending_ids (jobs ++ more) ≡ pending_ids jobs ++ pending_ids more =
    let waits : JobRecord → Bool = λ job. is_pending job.state in
    let id : JobRecord → ℕ = λ job. job.id in
    ap (map id) (filter-append waits jobs more) ∙ map-append id (filter waits jobs) (filter waits more) in
    let pending : All (λ (placed : Placed). Contains (pending_ids (jobs ++ more)) placed.id) plan = λ k d below.
    rw both (Contains-append_left (pending_ids jobs) (pending_ids more) (get_or plan k d).id (planned.pending k d below)) in
    record { pending = pending; once = planned.once; last = planned.last }

-- no job that is there is a task of an array that comes
together-added : (jobs more : List JobRecord) (next : ℕ) → AreTogether jobs → AreTogether more
    → All (λ (job : JobRecord). job.id < next) jobs
    → All (λ (job : JobRecord). IfSome job.array (λ array. next ≤ array)) more → AreTogether (jobs ++ more)
together-added jobs more next are come below later =
    let follows : JobRecord → JobRecord → Type 0 =
    λ one other. IfSome other.array (λ array. array ≤ one.id → one.array ≡ Some array) in
    record {
      after =
          All-append (λ (job : JobRecord). IfSome job.array (λ array. array ≤ job.id)) jobs more are.after come.after;
      together = pairs-append follows jobs more are.together come.together
          (λ k d old j e new. IfSome_then (get_or more j e).array (later j e new)
          (λ array above reaches. absurd (omega (arith, above, reaches, below k d old))));
    }

pub sound-added : (s : State) (now next : ℕ) (more : List JobRecord) (arrays : List ArrayRecord) → IsSound s
    → s.moment ≤ now → now ≤ last_moment
    → AreOfPartitions s.partitions more → All (IsOfAccounts s.assocs s.qos) more → All (IsKept now) more → All (λ (job : JobRecord). is_pending job.state ≡ true) more
    → HaveRisingIds more → All (λ (job : JobRecord). s.next_id ≤ job.id) more
    → All (λ (job : JobRecord). job.id + 1 ≤ next) more → s.next_id ≤ next → next ≤ last_job_id + 1
    → AreTogether more → All (λ (job : JobRecord). IfSome job.array (λ array. s.next_id ≤ array)) more
    → IsSound (record s { jobs = s.jobs ++ more; arrays = arrays; next_id = next; moment = now })
sound-added s now next more arrays sound later in_time of by kept pending rising above below on room tied new =
    let both = s.jobs ++ more in
    let same = parts-added s.jobs more
    (λ k d below. pending-nothing now (get_or more k d) (kept k d below) (pending k d below)) in
    let rise : HaveRisingIds both = pairs-append (λ (one other : JobRecord). one.id < other.id) s.jobs more sound.rising rising
    (λ k d old j e new. omega (arith, sound.below_next k d old, above j e new)) in
    let together : AreTogether both = together-added s.jobs more s.next_id sound.together tied sound.below_next new in
    let low : All (λ (job : JobRecord). job.id < next) both = All-append (λ (job : JobRecord). job.id < next) s.jobs more
    (λ k d old. omega (arith, sound.below_next k d old, on)) (λ k d new. omega (arith, below k d new)) in
    let partitions : AreOfPartitions s.partitions both = All-append (λ (job : JobRecord). job.partition < length s.partitions) s.jobs more sound.of_partitions of in
    let accounts : All (IsOfAccounts s.assocs s.qos) both =
    All-append (IsOfAccounts s.assocs s.qos) s.jobs more sound.of_accounts by in
    let all : All (IsKept now) both =
    All-append (IsKept now) s.jobs more (All-weaker (IsKept s.moment) (IsKept now) (λ job was. kept-later s.moment now job later was) s.jobs sound.jobs) kept in
    let up : AreUp s.nodes (parts_of both) = rw same sound.up in
    let held : IsHeldOnce (map room_of s.nodes) (parts_of both) = rw same sound.held in
    let planned = planned-added s.jobs more s.plan sound.plan in
    search (rules, arith)
