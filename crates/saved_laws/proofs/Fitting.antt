-- What is saved of a state that is kept fits.
use Rattle.std.proofs.Common.{ℕ, ◌≡◌, ◌≢◌, ◌∙◌, ◌+◌, ◌<◌, ◌≤◌, ◌⊎◌, inl, inr, zero, suc, Bool, true, false, if◌then◌else◌, List, [], ◌∷◌, ◌++◌, map, get_or, All, AllPairs, Any, Option, Some, None, bytes_eq, slice_get, refl, ap, sym, subst, arith}
use Rattle.std.specs.Prelude.{filter_map, is_none, is_some, option_map}
use Rattle.std.specs.List.{cons_option}
use Rattle.std.proofs.lemmas.List.{length-map}
use Rattle.std.proofs.lemmas.List.Elements.{All-cons, All-map, All-nil, All-weaker}
use Rattle.list_lemmas.proofs.Pairs.{pairs-append}
use Rattle.plain_data.specs.Assocs.{AssocView}
use Rattle.plain_data.specs.Confs.{ConfView}
use Rattle.reply_data.specs.declared.view.NamedPart.{NamedPart}
use Rattle.request_data.specs.declared.state.JobState.{JobState}
use Rattle.request_data.specs.declared.state.JobState.TheVariants.{Pending, Running, Completing, Ended}
use Rattle.node_state.specs.declared.record.DroppedNode.{DroppedNode}
use Rattle.node_state.specs.declared.record.NodeRecord.{NodeRecord}
use Rattle.node_state.specs.Nodes.{place_named}
use Rattle.node_state.specs.declared.partition_record.PartRecord.{PartRecord}
use Rattle.node_state.specs.declared.reservation_record.Reservation.{Reservation}
use Rattle.job_table.specs.declared.record.JobRecord.{JobRecord}
use Rattle.job_table.specs.declared.record.Part.{Part}
use Rattle.job_table.specs.JobStates.{is_pending, is_running}
use Rattle.job_table.specs.Usage.{greatest_usage}
use Rattle.run_limits.specs.declared.record.AssocRecord.{AssocRecord}
use Rattle.run_limits.specs.Accounts.{place_in}
use Rattle.ctl_state.specs.declared.record.ArrayRecord.{ArrayRecord}
use Rattle.backfill_planner.specs.declared.Placed.{Placed}
use Rattle.ctl_state.specs.Soundness.{IsSound, PlansPending}
use Rattle.ctl_state.specs.State.{State, opening}
use Rattle.saved_data.specs.declared.job.SavedJob.{SavedJob}
use Rattle.saved_data.specs.declared.parts.SavedArray.{SavedArray}
use Rattle.saved_data.specs.declared.parts.SavedNode.{SavedNode}
use Rattle.saved_data.specs.declared.parts.SavedPartition.{SavedPartition}
use Rattle.saved_data.specs.declared.parts.SavedReservation.{SavedReservation}
use Rattle.saved_data.specs.declared.parts.SavedUsage.{SavedUsage}
use Rattle.ctl_saved.specs.Saving.{named_part, named_parts, saved_array, saved_job, saved_node, saved_of, saved_partition, saved_reservation, saved_usages}
use Rattle.ctl_restore.specs.Fits.{AreOfOthers, Fits, HasItsTasks, HasSeconds, IsArray, IsKnownJob, IsLone, IsStanding, IsTaskOf, IsWellTimed, are_nodes, is_node, is_partition, is_qos, is_user_of, is_within}
use Rattle.ctl_restore.specs.Restored.{came_back, restored}
use Rattle.saved_laws.specs.Kept.{AreDropped, AreFiles, AreNumbered, HasMoments, HasTasks, IsAlone, IsAsOpened, IsKept, IsReserved, IsTask, IsTimed, Numbers, Stands, is_numbered_in, numbers_of}
use Rattle.saved_laws.proofs.AccountsBack.{LeadFrom, association_back, lines_all, lines_apart}
use Rattle.saved_laws.proofs.AllBack.{all_but_plan_back, found_of, gone_again, partitions_apart, plan_again, within_all}
use Rattle.saved_laws.proofs.JobsBack.{IsFound, IsWithin, plan_pending}
use Rattle.saved_laws.proofs.Named.{own_name}
use Rattle.saved_laws.proofs.NumbersKept.{any_at, any_there, index_is, map_there}
use Rattle.saved_laws.proofs.PlacesBack.{NodesApart, PartitionsApart, partition_back, partition_place_back, part_confs, place_back, same_part_confs}
use Rattle.saved_laws.proofs.Positions.{all_at, all_unmap, pairs_map, position-first, there}

-- what holds of whatever stands at a place holds of all
each-at : {A : Type 0} (P : A → Type 0) (xs : List A) → ((k : ℕ) (x : A) → slice_get xs k ≡ Some x → P x) → All P xs
each-at P xs each k d below =
    let here = there xs k below in
    subst P (sym (index_is xs k here.0 d here.1)) (each k here.0 here.1)

-- ---- names lead somewhere

node-known : (opened nodes : List NodeRecord) → map (λ (node : NodeRecord). node.conf) nodes
    ≡ map (λ (node : NodeRecord). node.conf) opened → NodesApart nodes → (place : ℕ) (node : NodeRecord)
    → slice_get nodes place ≡ Some node → is_node opened node.conf.name ≡ true
unfolding is_node
node-known opened nodes same apart place node is = ap is_some (place_back opened nodes same apart place node is)

parts-known : (opened nodes : List NodeRecord) → map (λ (node : NodeRecord). node.conf) nodes
    ≡ map (λ (node : NodeRecord). node.conf) opened → NodesApart nodes → (parts : List Part)
    → All (λ (part : NamedPart). is_node opened part.node ≡ true) (named_parts nodes parts)
unfolding named_parts
parts-known opened nodes same apart [] = All-nil (λ (part : NamedPart). is_node opened part.node ≡ true)
parts-known opened nodes same apart (part ∷ parts) =
    by (slice_get nodes part.node) refl (parts-known opened nodes same apart parts)
  where
    by : (found : Option NodeRecord) → slice_get nodes part.node ≡ found
        → All (λ (part : NamedPart). is_node opened part.node ≡ true) (filter_map (named_part nodes) parts)
        → All (λ (part : NamedPart). is_node opened part.node ≡ true) (filter_map (named_part nodes) (part ∷ parts))
    by None none rest =
        subst (λ (found : Option NodeRecord). All (λ (part : NamedPart). is_node opened part.node ≡ true)
        (cons_option (option_map (λ name. record { node = name; cpus = part.cpus; mem = part.mem })
        (option_map (λ (node : NodeRecord). node.conf.name) found)) (filter_map (named_part nodes) parts))) (sym none) rest
    by (Some node) some rest =
        subst (λ (found : Option NodeRecord). All (λ (part : NamedPart). is_node opened part.node ≡ true)
        (cons_option (option_map (λ name. record { node = name; cpus = part.cpus; mem = part.mem })
        (option_map (λ (node : NodeRecord). node.conf.name) found)) (filter_map (named_part nodes) parts))) (sym some)
        (All-cons (λ (part : NamedPart). is_node opened part.node ≡ true)
        (record { node = node.conf.name; cpus = part.cpus; mem = part.mem }) (filter_map (named_part nodes) parts)
        (node-known opened nodes same apart part.node node some) rest)

partition-known : (opened partitions : List PartRecord) → part_confs partitions ≡ part_confs opened
    → PartitionsApart partitions → (place : ℕ) (partition : PartRecord) → slice_get partitions place ≡ Some partition
    → is_partition opened partition.conf.name ≡ true
unfolding is_partition
partition-known opened partitions same apart place partition is =
    ap is_some (partition_back opened partitions same apart place partition is)

job-known : (one s : State) → IsAsOpened one s → NodesApart s.nodes → PartitionsApart s.partitions → (job : JobRecord)
    → IsFound one job → IsWithin s job → IsKnownJob one (saved_job s.partitions s.nodes job)
unfolding saved_job is_partition is_user_of is_qos
job-known one s stays nodes partitions job found inside = record {
  partition = ap is_some (partition_place_back one.partitions s.partitions
      (same_part_confs s.partitions one.partitions stays.partitions) partitions job.partition inside.partition);
  assoc = ap is_some found.assoc;
  qos = ap is_some found.qos;
  nodes = parts-known one.nodes s.nodes stays.nodes nodes job.parts;
}

usage-known : (all : List AssocRecord) (totals : List ℕ) → LeadFrom all 0 all
    → All (λ (line : SavedUsage). is_user_of all line.user line.account ≡ true) (saved_usages all totals)
unfolding is_user_of saved_usages
usage-known all totals lead =
    lines_all (λ (line : SavedUsage). is_some (place_in all line.user line.account) ≡ true) all all totals
    (λ k assoc total at is user. ap is_some (lead k assoc at user))

usage-few : (all : List AssocRecord) (totals : List ℕ) → All (λ total. total ≤ greatest_usage) totals
    → All (λ (line : SavedUsage). line.total ≤ 4294967295) (saved_usages all totals)
unfolding saved_usages
usage-few all totals most =
    lines_all (λ (line : SavedUsage). line.total ≤ 4294967295) all all totals
    (λ k assoc total at is user. all_at (λ (total : ℕ). total ≤ greatest_usage) totals k total most is)

usage-apart : (all : List AssocRecord) (totals : List ℕ) → LeadFrom all 0 all
    → AllPairs AreOfOthers (saved_usages all totals)
unfolding saved_usages
usage-apart all totals lead = lines_apart all 0 all totals lead

-- ---- jobs and arrays

job-there : (jobs : List JobRecord) (k : ℕ) (numbers : Numbers) → slice_get (map numbers_of jobs) k ≡ Some numbers
    → (job : JobRecord) × (slice_get jobs k ≡ Some job) × (numbers_of job ≡ numbers)
job-there [] k numbers is = absurd (cc)
job-there (job ∷ jobs) zero numbers is = let same : numbers_of job ≡ numbers = cc in (job, refl, same)
job-there (job ∷ jobs) (suc k) numbers is = job-there jobs k numbers is

well-timed : (partitions : List PartRecord) (nodes : List NodeRecord) (job : JobRecord) → IsTimed job
    → job.starts ≤ 4000000000 → IsWellTimed (saved_job partitions nodes job)
unfolding saved_job
well-timed partitions nodes job timed few = record {
  eligible = timed.eligible;
  started = timed.started;
  running = no-end job.state job.started job.ended timed.moments;
  pending = both-or-none job.state job.started job.ended timed.moments;
  starts = few;
}
  where
    no-end : (state : JobState) (started ended : Option ℕ) → HasMoments state started ended → is_running state ≡ true
        → is_none ended ≡ true
    no-end Pending started ended has is = absurd (cc)
    no-end Running started ended has is = has.1
    no-end (Completing final) started ended has is = absurd (cc)
    no-end (Ended final) started ended has is = absurd (cc)

    both-or-none : (state : JobState) (started ended : Option ℕ) → HasMoments state started ended
        → is_pending state ≡ true → is_some ended ≡ is_some started
    both-or-none Pending started ended has is = has
    both-or-none Running started ended has is = absurd (cc)
    both-or-none (Completing final) started ended has is = absurd (cc)
    both-or-none (Ended final) started ended has is = absurd (cc)

array-fits : (next : ℕ) (jobs : List Numbers) (array : ArrayRecord) → HasTasks next jobs array
    → IsArray next (saved_array array)
array-fits next jobs array has = record {
  list = record { rising = has.indices.rising; small = has.indices.small; few = has.indices.few };
  next = has.next;
}

tasks-fit : (partitions : List PartRecord) (nodes : List NodeRecord) (next : ℕ) (jobs : List JobRecord) (array : ArrayRecord)
    → HasTasks next (map numbers_of jobs) array
    → HasItsTasks (map (saved_job partitions nodes) jobs) (saved_array array)
unfolding saved_job
tasks-fit partitions nodes next jobs array has =
    let some = any_there (λ (job : Numbers). is_numbered_in array job ≡ true) (map numbers_of jobs) has.some in
    let here = job-there jobs some.place some.one some.at in
    let is : is_numbered_in array (numbers_of here.0) ≡ true =
    subst (λ (job : Numbers). is_numbered_in array job ≡ true) (sym here.2) some.holds in
    record {
      some = any_at (λ (job : SavedJob). is_within (saved_array array) job ≡ true) (map (saved_job partitions nodes) jobs)
          some.place (saved_job partitions nodes here.0)
          (map_there (saved_job partitions nodes) jobs some.place here.0 here.1) is;
      all = All-map
          (λ (job : SavedJob). is_within (saved_array array) job ≡ true → job.array ≡ Some (saved_array array).id)
          (saved_job partitions nodes) jobs
          (all_unmap (λ (job : Numbers). is_numbered_in array job ≡ true → job.array ≡ Some array.id) numbers_of jobs has.all);
    }

job-fits : (partitions : List PartRecord) (nodes : List NodeRecord) (arrays : List ArrayRecord) (job : JobRecord)
    → IsAlone (numbers_of job) ⊎ Any (IsTask (numbers_of job)) arrays
    → IsLone (saved_job partitions nodes job) ⊎ Any (IsTaskOf (saved_job partitions nodes job)) (map saved_array arrays)
unfolding saved_job
job-fits partitions nodes arrays job (inl alone) =
    inl (record { array = alone.array; index = alone.index; at_once = alone.at_once })
job-fits partitions nodes arrays job (inr some) =
    let one = any_there (IsTask (numbers_of job)) arrays some in
    inr (any_at (IsTaskOf (saved_job partitions nodes job)) (map saved_array arrays) one.place (saved_array one.one)
    (map_there saved_array arrays one.place one.one one.at)
    (record { of = one.holds.of; within = one.holds.within; index = one.holds.index }))

arrays-fit : (partitions : List PartRecord) (nodes : List NodeRecord) (next : ℕ) (arrays : List ArrayRecord)
    (jobs : List JobRecord) → AreNumbered next arrays (map numbers_of jobs)
    → All (IsArray next) (map saved_array arrays)
    × All (HasItsTasks (map (saved_job partitions nodes) jobs)) (map saved_array arrays)
    × All (λ (job : SavedJob). IsLone job ⊎ Any (IsTaskOf job) (map saved_array arrays)) (map (saved_job partitions nodes) jobs)
arrays-fit partitions nodes next arrays jobs numbered =
    let Tasks : ArrayRecord → Type 0 = HasTasks next (map numbers_of jobs) in (
      All-map (IsArray next) saved_array arrays
          (All-weaker Tasks (λ (array : ArrayRecord). IsArray next (saved_array array))
          (λ array has. array-fits next (map numbers_of jobs) array has) arrays numbered.arrays),
      All-map (HasItsTasks (map (saved_job partitions nodes) jobs)) saved_array arrays
          (All-weaker Tasks (λ (array : ArrayRecord). HasItsTasks (map (saved_job partitions nodes) jobs) (saved_array array))
          (λ array has. tasks-fit partitions nodes next jobs array has) arrays numbered.arrays),
      All-map (λ (job : SavedJob). IsLone job ⊎ Any (IsTaskOf job) (map saved_array arrays)) (saved_job partitions nodes) jobs
          (All-weaker (λ (job : JobRecord). IsAlone (numbers_of job) ⊎ Any (IsTask (numbers_of job)) arrays)
          (λ (job : JobRecord). IsLone (saved_job partitions nodes job)
          ⊎ Any (IsTaskOf (saved_job partitions nodes job)) (map saved_array arrays))
          (λ job of. job-fits partitions nodes arrays job of) jobs
          (all_unmap (λ (job : Numbers). IsAlone job ⊎ Any (IsTask job) arrays) numbers_of jobs numbered.jobs)),
    )

-- ---- soundness

-- a sound state is sound before any size and shutdown, and with another plan of its waiting jobs
cleared_sound : (s : State) (plan : List Placed) (gone : List (List ℕ)) → IsSound s → PlansPending s.jobs plan
    → IsSound (record s { plan = plan; gone = gone; size = 0; is_shut = false })
cleared_sound s plan gone sound planned = record {
  settings = sound.settings;
  nodes = sound.nodes;
  partitions = sound.partitions;
  limits = sound.limits;
  of_partitions = sound.of_partitions;
  of_accounts = sound.of_accounts;
  usage = sound.usage;
  reservations = sound.reservations;
  rising = sound.rising;
  below_next = sound.below_next;
  together = sound.together;
  next = sound.next;
  size = omega arith;
  accepts = λ open_. omega arith;
  moment = sound.moment;
  jobs = sound.jobs;
  held = sound.held;
  up = sound.up;
  plan = planned;
}

-- the restored state is sound
pub sound_back : (conf : ConfView) (file : AssocView) (s : State) → AreFiles conf file → IsSound s
    → IsKept (opening conf file) s → IsSound (restored conf file (saved_of s))
sound_back conf file s files sound kept =
    let one = opening conf file in
    subst IsSound (sym (all_but_plan_back conf file s files.conf files.file sound kept))
    (cleared_sound s (plan_again one.nodes s) (gone_again s) sound
    (plan_pending one.nodes s.nodes s.gone (gone_again s) s.jobs s.plan sound.plan))

-- ---- all of it

-- each saved reservation's nodes are known, and its seconds in their ranges
reserved-known : (opened : List NodeRecord) (reservation : Reservation) → IsReserved opened reservation
    → are_nodes opened (saved_reservation reservation).nodes ≡ true
unfolding saved_reservation are_nodes is_node
reserved-known opened reservation of = of.known

has-seconds : (opened : List NodeRecord) (reservation : Reservation) → IsReserved opened reservation
    → HasSeconds (saved_reservation reservation)
unfolding saved_reservation
has-seconds opened reservation of = record { start = of.start; end = of.end }

-- a dropped node has no node's name
name-none : (name : List ℕ) (nodes : List NodeRecord) → place_named name nodes ≡ None
    → All (λ (node : NodeRecord). node.conf.name ≢ name) nodes
name-none name [] none = All-nil (λ (node : NodeRecord). node.conf.name ≢ name)
name-none name (node ∷ nodes) none =
    let first = position-first (λ (node : NodeRecord). bytes_eq node.conf.name name) node nodes in
    All-cons (λ (node : NodeRecord). node.conf.name ≢ name) node nodes
    (λ same. absurd (let some : place_named name (node ∷ nodes) ≡ Some 0 =
    first ∙ ap (λ (is : Bool). if is then Some 0 else option_map (λ k. 1 + k) (place_named name nodes))
    (ap (λ (other : List ℕ). bytes_eq other name) same ∙ own_name name) in cc))
    (name-none name nodes (none-behind (bytes_eq node.conf.name name) (place_named name nodes) (sym first ∙ none)))
  where
    none-behind : (is : Bool) (found : Option ℕ)
        → (if is then Some 0 else option_map (λ k. 1 + k) found) ≡ None → found ≡ None
    none-behind true found none = absurd (cc)
    none-behind false None none = refl
    none-behind false (Some k) none = absurd (cc)

-- no node is said of twice, neither as one that is there nor as one that is dropped
standing-apart : (moment : ℕ) (nodes : List NodeRecord) (dropped : List DroppedNode) → NodesApart nodes
    → AreDropped nodes dropped
    → AllPairs (λ (one other : SavedNode). one.name ≢ other.name) (map saved_node nodes ++ map (came_back moment) dropped)
standing-apart moment nodes dropped apart are =
    let Apart : SavedNode → SavedNode → Type 0 = λ one other. one.name ≢ other.name in
    pairs-append Apart (map saved_node nodes) (map (came_back moment) dropped) (pairs_map Apart saved_node nodes apart)
    (pairs_map Apart (came_back moment) dropped are.once)
    (All-map (λ (line : SavedNode). All (Apart line) (map (came_back moment) dropped)) saved_node nodes
    (λ k d below. All-map (Apart (saved_node (get_or nodes k d))) (came_back moment) dropped
    (All-weaker (λ (node : DroppedNode). place_named node.name nodes ≡ None)
    (λ (node : DroppedNode). (get_or nodes k d).conf.name ≢ node.name)
    (λ node none. name-none node.name nodes none k d below) dropped are.absent)))

pub all_fits : (conf : ConfView) (file : AssocView) (s : State) → AreFiles conf file → IsSound s
    → IsKept (opening conf file) s → All (λ (job : JobRecord). job.starts ≤ 4000000000) s.jobs
    → Fits conf file (saved_of s)
unfolding saved_of
all_fits conf file s files sound kept starts =
    let one = opening conf file in
    let stays = kept.files in
    let apart : NodesApart s.nodes = sound.nodes.named.once in
    let split = partitions_apart conf file s files.conf stays in
    let same = same_part_confs s.partitions one.partitions stays.partitions in
    let lead : LeadFrom one.assocs 0 one.assocs =
    λ j assoc at user. association_back file.assocs file.qos files.file j assoc at user ∙ ap Some (omega arith) in
    let inside = within_all s sound in
    let arrays = arrays-fit s.partitions s.nodes s.next_id s.arrays s.jobs kept.numbered in
    record {
      known = record {
        partitions = All-map (λ (line : SavedPartition). is_partition one.partitions line.name ≡ true) saved_partition s.partitions
            (each-at (λ (partition : PartRecord). is_partition one.partitions partition.conf.name ≡ true) s.partitions
            (λ k partition at. partition-known one.partitions s.partitions same split k partition at));
        nodes = All-map (λ (line : SavedNode). is_node one.nodes line.name ≡ true) saved_node s.nodes
            (each-at (λ (node : NodeRecord). is_node one.nodes node.conf.name ≡ true) s.nodes
            (λ k node at. node-known one.nodes s.nodes stays.nodes apart k node at));
        usage = subst (λ assocs. All (λ (line : SavedUsage). is_user_of one.assocs line.user line.account ≡ true)
            (saved_usages assocs s.usage)) (sym stays.assocs) (usage-known one.assocs s.usage lead);
        reserved = All-map (λ (line : SavedReservation). are_nodes one.nodes line.nodes ≡ true) saved_reservation
            s.reservations (λ k d below. reserved-known one.nodes (get_or s.reservations k d) (kept.reserved k d below));
        jobs = All-map (IsKnownJob one) (saved_job s.partitions s.nodes) s.jobs
            (λ k d below. job-known one s stays apart split (get_or s.jobs k d)
            (found_of conf file s files.file stays (get_or s.jobs k d) (sound.of_accounts k d below) (kept.names k d below))
            (inside k d below));
      };
      once = record {
        partitions = pairs_map (λ (one other : SavedPartition). one.name ≢ other.name) saved_partition s.partitions split;
        nodes = standing-apart s.moment s.nodes s.dropped apart kept.dropped;
        usage = subst (λ assocs. AllPairs AreOfOthers (saved_usages assocs s.usage)) (sym stays.assocs)
            (usage-apart one.assocs s.usage lead);
        arrays = pairs_map (λ (one other : SavedArray). one.id < other.id) saved_array s.arrays kept.numbered.rising;
      };
      standing = All-map (IsStanding s.moment) saved_node s.nodes
          (All-weaker (Stands s.moment) (λ (node : NodeRecord). IsStanding s.moment (saved_node node))
          (λ node stands. record { empty = stands.empty; heard = stands.heard }) s.nodes kept.standing);
      usage = usage-few s.assocs s.usage kept.used.most;
      seconds = All-map HasSeconds saved_reservation s.reservations
          (λ k d below. has-seconds one.nodes (get_or s.reservations k d) (kept.reserved k d below));
      arrays = record { each = arrays.0; tasks = arrays.1; jobs = arrays.2 };
      timed = All-map IsWellTimed (saved_job s.partitions s.nodes) s.jobs
          (λ k d below. well-timed s.partitions s.nodes (get_or s.jobs k d) (kept.timed k d below) (starts k d below));
      few = omega (arith, kept.few, length-map s.jobs (saved_job s.partitions s.nodes));
      sound = sound_back conf file s files sound kept;
    }
