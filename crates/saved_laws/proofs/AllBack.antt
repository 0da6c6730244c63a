-- All that is kept of a state comes back.
use Rattle.std.proofs.Common.{ℕ, ◌≡◌, ◌≢◌, ◌∙◌, ◌+◌, ◌<◌, Bool, true, false, cond, List, [], ◌∷◌, ◌++◌, map, filter, length, All, AllPairs, Option, Some, None, bytes_eq, get_or, slice_get, refl, ap, sym, subst, arith}
use Rattle.std.specs.Prelude.{codes, find, flat_map, is_none, option_map, unwrap_or}
use Rattle.std.specs.Option.{option_or}
use Rattle.std.proofs.lemmas.Bool.{and_parts}
use Rattle.std.proofs.lemmas.List.{length-map}
use Rattle.std.proofs.lemmas.List.Elements.{All-cons, All-head, All-nil, All-tail, All-weaker}
use Rattle.std.proofs.lemmas.List.Folds.{find-append}
use Rattle.list_lemmas.proofs.Elements.{all-left, all-right}
use Rattle.plain_data.specs.Assocs.{AssocView, IsAssocFile}
use Rattle.plain_data.specs.Confs.{ConfView, IsConf}
use Rattle.plain_data.specs.declared.conf.PartConf.{PartConf}
use Rattle.plain_data.specs.declared.conf.Settings.{Settings}
use Rattle.node_state.specs.declared.record.DroppedNode.{DroppedNode}
use Rattle.node_state.specs.declared.record.NodeRecord.{NodeRecord}
use Rattle.node_state.specs.Nodes.{place_named}
use Rattle.node_state.specs.declared.partition_record.PartRecord.{PartRecord}
use Rattle.node_state.specs.declared.reservation_record.Reservation.{Reservation}
use Rattle.node_state.specs.Partitions
use Rattle.job_table.specs.declared.record.JobRecord.{JobRecord}
use Rattle.run_limits.specs.declared.record.AssocRecord.{AssocRecord}
use Rattle.run_limits.specs.declared.record.QosRecord.{QosRecord}
use Rattle.run_limits.specs.Accounts.{account_of, is_of_user, place_in}
use Rattle.backfill_planner.specs.declared.Placed.{Placed}
use Rattle.ctl_state.specs.declared.record.ArrayRecord.{ArrayRecord}
use Rattle.ctl_state.specs.Holding.{IsPartOf}
use Rattle.ctl_state.specs.Planning.{room_of}
use Rattle.ctl_state.specs.Soundness.{IsOfAccounts, IsSound}
use Rattle.ctl_state.specs.State.{State, opening}
use Rattle.ctl_jobs.specs.Submission.{account_at}
use Rattle.ctl_saved.specs.Saving.{saved_array, saved_job, saved_node, saved_of, saved_partition, saved_placed, saved_reservation, saved_usages}
use Rattle.ctl_restore.specs.Restored.{came_back, gone_names, is_gone, restored, restored_array, restored_job, restored_node, restored_over, restored_partition, restored_placed, restored_reservation, restored_usages}
use Rattle.saved_data.specs.declared.parts.SavedNode.{SavedNode}
use Rattle.saved_data.specs.declared.parts.SavedPartition.{SavedPartition}
use Rattle.saved_laws.specs.Gone.{NamesEachGone}
use Rattle.saved_laws.specs.Kept.{IsAsOpened, IsKept, IsOfItsNames, IsOnNodes, confs_of}
use Rattle.saved_laws.proofs.AccountsBack.{association_back, usage_back}
use Rattle.saved_laws.proofs.JobsBack.{IsFound, IsWithin, jobs_back, plan_back}
use Rattle.saved_laws.proofs.Named.{find_own}
use Rattle.saved_laws.proofs.NodesBack.{IsNodeFound, nodes_back, partitions_back}
use Rattle.saved_laws.proofs.PlacesBack.{NodesApart, PartitionsApart, gone_same, none_gone, part_confs, same_part_confs, same_places}
use Rattle.saved_laws.proofs.Positions.{pairs_unmap}
use Rattle.saved_laws.proofs.ReservationsBack.{reservations_back}
use Rattle.ctl_reconfigure.proofs.NameLists.{bytes-same as same_name}

-- ---- what differs in its name

confs-opened : (nodes : List NodeRecord) (confs : List PartConf)
    → part_confs (map (Partitions.opened nodes) confs) ≡ confs
confs-opened nodes [] = refl
confs-opened nodes (conf ∷ confs) = ap (λ later. conf ∷ later) (confs-opened nodes confs)

pub partitions_apart : (conf : ConfView) (file : AssocView) (s : State) → IsConf conf.nodes conf.partitions
    → IsAsOpened (opening conf file) s → PartitionsApart s.partitions
partitions_apart conf file s is stays =
    let same : part_confs s.partitions ≡ conf.partitions =
    same_part_confs s.partitions (opening conf file).partitions stays.partitions
    ∙ confs-opened (opening conf file).nodes conf.partitions in
    pairs_unmap (λ (one other : PartConf). one.name ≢ other.name) (λ (partition : PartRecord). partition.conf) s.partitions
    (subst (λ confs. AllPairs (λ (one other : PartConf). one.name ≢ other.name) confs) (sym same) is.partitions_once)

-- ---- jobs' names and places

-- the name of an association's account
abbrev account-by : List AssocRecord → Option AssocRecord → List ℕ
account-by assocs found = unwrap_or (option_map (account_of assocs) found) (codes "root")

-- the names of a job lead to its places
pub found_of : (conf : ConfView) (file : AssocView) (s : State) → IsAssocFile file.assocs file.qos
    → IsAsOpened (opening conf file) s → (job : JobRecord) → IsOfAccounts s.assocs s.qos job
    → IsOfItsNames (opening conf file) job → IsFound (opening conf file) job
found_of conf file s is stays job of names =
    by (slice_get (opening conf file).assocs job.assoc) refl
    (ap (λ assocs. option_map (is_of_user job.user) (slice_get assocs job.assoc)) (sym stays.assocs) ∙ of.assoc)
  where
    by : (found : Option AssocRecord) → slice_get (opening conf file).assocs job.assoc ≡ found
        → option_map (is_of_user job.user) (slice_get (opening conf file).assocs job.assoc) ≡ Some true
        → IsFound (opening conf file) job
    by None at user = absurd (let none = sym (ap (option_map (is_of_user job.user)) at) ∙ user in cc)
    by (Some assoc) at user =
        let some : Some (is_of_user job.user assoc) ≡ Some true = sym (ap (option_map (is_of_user job.user)) at) ∙ user in
        let is_his : is_of_user job.user assoc ≡ true = cc in
        let parts = and_parts assoc.conf.user (bytes_eq assoc.conf.name job.user) is_his in
        let named : assoc.conf.name ≡ job.user = same_name assoc.conf.name job.user parts.1 in
        let account : account_at (opening conf file).assocs job.assoc ≡ job.terms.account = sym names.account in
        record {
          assoc =
              ap (λ user. place_in (opening conf file).assocs user job.terms.account) (sym named)
              ∙ ap (place_in (opening conf file).assocs assoc.conf.name)
              (sym account ∙ ap (account-by (opening conf file).assocs) at)
              ∙ association_back file.assocs file.qos is job.assoc assoc at parts.0;
          qos = names.qos;
        }

all-flat : {A B : Type 0} (P : B → Type 0) (f : A → List B) (xs : List A) → All P (flat_map f xs) → All (λ x. All P (f x)) xs
all-flat {A} P f [] all = All-nil (λ (x : A). All P (f x))
all-flat {A} P f (x ∷ xs) all =
    All-cons (λ (x : A). All P (f x)) x xs (all-left P (f x) (flat_map f xs) all)
    (all-flat P f xs (all-right P (f x) (flat_map f xs) all))

-- the places of each job are of the state's lists
pub within_all : (s : State) → IsSound s → All (IsWithin s) s.jobs
within_all s sound =
    let Parts : JobRecord → Type 0 = λ job. All (IsPartOf (map room_of s.nodes)) job.parts in
    let parts : All Parts s.jobs =
    all-flat (IsPartOf (map room_of s.nodes)) (λ (job : JobRecord). job.parts) s.jobs sound.held.each in
    λ k d below. record {
      partition = sound.of_partitions k d below;
      parts = λ i e inside. subst (λ count. (get_or (get_or s.jobs k d).parts i e).node < count) (length-map s.nodes room_of)
          (parts k d below i e inside).node;
    }

-- ---- arrays

arrays-back : (arrays : List ArrayRecord) → map restored_array (map saved_array arrays) ≡ arrays
arrays-back [] = refl
arrays-back (array ∷ arrays) = ap (λ later. array ∷ later) (arrays-back arrays)

-- ---- dropped nodes

-- they are dropped still
still-dropped : (opened nodes : List NodeRecord) → confs_of nodes ≡ confs_of opened → (dropped : List DroppedNode)
    → All (λ (node : DroppedNode). place_named node.name nodes ≡ None) dropped
    → filter (is_gone opened) dropped ≡ dropped
still-dropped opened nodes same [] absent = refl
still-dropped opened nodes same (node ∷ dropped) absent =
    let Absent : DroppedNode → Type 0 = λ node. place_named node.name nodes ≡ None in
    ap (λ (found : Option ℕ). cond (is_none found) (node ∷ filter (is_gone opened) dropped) (filter (is_gone opened) dropped))
    (sym (same_places node.name nodes opened same) ∙ All-head Absent node dropped absent)
    ∙ ap (λ later. node ∷ later) (still-dropped opened nodes same dropped (All-tail Absent node dropped absent))

-- a line that is found is found with more lines behind
found-before : (lines more : List SavedNode) (node : NodeRecord) → IsNodeFound lines node → IsNodeFound (lines ++ more) node
found-before lines more node found =
    let is_its : SavedNode → Bool = λ line. bytes_eq line.name node.conf.name in
    find-append is_its lines more ∙ ap (λ (one : Option SavedNode). option_or one (find is_its more)) found

-- ---- all of it

-- a state with these parts, of no size and with no shutdown
abbrev with-parts : State → Settings → List PartRecord → List NodeRecord → List DroppedNode → List AssocRecord
    → List QosRecord → List Reservation → List JobRecord → List ℕ → List ArrayRecord → List Placed → List (List ℕ) → State
with-parts s settings partitions nodes dropped assocs qos reservations jobs usage arrays plan gone = record {
  settings = settings;
  partitions = partitions;
  nodes = nodes;
  dropped = dropped;
  assocs = assocs;
  qos = qos;
  reservations = reservations;
  jobs = jobs;
  usage = usage;
  arrays = arrays;
  plan = plan;
  gone = gone;
  next_id = s.next_id;
  size = 0;
  is_shut = false;
  moment = s.moment;
}

-- the names in a state's plan that are no node's
abbrev pub gone_again : State → List (List ℕ)
gone_again s = gone_names s.nodes (map (saved_placed s.nodes s.gone) s.plan)

-- its plan as it comes back: the same jobs at the same seconds on the same nodes
abbrev pub plan_again : List NodeRecord → State → List Placed
plan_again opened s = map (restored_placed opened (gone_again s)) (map (saved_placed s.nodes s.gone) s.plan)

-- all comes back, but that the plan may have other places for nodes that are gone
pub all_but_plan_back : (conf : ConfView) (file : AssocView) (s : State) → IsConf conf.nodes conf.partitions
    → IsAssocFile file.assocs file.qos → IsSound s → IsKept (opening conf file) s
    → restored conf file (saved_of s)
    ≡ record s { plan = plan_again (opening conf file).nodes s; gone = gone_again s; size = 0; is_shut = false }
unfolding saved_of restored_over
all_but_plan_back conf file s is_conf is_file sound kept =
    let one = opening conf file in
    let stays = kept.files in
    let apart : NodesApart s.nodes = sound.nodes.named.once in
    let split = partitions_apart conf file s is_conf stays in
    let lines = map saved_partition s.partitions in
    let standing = map saved_node s.nodes ++ map (came_back s.moment) s.dropped in
    let partitions : map (restored_partition lines) one.partitions ≡ s.partitions =
    partitions_back lines one.partitions s.partitions stays.partitions
    (find_own saved_partition (λ (line : SavedPartition). line.name) s.partitions split) in
    let nodes : map (restored_node standing) one.nodes ≡ s.nodes =
    nodes_back standing one.nodes s.nodes stays.nodes
    (All-weaker (IsNodeFound (map saved_node s.nodes)) (IsNodeFound standing)
    (λ node found. found-before (map saved_node s.nodes) (map (came_back s.moment) s.dropped) node found) s.nodes
    (find_own saved_node (λ (line : SavedNode). line.name) s.nodes apart)) in
    let dropped : filter (is_gone one.nodes) s.dropped ≡ s.dropped =
    still-dropped one.nodes s.nodes stays.nodes s.dropped kept.dropped.absent in
    let found : All (IsFound one) s.jobs =
    λ k d below. found_of conf file s is_file stays (get_or s.jobs k d) (sound.of_accounts k d below)
    (kept.names k d below) in
    let reservations = reservations_back one.nodes s.reservations kept.reserved in
    let jobs = jobs_back one s stays apart split s.jobs found (within_all s sound) in
    let usage : restored_usages (saved_usages s.assocs s.usage) one.assocs ≡ s.usage =
    ap (λ assocs. restored_usages (saved_usages assocs s.usage) one.assocs) stays.assocs
    ∙ usage_back file.assocs file.qos is_file s.usage (sound.usage ∙ ap length stays.assocs)
    (λ k assoc total at is not.
    kept.used.users k assoc total (ap (λ assocs. slice_get assocs k) stays.assocs ∙ at) is not) in
    let arrays = arrays-back s.arrays in
    let saved_plan = map (saved_placed s.nodes s.gone) s.plan in
    let gone : gone_names one.nodes saved_plan ≡ gone_again s = gone_same one.nodes s.nodes (sym stays.nodes) saved_plan in
    let these_partitions = map (restored_partition lines) one.partitions in
    let these_nodes = map (restored_node standing) one.nodes in
    let these_dropped = filter (is_gone one.nodes) s.dropped in
    let these_reservations = map (restored_reservation one.nodes) (map saved_reservation s.reservations) in
    let these_jobs = map (restored_job one) (map (saved_job s.partitions s.nodes) s.jobs) in
    let these_totals = restored_usages (saved_usages s.assocs s.usage) one.assocs in
    let these_arrays = map restored_array (map saved_array s.arrays) in
    let these_gone = gone_names one.nodes saved_plan in
    let these_plans = map (restored_placed one.nodes these_gone) saved_plan in
    ap (λ x. with-parts s x these_partitions these_nodes these_dropped one.assocs one.qos these_reservations these_jobs these_totals these_arrays these_plans these_gone) (sym stays.settings)
    ∙ ap (λ x. with-parts s s.settings x these_nodes these_dropped one.assocs one.qos these_reservations these_jobs these_totals these_arrays these_plans these_gone) partitions
    ∙ ap (λ x. with-parts s s.settings s.partitions x these_dropped one.assocs one.qos these_reservations these_jobs these_totals these_arrays these_plans these_gone) nodes
    ∙ ap (λ x. with-parts s s.settings s.partitions s.nodes x one.assocs one.qos these_reservations these_jobs these_totals these_arrays these_plans these_gone) dropped
    ∙ ap (λ x. with-parts s s.settings s.partitions s.nodes s.dropped x one.qos these_reservations these_jobs these_totals these_arrays these_plans these_gone)
    (sym stays.assocs)
    ∙ ap (λ x. with-parts s s.settings s.partitions s.nodes s.dropped s.assocs x these_reservations these_jobs these_totals these_arrays these_plans these_gone)
    (sym stays.qos)
    ∙ ap (λ x. with-parts s s.settings s.partitions s.nodes s.dropped s.assocs s.qos x these_jobs these_totals these_arrays these_plans these_gone) reservations
    ∙ ap (λ x. with-parts s s.settings s.partitions s.nodes s.dropped s.assocs s.qos s.reservations x these_totals these_arrays these_plans these_gone) jobs
    ∙ ap (λ x. with-parts s s.settings s.partitions s.nodes s.dropped s.assocs s.qos s.reservations s.jobs x these_arrays these_plans these_gone) usage
    ∙ ap (λ x. with-parts s s.settings s.partitions s.nodes s.dropped s.assocs s.qos s.reservations s.jobs s.usage x these_plans these_gone)
    arrays
    ∙ ap (λ x. with-parts s s.settings s.partitions s.nodes s.dropped s.assocs s.qos s.reservations s.jobs s.usage s.arrays (map (restored_placed one.nodes x) saved_plan) x)
    gone

same-count : (opened nodes : List NodeRecord) → confs_of nodes ≡ confs_of opened → length opened ≡ length nodes
same-count opened nodes same =
    sym (length-map opened (λ (node : NodeRecord). node.conf)) ∙ ap length (sym same)
    ∙ length-map nodes (λ (node : NodeRecord). node.conf)

-- where the plan names each node that is gone, it comes back as it was too
pub all_back : (conf : ConfView) (file : AssocView) (s : State) → IsConf conf.nodes conf.partitions
    → IsAssocFile file.assocs file.qos → IsSound s → IsKept (opening conf file) s → NamesEachGone s
    → restored conf file (saved_of s) ≡ record s { size = 0; is_shut = false }
all_back conf file s is_conf is_file sound kept named =
    let one = opening conf file in
    all_but_plan_back conf file s is_conf is_file sound kept
    ∙ ap (λ (gone : List (List ℕ)). record s {
      plan = map (restored_placed one.nodes gone) (map (saved_placed s.nodes s.gone) s.plan);
      gone = gone;
      size = 0;
      is_shut = false;
    }) named
    ∙ ap (λ (plan : List Placed). record s { plan = plan; size = 0; is_shut = false })
    (plan_back one.nodes s.nodes kept.files.nodes sound.nodes.named.once s.gone kept.gone s.plan
    (subst (λ (count : ℕ). All (IsOnNodes (count + length s.gone)) s.plan)
    (same-count one.nodes s.nodes kept.files.nodes) kept.planned))

-- it names each where none is gone
pub none_is_gone : (conf : ConfView) (file : AssocView) (s : State) → IsSound s → IsKept (opening conf file) s
    → s.gone ≡ [] → NamesEachGone s
none_is_gone conf file s sound kept none =
    let one = opening conf file in
    let many : length one.nodes + length s.gone ≡ length s.nodes =
    omega (arith, same-count one.nodes s.nodes kept.files.nodes, ap length none) in
    none_gone s.nodes s.gone sound.nodes.named.once s.plan
    (subst (λ (count : ℕ). All (IsOnNodes count) s.plan) many kept.planned)
    ∙ sym none

-- so all comes back then
pub whole_back : (conf : ConfView) (file : AssocView) (s : State) → IsConf conf.nodes conf.partitions
    → IsAssocFile file.assocs file.qos → IsSound s → IsKept (opening conf file) s → s.gone ≡ []
    → restored conf file (saved_of s) ≡ record s { size = 0; is_shut = false }
whole_back conf file s is_conf is_file sound kept none =
    all_back conf file s is_conf is_file sound kept (none_is_gone conf file s sound kept none)
