-- What is kept stays kept where a new slurm.conf is taken.
use Rattle.std.proofs.Common.{ℕ, ◌≡◌, ◌≢◌, ◌∙◌, ◌+◌, ◌<◌, ◌≤◌, zero, suc, Bool, true, false, ◌&&◌, not, if◌then◌else◌, List, [], ◌∷◌, ◌++◌, get_or, map, filter, length, All, AllPairs, Option, Some, None, bytes_eq, slice_get, refl, ap, sym, subst, arith}
use Rattle.std.specs.Prelude.{filter_map, is_some, option_map, unwrap_or}
use Rattle.std.specs.List.{cons_option, list_all, list_any}
use Rattle.std.proofs.lemmas.Bool.{and_from, and_parts, cond_both, not-true, or_left, or_right}
use Rattle.std.proofs.lemmas.List.{length-append, length-map}
use Rattle.std.proofs.lemmas.List.Elements.{All-append, All-cons, All-filter, All-head, All-map, All-nil, All-tail, All-weaker, filter_passes}
use Rattle.std.proofs.lemmas.List.Kept.{AllPairs-cons, AllPairs-filter}
use Rattle.std.proofs.lemmas.List.Quantifiers.{position-Some}
use Rattle.std.proofs.lemmas.Option.{slice_get-get_or, slice_get-map}
use Rattle.list_lemmas.proofs.Pairs.{pairs-append, pairs-head, pairs-tail}
use Rattle.plain_data.specs.Assocs.{AssocView}
use Rattle.plain_data.specs.Confs.{ConfView}
use Rattle.plain_data.specs.declared.conf.NodeConf.{NodeConf}
use Rattle.plain_data.specs.declared.conf.PartConf.{PartConf}
use Rattle.plain_data.specs.declared.conf.PartState.TheVariants.{Up}
use Rattle.plain_data.specs.declared.conf.Settings.{Settings}
use Rattle.request_data.specs.declared.report.Heard.{Heard}
use Rattle.backfill_planner.specs.declared.Placed.{Placed}
use Rattle.backfill_planner.specs.declared.Share.{Share}
use Rattle.plain_data.specs.Rows.{has_id}
use Rattle.node_state.specs.declared.record.DroppedNode.{DroppedNode}
use Rattle.node_state.specs.declared.record.NodeRecord.{NodeRecord}
use Rattle.node_state.specs.declared.partition_record.PartRecord.{PartRecord}
use Rattle.node_state.specs.declared.reservation_record.Reservation.{Reservation}
use Rattle.node_state.specs.Moving.{reservation_moved}
use Rattle.node_state.specs.Nodes.{opened as opened_node, place_named}
use Rattle.node_state.specs.Partitions.{in_state, opened as opened_part}
use Rattle.node_state.specs.Renewing.{come, dropped_named, node_named, renewed, renewed_from}
use Rattle.node_state.specs.Reservations.{has}
use Rattle.job_table.specs.declared.record.JobRecord.{JobRecord}
use Rattle.job_table.specs.Changes.{is_on}
use Rattle.ctl_state.specs.Holding.{parts_of}
use Rattle.ctl_state.specs.Ordered.{ordered_by}
use Rattle.ctl_state.specs.Soundness.{IsSound}
use Rattle.ctl_state.specs.State.{State, opening}
use Rattle.run_limits.specs.Accounts.{qos_meant}
use Rattle.ctl_jobs.specs.Submission.{account_at}
use Rattle.ctl_reconfigure.specs.Blocking.{blocked, is_needed}
use Rattle.ctl_reconfigure.specs.Files.{IsFile}
use Rattle.ctl_reconfigure.specs.Names.{conf_names, node_names}
use Rattle.ctl_reconfigure.specs.Naming.{node_planned}
use Rattle.ctl_reconfigure.specs.Reconfiguring.{dropped_after, dropped_as, gone_after, is_before, job_after, keeps_places, leaves, nodes_after, origins, partitions_after, plan_after, planned_names, reconfigured, reservations_after, settings_after, share_after, share_names}
use Rattle.ctl_core.specs.Step.{entered}
use Rattle.saved_data.specs.Order.{IsNotBehind}
use Rattle.saved_laws.specs.Kept.{AreDropped, AreFiles, AreGone, IsKept, IsKeptOver, IsOfItsNames, IsOnNodes, IsReserved, IsTimed, OnlyUsersUse, confs_of, in_force, most_jobs, numbers_of, part_confs_of, without_states}
use Rattle.saved_laws.proofs.Arranged.{else_second, less_first, not_behind_on, order_all, order_ordered, order_pairs}
use Rattle.saved_laws.proofs.ByNames.{all_there, among, among_names, has_kept, is_there, moved_row, none_named, not_named, of_each, place_by_names, same_named, same_places_of}
use Rattle.saved_laws.proofs.Named.{own_name}
use Rattle.saved_laws.proofs.NumbersWalk.{Numbered}
use Rattle.saved_laws.proofs.Positions.{pairs_map, there, within}
use Rattle.saved_laws.proofs.StandingKept.{Standing}
use Rattle.ctl_reconfigure.proofs.NameLists.{bytes-same as same_name, names-same as names-are}
use Rattle.ctl_reconfigure.proofs.Places.{names-after}
use Rattle.job_table.proofs.Marks.{same-one as some-is}

-- what is known of new files
pub record RenewalLaws : Type 0 where
  pub needed : (s : State) (conf : ConfView) (place : ℕ) (node : NodeRecord) → blocked s conf ≡ None
      → slice_get s.nodes place ≡ Some node → is_needed s place ≡ true → has (conf_names conf.nodes) node.conf.name ≡ true
  pub planned : (s : State) (moment : ℕ) (conf : ConfView) → All (λ (placed : Placed). All (λ (share : Share).
      share.node < length (share_names s)
      → node_planned (reconfigured s moment conf) (share_after s conf share) ≡ node_planned s share) placed.parts) s.plan

-- ---- what the new file says

-- the slurm.conf in force then
abbrev pub renewed_force : State → ConfView → ConfView
renewed_force s conf =
    record { settings = settings_after s.settings conf.settings; nodes = conf.nodes; partitions = conf.partitions }

come-conf : (moment : ℕ) (conf : NodeConf) (found : Option DroppedNode) → (come moment conf found).conf ≡ conf
come-conf moment conf None = refl
come-conf moment conf (Some dropped) = refl

from-conf : (dropped : List DroppedNode) (moment : ℕ) (conf : NodeConf) (found : Option NodeRecord)
    → (renewed_from dropped moment conf found).conf ≡ conf
from-conf dropped moment conf None = come-conf moment conf (dropped_named conf.name dropped)
from-conf dropped moment conf (Some node) = refl

pub confs_renewed : (nodes : List NodeRecord) (dropped : List DroppedNode) (moment : ℕ) (confs : List NodeConf)
    → confs_of (map (renewed nodes dropped moment) confs) ≡ confs
confs_renewed nodes dropped moment [] = refl
confs_renewed nodes dropped moment (conf ∷ confs) =
    ap (λ (one : NodeConf). one ∷ confs_of (map (renewed nodes dropped moment) confs))
    (from-conf dropped moment conf (node_named conf.name nodes))
    ∙ ap (λ (later : List NodeConf). conf ∷ later) (confs_renewed nodes dropped moment confs)

pub lines_opened : (nodes : List NodeRecord) (lines : List PartConf) → part_confs_of (map (opened_part nodes) lines) ≡ lines
lines_opened nodes [] = refl
lines_opened nodes (line ∷ lines) = ap (λ (later : List PartConf). line ∷ later) (lines_opened nodes lines)

pub force_after : (s : State) (moment : ℕ) (conf : ConfView) → in_force (reconfigured s moment conf) ≡ renewed_force s conf
force_after s moment conf =
    let settings = settings_after s.settings conf.settings in
    ap (λ nodes. force settings nodes (part_confs_of (partitions_after s moment conf)))
    (confs_renewed s.nodes s.dropped moment conf.nodes)
    ∙ ap (force settings conf.nodes) (lines_opened (nodes_after s moment conf) conf.partitions)
  where
    force : Settings → List NodeConf → List PartConf → ConfView
    force settings nodes partitions = record { settings = settings; nodes = nodes; partitions = partitions }

names-by : (nodes : List NodeRecord) → node_names nodes ≡ conf_names (confs_of nodes)
names-by [] = refl
names-by (node ∷ nodes) = ap (λ (later : List (List ℕ)). node.conf.name ∷ later) (names-by nodes)

pub confs_opened : (confs : List NodeConf) → confs_of (map opened_node confs) ≡ confs
confs_opened [] = refl
confs_opened (conf ∷ confs) = ap (λ (later : List NodeConf). conf ∷ later) (confs_opened confs)

names-opened : (confs : List NodeConf) → node_names (map opened_node confs) ≡ conf_names confs
names-opened confs = names-by (map opened_node confs) ∙ ap conf_names (confs_opened confs)

shapes : (one other : List NodeRecord) → node_names one ≡ node_names other → (lines : List PartConf)
    → without_states (map (opened_part one) lines) ≡ without_states (map (opened_part other) lines)
shapes one other same [] = refl
shapes one other same (line ∷ lines) =
    ap (λ (places : List ℕ). record { conf = line; state = Up; nodes = places } ∷ without_states (map (opened_part one) lines))
    (same_places_of one other same line.nodes)
    ∙ ap (λ (later : List PartRecord). in_state Up (opened_part other line) ∷ later) (shapes one other same lines)

-- ---- what stays of names

any-there : {X : Type 0} (test : X → Bool) (xs : List X) (k : ℕ) (d : X) → k < length xs → test (get_or xs k d) ≡ true
    → list_any test xs ≡ true
any-there test [] k d below is = absurd (omega (arith, below))
any-there test (x ∷ xs) zero d below is = or_left (test x) (list_any test xs) is
any-there test (x ∷ xs) (suc k) d below is =
    or_right (test x) (list_any test xs) (any-there test xs k d (omega (arith, below)) is)

-- ---- what stands against a file

-- ---- reservations

-- what is so of each of some names is so of all
all-of : (test : List ℕ → Bool) (names : List (List ℕ)) → ((name : List ℕ) → has names name ≡ true → test name ≡ true)
    → list_all test names ≡ true
all-of test [] each = refl
all-of test (name ∷ names) each =
    and_from (test name) (list_all test names)
    (each name (or_left (bytes_eq name name) (has names name) (own_name name)))
    (all-of test names (λ other is. each other (or_right (bytes_eq other name) (has names other) is)))

-- the nodes with the names of a reservation have lines
reserved-stays : RenewalLaws → (s : State) (conf : ConfView) (k : ℕ) (d : Reservation) (name : List ℕ)
    → blocked s conf ≡ None → k < length s.reservations → IsReserved s.nodes (get_or s.reservations k d)
    → has (get_or s.reservations k d).names name ≡ true → has (conf_names conf.nodes) name ≡ true
reserved-stays laws s conf k d name free below of named =
    by (place_named name s.nodes) refl (of_each (λ name. is_some (place_named name s.nodes)) own.names name of.known named)
  where
    own : Reservation
    own = get_or s.reservations k d

    all : List (List ℕ)
    all = node_names s.nodes

    by : (found : Option ℕ) → place_named name s.nodes ≡ found → is_some found ≡ true
        → has (conf_names conf.nodes) name ≡ true
    by None at some = absurd (cc)
    by (Some q) at some =
        let is = position-Some (bytes_eq name) all q name (place_by_names name s.nodes ∙ at) in
        let same = same_name name (get_or all q name) is.1 in
        let node = there s.nodes q (omega (arith, is.0, length-map s.nodes (λ (node : NodeRecord). node.conf.name))) in
        let called : node.0.conf.name ≡ name =
        some-is (sym (slice_get-map (λ (node : NodeRecord). node.conf.name) s.nodes q
        ∙ ap (option_map (λ (node : NodeRecord). node.conf.name)) node.1)
        ∙ slice_get-get_or all q name is.0) ∙ sym same in
        let in-row : has_id own.nodes q ≡ true =
        ap (λ row. has_id row q) (of.places ∙ among_names own.names s.nodes)
        ∙ has_kept (λ k. unwrap_or (option_map (has own.names) (slice_get all k)) false) (length all) q is.0
        ∙ ap (λ found. unwrap_or (option_map (has own.names) found) false) (slice_get-get_or all q name is.0)
        ∙ ap (has own.names) (sym same) ∙ named in
        let needed : is_needed s q ≡ true =
        or_right (list_any (is_on q) (parts_of s.jobs))
        (list_any (λ (reservation : Reservation). has_id reservation.nodes q) s.reservations)
        (any-there (λ (reservation : Reservation). has_id reservation.nodes q) s.reservations k d below in-row) in
        subst (λ name. has (conf_names conf.nodes) name ≡ true) called (laws.needed s conf q node.0 free node.1 needed)

-- a reservation of nodes is one of other nodes of the same names
same-reserved : (one other : List NodeRecord) → node_names one ≡ node_names other → (reservation : Reservation)
    → IsReserved one reservation → IsReserved other reservation
same-reserved one other same reservation of = record {
  places = of.places ∙ among_names reservation.names one ∙ ap (among reservation.names) same
      ∙ sym (among_names reservation.names other);
  known = sym (all_there reservation.names one other same) ∙ of.known;
  start = of.start;
  end = of.end;
}

-- it is of the new nodes with its names
reservation-renewed : RenewalLaws → (s : State) (conf : ConfView) (nodes : List NodeRecord) (k : ℕ) (d : Reservation)
    → blocked s conf ≡ None → node_names nodes ≡ conf_names conf.nodes → k < length s.reservations
    → IsReserved s.nodes (get_or s.reservations k d)
    → IsReserved nodes (reservation_moved (origins s conf) (get_or s.reservations k d))
reservation-renewed laws s conf nodes k d free are below of =
    let own = get_or s.reservations k d in
    record {
      places = moved_row own.names s.nodes own.nodes (conf_names conf.nodes)
          (of.places ∙ among_names own.names s.nodes) of.known
          ∙ ap (among own.names) (sym are) ∙ sym (among_names own.names nodes);
      known = all-of (λ name. is_some (place_named name nodes)) own.names
          (λ name named. is_there name (conf_names conf.nodes) nodes are
          (reserved-stays laws s conf k d name free below of named));
      start = of.start;
      end = of.end;
    }

reservations-renewed : RenewalLaws → (s : State) (conf : ConfView) (nodes : List NodeRecord) → blocked s conf ≡ None
    → node_names nodes ≡ conf_names conf.nodes → All (IsReserved s.nodes) s.reservations
    → All (IsReserved nodes) (reservations_after s conf)
reservations-renewed laws s conf nodes free are of =
    cond_both (keeps_places s conf) s.reservations (map (reservation_moved (origins s conf)) s.reservations)
    (All (IsReserved nodes))
    (λ keeps.
    let same = names-are (node_names s.nodes) (conf_names conf.nodes) keeps ∙ sym are in
    All-weaker (IsReserved s.nodes) (IsReserved nodes) (same-reserved s.nodes nodes same) s.reservations of)
    (λ moved. All-map (IsReserved nodes) (reservation_moved (origins s conf)) s.reservations
    (λ k d below. reservation-renewed laws s conf nodes k d free are below (of k d below)))

-- ---- dropped nodes

-- the names of the file
abbrev listed : ConfView → List ℕ → Bool
listed conf name = has (conf_names conf.nodes) name

heard-name : (name : List ℕ) (heard : Option Heard) (one : DroppedNode) → dropped_as name heard ≡ Some one
    → one.name ≡ name
heard-name name None one is = absurd (cc)
heard-name name (Some heard) one is = sym (ap (λ (found : DroppedNode). found.name) (some-is is))

named-by : (name : List ℕ) (heard : Option Heard) (one : DroppedNode) (stays : Bool)
    → (if stays then None else dropped_as name heard) ≡ Some one → (one.name ≡ name) × (stays ≡ false)
named-by name heard one true is = absurd (cc)
named-by name heard one false is = (heard-name name heard one is, refl)

leaves-name : (conf : ConfView) (node : NodeRecord) (one : DroppedNode) → leaves (listed conf) node ≡ Some one
    → (one.name ≡ node.conf.name) × (has (conf_names conf.nodes) node.conf.name ≡ false)
leaves-name conf node one is = named-by node.conf.name node.heard one (has (conf_names conf.nodes) node.conf.name) is

-- what is so of the names of nodes is so of those that leave their pairs
leave-by : (P : List ℕ → Type 0) (conf : ConfView) (node : NodeRecord) (rest : List DroppedNode)
    (found : Option DroppedNode) → leaves (listed conf) node ≡ found
    → (has (conf_names conf.nodes) node.conf.name ≡ false → P node.conf.name)
    → All (λ (one : DroppedNode). P one.name) rest → All (λ (one : DroppedNode). P one.name) (cons_option found rest)
leave-by P conf node rest None is own all = all
leave-by P conf node rest (Some one) is own all =
    let named = leaves-name conf node one is in
    All-cons (λ (one : DroppedNode). P one.name) one rest (subst P (sym named.0) (own named.1)) all

all-leave : (P : List ℕ → Type 0) (conf : ConfView) (nodes : List NodeRecord)
    → All (λ (node : NodeRecord). has (conf_names conf.nodes) node.conf.name ≡ false → P node.conf.name) nodes
    → All (λ (one : DroppedNode). P one.name) (filter_map (leaves (listed conf)) nodes)
all-leave P conf [] all = All-nil (λ (one : DroppedNode). P one.name)
all-leave P conf (node ∷ nodes) all =
    let Q = λ (node : NodeRecord). (has (conf_names conf.nodes) node.conf.name ≡ false → P node.conf.name) in
    leave-by P conf node (filter_map (leaves (listed conf)) nodes) (leaves (listed conf) node) refl
    (All-head Q node nodes all) (all-leave P conf nodes (All-tail Q node nodes all))

abbrev Differ : DroppedNode → DroppedNode → Type 0
Differ one other = one.name ≢ other.name

apart-by : (conf : ConfView) (node : NodeRecord) (nodes : List NodeRecord) (found : Option DroppedNode)
    → leaves (listed conf) node ≡ found
    → All (λ (other : NodeRecord). node.conf.name ≢ other.conf.name) nodes
    → AllPairs Differ (filter_map (leaves (listed conf)) nodes)
    → AllPairs Differ (cons_option found (filter_map (leaves (listed conf)) nodes))
apart-by conf node nodes None is differ apart = apart
apart-by conf node nodes (Some one) is differ apart =
    let named = leaves-name conf node one is in
    AllPairs-cons Differ one (filter_map (leaves (listed conf)) nodes)
    (all-leave (λ name. one.name ≢ name) conf nodes
    (All-weaker (λ (other : NodeRecord). node.conf.name ≢ other.conf.name)
    (λ (other : NodeRecord). has (conf_names conf.nodes) other.conf.name ≡ false → one.name ≢ other.conf.name)
    (λ other differ left same. differ (sym named.0 ∙ same)) nodes differ))
    apart

leave-apart : (conf : ConfView) (nodes : List NodeRecord)
    → AllPairs (λ (one other : NodeRecord). one.conf.name ≢ other.conf.name) nodes
    → AllPairs Differ (filter_map (leaves (listed conf)) nodes)
leave-apart conf [] apart = λ i j d before below. absurd (omega (arith, below))
leave-apart conf (node ∷ nodes) apart =
    let Apart = λ (one other : NodeRecord). (one.conf.name ≢ other.conf.name) in
    apart-by conf node nodes (leaves (listed conf) node) refl (pairs-head Apart node nodes apart)
    (leave-apart conf nodes (pairs-tail Apart node nodes apart))

-- those that stay dropped, and those that are dropped now
abbrev dropped-now : State → ConfView → List DroppedNode
dropped-now s conf =
    filter (λ (node : DroppedNode). not (has (conf_names conf.nodes) node.name)) s.dropped
    ++ filter_map (leaves (listed conf)) s.nodes

now-apart : (s : State) (conf : ConfView) → IsSound s → AreDropped s.nodes s.dropped
    → AllPairs Differ (dropped-now s conf)
now-apart s conf sound are =
    let left = filter (λ (node : DroppedNode). not (has (conf_names conf.nodes) node.name)) s.dropped in
    pairs-append Differ left (filter_map (leaves (listed conf)) s.nodes)
    (AllPairs-filter Differ (λ (node : DroppedNode). not (has (conf_names conf.nodes) node.name)) s.dropped are.once)
    (leave-apart conf s.nodes sound.nodes.named.once)
    (All-filter (λ (node : DroppedNode). not (has (conf_names conf.nodes) node.name))
    (λ (one : DroppedNode). All (Differ one) (filter_map (leaves (listed conf)) s.nodes)) s.dropped
    (All-weaker (λ (one : DroppedNode). place_named one.name s.nodes ≡ None)
    (λ (one : DroppedNode). All (Differ one) (filter_map (leaves (listed conf)) s.nodes))
    (λ one absent. all-leave (λ name. one.name ≢ name) conf s.nodes
    (All-weaker (λ (node : NodeRecord). one.name ≢ node.conf.name)
    (λ (node : NodeRecord). has (conf_names conf.nodes) node.conf.name ≡ false → one.name ≢ node.conf.name)
    (λ node differ left. differ) s.nodes (none_named one.name s.nodes absent))) s.dropped are.absent))

now-absent : (s : State) (conf : ConfView) (nodes : List NodeRecord) → node_names nodes ≡ conf_names conf.nodes
    → All (λ (one : DroppedNode). place_named one.name nodes ≡ None) (dropped-now s conf)
now-absent s conf nodes are =
    let stays = λ (node : DroppedNode). not (has (conf_names conf.nodes) node.name) in
    let left = filter stays s.dropped in
    All-append (λ (one : DroppedNode). place_named one.name nodes ≡ None) left (filter_map (leaves (listed conf)) s.nodes)
    (All-weaker (λ (one : DroppedNode). stays one ≡ true) (λ (one : DroppedNode). place_named one.name nodes ≡ None)
    (λ one stays. not_named one.name (conf_names conf.nodes) nodes are (not-true (has (conf_names conf.nodes) one.name) stays))
    left (filter_passes stays s.dropped))
    (all-leave (λ name. place_named name nodes ≡ None) conf s.nodes
    (λ k d below left. not_named (get_or s.nodes k d).conf.name (conf_names conf.nodes) nodes are left))

dropped-renewed : (s : State) (conf : ConfView) (nodes : List NodeRecord) → IsSound s
    → node_names nodes ≡ conf_names conf.nodes → AreDropped s.nodes s.dropped → AreDropped nodes (dropped_after s conf)
dropped-renewed s conf nodes sound names are =
    cond_both (keeps_places s conf) s.dropped (ordered_by is_before (dropped-now s conf)) (AreDropped nodes)
    (λ keeps.
    let same = names-are (node_names s.nodes) (conf_names conf.nodes) keeps ∙ sym names in
    record {
      ordered = are.ordered;
      once = are.once;
      absent = λ k d below. sym (same_named (get_or s.dropped k d).name s.nodes nodes same) ∙ are.absent k d below;
    })
    (λ moved. record {
      ordered = order_ordered is_before (λ (one other : DroppedNode). IsNotBehind one.name other.name) (dropped-now s conf)
          (λ one other is. less_first one.name other.name is) (λ one other not. else_second one.name other.name not)
          (λ one middle other first second. not_behind_on one.name middle.name other.name first second);
      once = order_pairs is_before Differ (dropped-now s conf) (λ one other differ same. differ (sym same))
          (now-apart s conf sound are);
      absent = order_all is_before (λ (one : DroppedNode). place_named one.name nodes ≡ None) (dropped-now s conf)
          (now-absent s conf nodes names);
    })

-- ---- nodes that are gone

abbrev NamesDiffer : List ℕ → List ℕ → Type 0
NamesDiffer one other = one ≢ other

-- the names that shares may stand for differ
shares-apart : (s : State) → IsSound s → AreGone s.nodes s.gone → AllPairs NamesDiffer (share_names s)
shares-apart s sound are =
    pairs-append NamesDiffer (node_names s.nodes) s.gone
    (pairs_map NamesDiffer (λ (node : NodeRecord). node.conf.name) s.nodes sound.nodes.named.once) are.once
    (All-map (λ name. All (NamesDiffer name) s.gone) (λ (node : NodeRecord). node.conf.name) s.nodes
    (λ k d below i e inside same.
    none_named (get_or s.gone i e) s.nodes (are.absent i e inside) k d below (sym same)))

gone-renewed : (s : State) (conf : ConfView) (nodes : List NodeRecord) → IsSound s
    → node_names nodes ≡ conf_names conf.nodes → AreGone s.nodes s.gone → AreGone nodes (gone_after s conf)
gone-renewed s conf nodes sound names are =
    let stays = λ (name : List ℕ). has (planned_names (share_names s) s.plan) name && not (has (conf_names conf.nodes) name) in
    cond_both (keeps_places s conf) s.gone (filter stays (share_names s)) (AreGone nodes)
    (λ keeps.
    let same = names-are (node_names s.nodes) (conf_names conf.nodes) keeps ∙ sym names in
    record {
      once = are.once;
      absent = λ k d below. sym (same_named (get_or s.gone k d) s.nodes nodes same) ∙ are.absent k d below;
    })
    (λ moved. record {
      once = AllPairs-filter NamesDiffer stays (share_names s) (shares-apart s sound are);
      absent = All-weaker (λ name. stays name ≡ true) (λ name. place_named name nodes ≡ None)
          (λ name is. not_named name (conf_names conf.nodes) nodes names
          (not-true (has (conf_names conf.nodes) name)
          (and_parts (has (planned_names (share_names s) s.plan) name) (not (has (conf_names conf.nodes) name)) is).1))
          (filter stays (share_names s)) (filter_passes stays (share_names s));
    })

-- ---- the plan

-- each share stands for a node that there is, or that is gone
plan-renewed : RenewalLaws → (s : State) (moment : ℕ) (conf : ConfView)
    → All (IsOnNodes (length s.nodes + length s.gone)) s.plan
    → All (IsOnNodes (length (conf_names conf.nodes) + length (gone_after s conf))) (plan_after s conf)
plan-renewed laws s moment conf on =
    let after = reconfigured s moment conf in
    let now = length (conf_names conf.nodes) + length (gone_after s conf) in
    let before = length-append (node_names s.nodes) s.gone in
    let behind = length-append (node_names after.nodes) after.gone in
    All-map (IsOnNodes now) (λ (placed : Placed). record placed { parts = map (share_after s conf) placed.parts }) s.plan
    (λ k d below. All-map (λ (share : Share). share.node < now) (share_after s conf) (get_or s.plan k d).parts
    (λ i e inside.
    let share = get_or (get_or s.plan k d).parts i e in
    let there_was : share.node < length (share_names s) =
    omega (arith, on k d below i e inside, before, length-map s.nodes (λ (node : NodeRecord). node.conf.name)) in
    let at = there (share_names s) share.node there_was in
    let named = laws.planned s moment conf k d below i e inside there_was ∙ at.1 in
    omega (
      arith,
      within (share_names after) (share_after s conf share).node at.0 named,
      behind,
      ap length (names-after s moment conf),
    )))

-- ---- all of it

names-again : (one other : State) → one.assocs ≡ other.assocs → one.qos ≡ other.qos → (jobs : List JobRecord)
    → All (IsOfItsNames one) jobs → All (IsOfItsNames other) jobs
names-again one other assocs qos jobs all =
    All-weaker (IsOfItsNames one) (IsOfItsNames other)
    (λ job of. record {
      account = of.account ∙ ap (λ assocs. account_at assocs job.assoc) assocs;
      qos = ap (λ qos. qos_meant qos (Some job.terms.qos)) (sym qos) ∙ of.qos;
    }) jobs all

pub renewed_kept : RenewalLaws → (file : AssocView) (s : State) (moment size : ℕ) (conf : ConfView) → IsSound s → IsFile conf
    → conf.settings.max_job_count ≤ most_jobs → blocked s conf ≡ None → IsKeptOver file s
    → All (IsOfItsNames (opening (in_force s) file)) (map (job_after s conf) s.jobs)
    → All IsTimed (map (job_after s conf) s.jobs) → Numbered most_jobs (reconfigured s moment conf)
    → Standing moment (reconfigured s moment conf) → OnlyUsersUse s.assocs s.usage
    → IsKeptOver file (entered moment size (reconfigured s moment conf))
renewed_kept laws file s moment size conf sound ranges types free kept names timed numbered stand uses =
    let before = opening (in_force s) file in
    let after = reconfigured s moment conf in
    let force = renewed_force s conf in
    let opened = opening force file in
    let named : node_names s.nodes ≡ node_names before.nodes =
    names-by s.nodes ∙ sym (names-opened (confs_of s.nodes)) in
    let reserved = All-weaker (IsReserved before.nodes) (IsReserved s.nodes)
    (same-reserved before.nodes s.nodes (sym named)) s.reservations kept.kept.reserved in
    let count : length before.nodes ≡ length s.nodes =
    length-map (confs_of s.nodes) opened_node ∙ length-map s.nodes (λ (node : NodeRecord). node.conf) in
    let planned = subst (λ n. All (IsOnNodes (n + length s.gone)) s.plan) count kept.kept.planned in
    let now : length (conf_names conf.nodes) ≡ length opened.nodes =
    length-map conf.nodes (λ (conf : NodeConf). conf.name) ∙ sym (length-map conf.nodes opened_node) in
    let same = sym (force_after s moment conf) in
    record {
      files = subst (λ (conf : ConfView). AreFiles conf file) same
          (record { conf = ranges.whole; file = kept.files.file; most = types });
      kept = subst (λ (conf : ConfView). IsKept (opening conf file) (entered moment size after)) same (record {
        files = record {
          settings = refl;
          assocs = kept.kept.files.assocs;
          qos = kept.kept.files.qos;
          partitions = shapes (nodes_after s moment conf) opened.nodes
              (names-after s moment conf ∙ sym (names-opened conf.nodes)) conf.partitions;
          nodes = confs_renewed s.nodes s.dropped moment conf.nodes ∙ sym (confs_opened conf.nodes);
        };
        standing = stand;
        names = names-again before opened refl refl (map (job_after s conf) s.jobs) names;
        timed = timed;
        few = omega (arith, numbered.few, length-map (map (job_after s conf) s.jobs) numbers_of);
        numbered = numbered.numbered;
        reserved = reservations-renewed laws s conf opened.nodes free (names-opened conf.nodes) reserved;
        used = uses;
        dropped = dropped-renewed s conf (nodes_after s moment conf) sound (names-after s moment conf)
            kept.kept.dropped;
        gone = gone-renewed s conf (nodes_after s moment conf) sound (names-after s moment conf) kept.kept.gone;
        planned = subst (λ n. All (IsOnNodes (n + length (gone_after s conf))) (plan_after s conf)) now
            (plan-renewed laws s moment conf planned);
      });
    }
