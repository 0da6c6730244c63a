-- What a candidate needs is what its terms say, in its partition; and which nodes it may get.
use Rattle.std.proofs.Common.{zero, suc, ℕ, ◌≡◌, ◌≢◌, ◌≤◌, ◌<◌, ◌+◌, ◌∙◌, Bool, true, false, ◌||◌, not, List, [], ◌∷◌, ◌++◌, filter, filter_map, All, AllPairs, Any, Contains, Option, Some, None, IfSome, length, get_or, option_map, slice_get, slice_index, unwrap_or, refl, sym, ap, subst, arith, inl, inr}
use Rattle.std.specs.Prelude.{bytes_eq}
use Rattle.std.specs.Cmp.Lexicographic.{bytes_decides}
use Rattle.std.specs.List.{cons_option, list_any}
use Rattle.std.proofs.lemmas.Bool.{both_ways, cases_Bool, cases_order, cond_both, false_from_ne_true, true_from_ne_false}
use Rattle.std.proofs.lemmas.List.{get_or_append_left, get_or_default, length-append}
use Rattle.std.proofs.lemmas.List.Elements.{All-append, All-cons, All-contains_itself, All-filter, All-head, All-nil, All-tail, filter_agree, filter_passes}
use Rattle.std.proofs.lemmas.List.Folds.{Any-from_list_any, list_all_at, list_any_at}
use Rattle.small_texts.specs.Options.{◌>>=◌}
use Rattle.list_lemmas.proofs.Filters.{filter-none}
use Rattle.backfill_planner.specs.declared.job.PlanJob.{PlanJob}
use Rattle.node_state.specs.declared.partition_record.PartRecord.{PartRecord}
use Rattle.node_state.specs.declared.record.NodeRecord.{NodeRecord}
use Rattle.node_state.specs.declared.reservation_record.Reservation.{Reservation}
use Rattle.node_state.specs.Nodes.{is_named}
use Rattle.node_state.specs.Reservations.{has, lasting}
use Rattle.job_table.specs.declared.record.JobRecord.{JobRecord}
use Rattle.job_table.specs.declared.terms.Terms.{Terms}
use Rattle.ctl_state.specs.Ordered.{ordered_by, put}
use Rattle.ctl_state.specs.Planning.{are_there, barred_of, bounds_in, is_at, is_taken_before, is_within, may_run, must_have, node_order, nodes_among, places_for, plan_job, required_first}
use Rattle.ctl_state.specs.State.{State, partition_of}
use Rattle.ctl_waiting.specs.Candidates.{candidates, is_candidate, need_in, needs_of, ranked}
use Rattle.ctl_waiting.specs.Rank.{is_higher}
use Rattle.user_laws.proofs.Lists.{any_kept}
use Rattle.daemon_world.proofs.Lists.{any_weaker}

-- ---- lists in order

put-all : {X : Type 0} (P : X → Type 0) (before : X → X → Bool) (x : X) (ys : List X) → P x → All P ys
    → All P (put before x ys)
put-all P before x [] here all = All-cons P x [] here (All-nil P)
put-all P before x (y ∷ ys) here all =
    cond_both (before y x) (y ∷ put before x ys) (x ∷ y ∷ ys) (All P)
    (λ earlier. All-cons P y (put before x ys) (All-head P y ys all) (put-all P before x ys here (All-tail P y ys all)))
    (λ later. All-cons P x (y ∷ ys) here all)

ordered-all : {X : Type 0} (P : X → Type 0) (before : X → X → Bool) (xs : List X) → All P xs
    → All P (ordered_by before xs)
unfolding ordered_by
ordered-all P before [] all = All-nil P
ordered-all P before (x ∷ xs) all =
    put-all P before x (ordered_by before xs) (All-head P x xs all) (ordered-all P before xs (All-tail P x xs all))

-- ---- what is ranked

-- the need is what this job needs in its partition, beside these reservations
pub record IsNeedOf (nodes : List NodeRecord) (partitions : List PartRecord) (reservations : List Reservation)
    (job : JobRecord) (need : PlanJob) : Type 0 where
  pub partition : PartRecord
  pub of_partition : slice_get partitions job.partition ≡ Some partition
  pub bounds : ℕ × ℕ
  pub bounded : bounds_in partition job.terms ≡ Some bounds
  pub is : need
      ≡ plan_job nodes partition (places_for nodes reservations partition job.terms.reservation)
      (barred_of reservations job.terms.reservation) bounds job

abbrev NeedOf : State → ℕ → JobRecord → PlanJob → Type 0
NeedOf s now job need = IsNeedOf s.nodes s.partitions (lasting now s.reservations) job need

needs-is : (s : State) (now : ℕ) (job : JobRecord) → IfSome (needs_of s now job) (NeedOf s now job)
unfolding needs_of
needs-is s now job = by (partition_of s job) refl
  where
    by_bounds : (partition : PartRecord) (some : Option (ℕ × ℕ)) → partition_of s job ≡ Some partition
        → bounds_in partition job.terms ≡ some
        → IfSome (some >>= λ bounds. Some (need_in s (lasting now s.reservations) partition bounds job))
        (NeedOf s now job)
    by_bounds partition None is bounded = tt
    by_bounds partition (Some bounds) is bounded =
        record { partition = partition; of_partition = is; bounds = bounds; bounded = bounded; is = refl }

    by : (some : Option PartRecord) → partition_of s job ≡ some
        → IfSome (some >>= λ partition. bounds_in partition job.terms >>= λ bounds.
        Some (need_in s (lasting now s.reservations) partition bounds job)) (NeedOf s now job)
    by None is = tt
    by (Some partition) is = by_bounds partition (bounds_in partition job.terms) is refl

need-id : (nodes : List NodeRecord) (partitions : List PartRecord) (reservations : List Reservation) (job : JobRecord)
    (need : PlanJob) → IsNeedOf nodes partitions reservations job need → job.id ≡ need.id
unfolding plan_job
need-id nodes partitions reservations job need is = sym (ap (λ (one : PlanJob). one.id) is.is)

-- it is what one of these jobs needs, whose number it bears
pub record NeededBy (nodes : List NodeRecord) (partitions : List PartRecord) (reservations : List Reservation)
    (need : PlanJob) (job : JobRecord) : Type 0 where
  pub id : job.id ≡ need.id
  pub is : IsNeedOf nodes partitions reservations job need

abbrev pub IsNeeded : State → ℕ → PlanJob → Type 0
IsNeeded s now need = Any (NeededBy s.nodes s.partitions (lasting now s.reservations) need) s.jobs

filter_map-all : {X Y : Type 0} (P : Y → Type 0) (h : X → Option Y) (xs : List X)
    → All (λ (x : X). IfSome (h x) P) xs → All P (filter_map h xs)
filter_map-all P h [] each = All-nil P
filter_map-all {X} {Y} P h (x ∷ xs) each =
    by (h x) (filter_map h xs) (All-head (λ (y : X). IfSome (h y) P) x xs each)
    (filter_map-all P h xs (All-tail (λ (y : X). IfSome (h y) P) x xs each))
  where
    by : (some : Option Y) (rest : List Y) → IfSome some P → All P rest → All P (cons_option some rest)
    by None rest here all = all
    by (Some y) rest here all = All-cons P y rest here all

some-weaker : {X : Type 0} (P Q : X → Type 0) (some : Option X) → ((x : X) → P x → Q x) → IfSome some P → IfSome some Q
some-weaker P Q None on is = tt
some-weaker P Q (Some x) on is = on x is

-- what is ranked is what jobs need
pub ranked_needed : (s : State) (now : ℕ) → All (IsNeeded s now) (ranked s now)
unfolding ranked candidates
ranked_needed s now =
    let P = IsNeeded s now in
    let Needs = λ (job : JobRecord). IfSome (needs_of s now job) P in
    let chosen = filter (is_candidate s now) s.jobs in
    let each : All Needs s.jobs = λ k d below.
    let job = get_or s.jobs k d in
    some-weaker (NeedOf s now job) P (needs_of s now job)
    (λ need is. (
      k,
      job,
      below,
      get_or_default s.jobs k job d below,
      record {
        id = need-id s.nodes s.partitions (lasting now s.reservations) job need is;
        is = is;
      },
    )) (needs-is s now job) in
    filter_map-all P (needs_of s now) (ordered_by (is_higher s now) chosen)
    (ordered-all Needs (is_higher s now) chosen (All-filter (is_candidate s now) Needs s.jobs each))

-- ---- which nodes a job may get

-- the node at the place is of the partition, and of the reservation that the job names; it isn't excluded, and has the
-- features that are wanted
pub record IsPlace (nodes : List NodeRecord) (partition : PartRecord) (reservations : List Reservation) (terms : Terms)
    (place : ℕ) : Type 0 where
  pub among : Contains partition.nodes place
  pub reserved : is_within reservations terms.reservation place ≡ true
  pub suits : is_at (may_run terms) nodes place ≡ true

-- what holds of all of a list, of those kept by a test that pass it
kept-all : {X : Type 0} (P Q : X → Type 0) (test : X → Bool) (xs : List X) → ((x : X) → P x → test x ≡ true → Q x)
    → All P xs → All Q (filter test xs)
kept-all P Q test xs on all = λ k d below.
    on (get_or (filter test xs) k d) (All-filter test P xs all k d below) (filter_passes test xs k d below)

pub need_places : (nodes : List NodeRecord) (partition : PartRecord) (reservations : List Reservation) (terms : Terms)
    → All (IsPlace nodes partition reservations terms)
    (nodes_among nodes terms (places_for nodes reservations partition terms.reservation))
unfolding places_for node_order
need_places nodes partition reservations terms =
    let P = IsPlace nodes partition reservations terms in
    let Among = λ (place : ℕ). Contains partition.nodes place in
    let Within = λ (place : ℕ). Among place × (is_within reservations terms.reservation place ≡ true) in
    let order = node_order nodes partition in
    let places = filter (is_within reservations terms.reservation) order in
    let there : All Within places =
    kept-all Among Within (is_within reservations terms.reservation) order (λ place among is. (among, is))
    (ordered-all Among (is_taken_before nodes) partition.nodes (All-contains_itself partition.nodes)) in
    let some = filter (is_at (may_run terms) nodes) places in
    let may : All P some =
    kept-all Within P (is_at (may_run terms) nodes) places
    (λ place is suits. record { among = is.0; reserved = is.1; suits = suits }) there in
    let must = is_at (must_have terms) nodes in
    cond_both (are_there nodes terms some) (required_first nodes terms some) [] (All P)
    (λ all. All-append P (filter must some) (filter (λ place. not (must place)) some) (All-filter must P some may)
    (All-filter (λ place. not (must place)) P some may))
    (λ lacks. All-nil P)

-- ---- nodes by their names

-- there is a node at the place, which passes
record IsAt (test : NodeRecord → Bool) (nodes : List NodeRecord) (place : ℕ) : Type 0 where
  pub node : NodeRecord
  pub below : place < length nodes
  pub there : get_or nodes place node ≡ node
  pub passes : test node ≡ true

at-node : (test : NodeRecord → Bool) (nodes : List NodeRecord) (place : ℕ) → is_at test nodes place ≡ true
    → IsAt test nodes place
at-node test [] place is = absurd (both_ways false refl is)
at-node test (node ∷ nodes) zero is = record { node = node; below = omega arith; there = refl; passes = is }
at-node test (node ∷ nodes) (suc place) is =
    let rest = at-node test nodes place is in
    record { node = rest.node; below = omega (arith, rest.below); there = rest.there; passes = rest.passes }

at-on : (one other : NodeRecord → Bool) (nodes : List NodeRecord) (place : ℕ)
    → ((node : NodeRecord) → one node ≡ true → other node ≡ true) → is_at one nodes place ≡ true
    → is_at other nodes place ≡ true
at-on one other nodes place on = by (slice_get nodes place)
  where
    by : (some : Option NodeRecord) → unwrap_or (option_map one some) false ≡ true
        → unwrap_or (option_map other some) false ≡ true
    by None is = is
    by (Some node) is = on node is

at-or : (one other : NodeRecord → Bool) (nodes : List NodeRecord) (place : ℕ)
    → is_at (λ node. one node || other node) nodes place ≡ (is_at one nodes place || is_at other nodes place)
at-or one other nodes place = by (slice_get nodes place)
  where
    by : (some : Option NodeRecord) → unwrap_or (option_map (λ node. one node || other node) some) false
        ≡ (unwrap_or (option_map one some) false || unwrap_or (option_map other some) false)
    by None = refl
    by (Some node) = refl

at-never : (nodes : List NodeRecord) (place : ℕ) → is_at (λ (node : NodeRecord). false) nodes place ≡ false
at-never nodes place = by (slice_get nodes place)
  where
    by : (some : Option NodeRecord) → unwrap_or (option_map (λ (node : NodeRecord). false) some) false ≡ false
    by None = refl
    by (Some node) = refl

abbrev AreNamed : List NodeRecord → Type 0
AreNamed nodes = AllPairs (λ (one other : NodeRecord). one.conf.name ≢ other.conf.name) nodes

abbrev AreDistinct : List ℕ → Type 0
AreDistinct places = AllPairs (λ (one other : ℕ). one ≢ other) places

-- no two places have nodes of one name
never-twice : (nodes : List NodeRecord) → AreNamed nodes → (name : List ℕ) (one other : ℕ) → one < other
    → IsAt (is_named name) nodes one → IsAt (is_named name) nodes other → ⊥
never-twice nodes named name one other before first second =
    let name-of = λ (node : NodeRecord). node.conf.name in
    let one-name = (bytes_decides first.node.conf.name name).0 first.passes in
    let other-name = (bytes_decides second.node.conf.name name).0 second.passes in
    let there = get_or_default nodes other first.node second.node second.below ∙ second.there in
    named one other first.node before second.below
    (ap name-of first.there ∙ one-name ∙ sym other-name ∙ sym (ap name-of there))

named-once : (nodes : List NodeRecord) → AreNamed nodes → (name : List ℕ) (one other : ℕ)
    → is_at (is_named name) nodes one ≡ true → is_at (is_named name) nodes other ≡ true → one ≡ other
named-once nodes named name one other is also =
    let first = at-node (is_named name) nodes one is in
    let second = at-node (is_named name) nodes other also in
    elim (cases_order one other) [
      | inl same ↦ same
      | inr differ ↦ elim differ [
        | inl before ↦ absurd (never-twice nodes named name one other before first second)
        | inr behind ↦ absurd (never-twice nodes named name other one behind second first)
      ]
    ]

-- ---- how many pass

one-at-most : (test : ℕ → Bool) (xs : List ℕ) → AreDistinct xs
    → ((x y : ℕ) → test x ≡ true → test y ≡ true → x ≡ y) → length (filter test xs) ≤ 1
one-at-most test [] apart only = omega arith
one-at-most test (x ∷ xs) apart only = elim (cases_Bool (test x)) [
  | inl is ↦
      let none : filter test xs ≡ [] =
      filter-none test xs (λ k d below. false_from_ne_true (test (get_or xs k d))
      (λ also. apart 0 (suc k) d (omega arith) (omega (arith, below)) (only x (get_or xs k d) is also))) in
      rw (is, none) (omega arith)
  | inr out ↦
      rw out
      (one-at-most test xs (λ i j d low high. apart (suc i) (suc j) d (omega (arith, low)) (omega (arith, high))) only)
]

few-or : {X : Type 0} (one other : X → Bool) (xs : List X)
    → length (filter (λ (x : X). one x || other x) xs) ≤ length (filter one xs) + length (filter other xs)
few-or one other [] = omega arith
few-or one other (x ∷ xs) =
    let rest = few-or one other xs in
    elim (cases_Bool (one x)) [
      | inl is ↦ elim (cases_Bool (other x)) [
        | inl also ↦ rw (is, also) (omega (arith, rest))
        | inr out ↦ rw (is, out) (omega (arith, rest))
      ]
      | inr not ↦ elim (cases_Bool (other x)) [
        | inl also ↦ rw (not, also) (omega (arith, rest))
        | inr out ↦ rw (not, out) (omega (arith, rest))
      ]
    ]

-- of places that differ, no more have nodes of these names than there are names
few-named : (nodes : List NodeRecord) → AreNamed nodes → (places : List ℕ) → AreDistinct places
    → (names : List (List ℕ))
    → length (filter (is_at (λ (node : NodeRecord). has names node.conf.name) nodes) places) ≤ length names
few-named nodes named places apart [] =
    let none : filter (is_at (λ (node : NodeRecord). false) nodes) places ≡ [] =
    filter-none (is_at (λ (node : NodeRecord). false) nodes) places (λ k d below. at-never nodes (get_or places k d)) in
    rw none (omega arith)
few-named nodes named places apart (name ∷ names) =
    let Others = λ (node : NodeRecord). has names node.conf.name in
    let both : filter (is_at (λ (node : NodeRecord). has (name ∷ names) node.conf.name) nodes) places
    ≡ filter (λ place. is_at (is_named name) nodes place || is_at Others nodes place) places =
    filter_agree (is_at (λ (node : NodeRecord). has (name ∷ names) node.conf.name) nodes)
    (λ place. is_at (is_named name) nodes place || is_at Others nodes place)
    (λ place. at-or (is_named name) Others nodes place) places in
    rw both (omega (
      arith,
      few-or (is_at (is_named name) nodes) (is_at Others nodes) places,
      one-at-most (is_at (is_named name) nodes) places apart (named-once nodes named name),
      few-named nodes named places apart names,
    ))

filter-twice : (test : ℕ → Bool) (xs : List ℕ) → filter test (filter test xs) ≡ filter test xs
filter-twice test [] = refl
filter-twice test (x ∷ xs) =
    cond_both (test x) (x ∷ filter test xs) (filter test xs) (λ (rest : List ℕ). filter test rest ≡ rest)
    (λ is. rw is (ap (λ (rest : List ℕ). x ∷ rest) (filter-twice test xs))) (λ out. filter-twice test xs)

-- ---- the nodes that a job must have

-- one of so many first places is that of the node with this name
pub record IsFirst (nodes : List NodeRecord) (count : ℕ) (places : List ℕ) (name : List ℕ) : Type 0 where
  pub place : ℕ
  pub first : place < count
  pub named : is_at (is_named name) nodes (slice_index places place) ≡ true

-- where this list has members it has the nodes that the job must have, ahead of all others, and no more of these than
-- the job has named
pub required_are_first : (nodes : List NodeRecord) (terms : Terms) (places : List ℕ) → AreNamed nodes
    → AreDistinct (nodes_among nodes terms places) → 1 ≤ length (nodes_among nodes terms places)
    → All (IsFirst nodes (length terms.required) (nodes_among nodes terms places)) terms.required
required_are_first nodes terms places named =
    let some = filter (is_at (may_run terms) nodes) places in
    let must = is_at (must_have terms) nodes in
    let first = filter must some in
    let others = filter (λ place. not (must place)) some in
    cond_both (are_there nodes terms some) (required_first nodes terms some) []
    (λ (all : List ℕ). AreDistinct all → 1 ≤ length all
    → All (IsFirst nodes (length terms.required) all) terms.required)
    (λ all apart has.
    let apart-first : AreDistinct first = λ i j d low high.
    let long = length-append first others in
    subst (λ (n : ℕ). get_or first i d ≢ n) (get_or_append_left first others d j high)
    (subst (λ (n : ℕ). n ≢ get_or (first ++ others) j d) (get_or_append_left first others d i (omega (arith, low, high)))
    (apart i j d low (omega (arith, high, long)))) in
    let few : length first ≤ length terms.required =
    subst (λ (kept : List ℕ). length kept ≤ length terms.required) (filter-twice must some)
    (few-named nodes named first apart-first terms.required) in
    λ k d below.
    let name = get_or terms.required k d in
    let there : list_any (is_at (is_named name) nodes) some ≡ true =
    true_from_ne_false (list_any (is_at (is_named name) nodes) some)
    (λ lacks. both_ways (are_there nodes terms some)
    (list_all_at (λ name. list_any (is_at (is_named name) nodes) some) terms.required k d below lacks) all) in
    let must-one : (place : ℕ) → is_at (is_named name) nodes place ≡ true → must place ≡ true = λ place is.
    at-on (is_named name) (must_have terms) nodes place
    (λ node same. list_any_at (bytes_eq node.conf.name) terms.required k d below same) is in
    let found = any_kept (λ place. is_at (is_named name) nodes place ≡ true) must some
    (any_weaker (λ place. is_at (is_named name) nodes place ≡ true)
    (λ place. (is_at (is_named name) nodes place ≡ true) × (must place ≡ true)) some
    (λ place is. (is, must-one place is)) (Any-from_list_any (is_at (is_named name) nodes) some there)) in
    record {
      place = found.0;
      first = omega (arith, found.2, few);
      named = subst (λ place. is_at (is_named name) nodes place ≡ true)
          (sym (get_or_append_left first others 0 found.0 found.2
          ∙ get_or_default first found.0 0 found.1 found.2 ∙ found.3)) found.4;
    })
    (λ lacks apart has. absurd (omega (arith, has)))
