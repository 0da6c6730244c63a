-- The nodes that a job may take: in what order, that they are nodes that there are, and each once.
use Rattle.std.proofs.Common.{◌≡◌, ◌≢◌, ℕ, ◌<◌, Bool, true, false, not, ◌&&◌, List, [], ◌∷◌, length, filter, get_or, slice_get, All, AllPairs, Option, Some, None, option_map, unwrap_or, refl, sym, ap, ◌∙◌, arith, Bor, Ordering}
use Rattle.std.specs.Cmp.{IsStrictWeakOrder}
use Rattle.std.specs.Fn.{ComputesKey, Mut}
use Rattle.std.specs.List.Sorted.{IsSortedBy, IsSortedByKeyClosure, IsStableByKeyClosure, ties}
use Rattle.std.specs.Ordering.{is_lt, nat_cmp, ordering_then}
use Rattle.std.proofs.lemmas.Bool.{both_ways, cond_both, not-true}
use Rattle.std.proofs.lemmas.Bool.Decides.{nat_tests}
use Rattle.std.proofs.lemmas.List.Elements.{All-append, All-filter, All-head, All-nil, All-tail, filter_agree, filter_passes}
use Rattle.std.proofs.lemmas.List.Kept.{AllPairs-filter}
use Rattle.std.proofs.lemmas.List.Sorted.{All-permutation}
use Rattle.std.proofs.lemmas.Option.{slice_get-get_or}
use Rattle.job_table.specs.declared.terms.Terms.{Terms}
use Rattle.node_state.specs.declared.record.NodeRecord.{NodeRecord}
use Rattle.node_state.specs.declared.partition_record.PartRecord.{PartRecord}
use Rattle.node_state.specs.Partitions.{IsOnNodes}
use Rattle.node_state.specs.declared.reservation_record.Reservation.{Reservation}
use Rattle.ctl_state.specs.Planning.{are_there, is_at, is_taken_before, is_within, may_run, must_have, node_order, nodes_among, places_for, required_first, weight_at}
use Rattle.ctl_state.proofs.Ordering.{ordered-moves, ordered-pairs, sorted-is_ordered}
use Rattle.list_lemmas.proofs.Pairs.{pairs-append}

-- nodes are taken by weight, then by place
abbrev pub key_of : List NodeRecord → ℕ → ℕ × ℕ
key_of nodes place = (weight_at nodes place, place)

abbrev by_both : ℕ × ℕ → ℕ × ℕ → Ordering
by_both one other = ordering_then (nat_cmp one.0 other.0) (nat_cmp one.1 other.1)

by-key : (nodes : List NodeRecord) (one other : ℕ) → is_taken_before nodes one other ≡ is_lt (by_both (key_of nodes one) (key_of nodes other))
by-key nodes one other = grind (arith, nat_tests)

weak : (nodes : List NodeRecord) → IsStrictWeakOrder (is_taken_before nodes)
weak nodes = record { one_way = λ x y less. grind (arith, nat_tests); chain = λ x y z low high. grind (arith, nat_tests) }

pub sorted-node_order : {F : Type 0} {g : Mut F (Bor ℕ × Unit {0}) (ℕ × ℕ)} {f : F} (nodes : List NodeRecord) (partition : PartRecord) (order : List ℕ)
    → ComputesKey g (key_of nodes) f → IsSortedByKeyClosure g by_both f order → IsStableByKeyClosure g by_both f partition.nodes order
    → order ≡ node_order nodes partition
unfolding node_order
sorted-node_order nodes partition order computes sorted stable =
    let before = is_taken_before nodes in
    let lower : ℕ → ℕ → Bool = λ one other. is_lt (by_both (key_of nodes one) (key_of nodes other)) in
    let by : (x y : ℕ) → ties before x y ≡ ties lower x y = λ x y.
    ap (λ b. not b && not (before y x)) (by-key nodes x y) ∙ ap (λ b. not (lower x y) && not b) (by-key nodes y x) in
    sorted-is_ordered before (weak nodes) partition.nodes order (λ k d low below. by-key nodes _ _ ∙ sorted (key_of nodes) computes k d low below)
    (λ x. filter_agree _ _ (by x) order ∙ stable (key_of nodes) computes x ∙ sym (filter_agree (ties before x) (ties lower x) (by x) partition.nodes))

-- where they stand in that order they stay as they stand
pub standing-node_order : (nodes : List NodeRecord) (partition : PartRecord) → IsSortedBy (is_taken_before nodes) partition.nodes → partition.nodes ≡ node_order nodes partition
unfolding node_order
standing-node_order nodes partition sorted = sorted-is_ordered (is_taken_before nodes) (weak nodes) partition.nodes partition.nodes sorted (λ x. refl)

-- they are the partition's nodes
pub order-there : (nodes : List NodeRecord) (partition : PartRecord) → IsOnNodes (length nodes) partition
    → All (λ place. place < length nodes) (node_order nodes partition)
unfolding node_order
order-there nodes partition on = All-permutation (λ place. place < length nodes) _ _ (ordered-moves (is_taken_before nodes) partition.nodes) on.there

pub order-once : (nodes : List NodeRecord) (partition : PartRecord) → IsOnNodes (length nodes) partition → AllPairs (λ one other. one ≢ other) (node_order nodes partition)
unfolding node_order
order-once nodes partition on = ordered-pairs (is_taken_before nodes) (λ one other. one ≢ other) (λ one other differ same. differ (sym same)) partition.nodes on.once

-- a job that says nothing of its nodes takes them as they stand
runs-anywhere : (terms : Terms) (node : NodeRecord) → terms.excluded ≡ [] → terms.features ≡ None → may_run terms node ≡ true
runs-anywhere terms node none any = rw (none, any) refl

must-nowhere : (nodes : List NodeRecord) (terms : Terms) (place : ℕ) → terms.required ≡ [] → is_at (must_have terms) nodes place ≡ false
must-nowhere nodes terms place none =
    elim (slice_get nodes place) as (λ node. unwrap_or (option_map (must_have terms) node) false ≡ false) [ None ↦ refl | Some node ↦ rw none refl ]

at-place : (test : NodeRecord → Bool) (nodes : List NodeRecord) (place : ℕ) → ((node : NodeRecord) → test node ≡ true) → place < length nodes
    → is_at test nodes place ≡ true
at-place test [] place passes below = absurd (omega (arith, below))
at-place test (node ∷ nodes) place passes below =
    rw (slice_get-get_or (node ∷ nodes) place node below) (passes (get_or (node ∷ nodes) place node))

filter-passing : (p : ℕ → Bool) (xs : List ℕ) → All (λ x. p x ≡ true) xs → filter p xs ≡ xs
filter-passing p [] all = refl
filter-passing p (x ∷ xs) all = rw (All-head (λ y. p y ≡ true) x xs all) (ap (λ l. x ∷ l) (filter-passing p xs (All-tail (λ y. p y ≡ true) x xs all)))

filter-none : (xs : List ℕ) → filter (λ x. false) xs ≡ []
filter-none [] = refl
filter-none (x ∷ xs) = filter-none xs

first-none : (nodes : List NodeRecord) (terms : Terms) (places : List ℕ) → terms.required ≡ [] → required_first nodes terms places ≡ places
first-none nodes terms places none =
    let must = is_at (must_have terms) nodes in
    let first : filter must places ≡ [] = filter_agree must (λ place. false) (λ place. must-nowhere nodes terms place none) places ∙ filter-none places in
    rw first (filter-passing (λ place. not (must place)) places (λ k d below. rw (must-nowhere nodes terms (get_or places k d) none) refl))

pub any-among : (nodes : List NodeRecord) (terms : Terms) (order : List ℕ)
    → (terms.required ≡ []) × (terms.excluded ≡ []) × (terms.features ≡ None)
    → All (λ place. place < length nodes) order → nodes_among nodes terms order ≡ order
any-among nodes terms order says there =
    let may = is_at (may_run terms) nodes in
    let all : filter may order ≡ order =
    filter-passing may order (λ k d below. at-place (may_run terms) nodes _ (λ node. runs-anywhere terms node says.1 says.2) (there k d below)) in
    let known : are_there nodes terms (filter may order) ≡ true = rw says.0 refl in
    rw (known, all) (first-none nodes terms order says.0)

-- those that a job may get are nodes that there are, each once
pub among-there : (nodes : List NodeRecord) (terms : Terms) (order : List ℕ) → All (λ place. place < length nodes) order
    → All (λ place. place < length nodes) (nodes_among nodes terms order)
among-there nodes terms order within =
    let there : ℕ → Type 0 = λ place. place < length nodes in
    let must : ℕ → Bool = is_at (must_have terms) nodes in
    let rest : ℕ → Bool = λ place. not (must place) in
    let places = filter (is_at (may_run terms) nodes) order in
    let all = All-filter (is_at (may_run terms) nodes) there order within in
    cond_both (are_there nodes terms places) (required_first nodes terms places) [] (All there)
    (λ known. All-append there (filter must places) (filter rest places) (All-filter must there places all) (All-filter rest there places all))
    (λ unknown. All-nil there)

-- those of the places at which it may run, the required ones first
pub first-once : (nodes : List NodeRecord) (terms : Terms) (order : List ℕ) → AllPairs (λ one other. one ≢ other) order
    → AllPairs (λ one other. one ≢ other) (required_first nodes terms (filter (is_at (may_run terms) nodes) order))
first-once nodes terms order differs =
    let differ : ℕ → ℕ → Type 0 = λ one other. one ≢ other in
    let must : ℕ → Bool = is_at (must_have terms) nodes in
    let rest : ℕ → Bool = λ place. not (must place) in
    let places = filter (is_at (may_run terms) nodes) order in
    let once = AllPairs-filter differ (is_at (may_run terms) nodes) order differs in
    pairs-append differ (filter must places) (filter rest places) (AllPairs-filter differ must places once) (AllPairs-filter differ rest places once)
    (λ k d below j e within same. both_ways (must (get_or (filter must places) k d)) (ap must same ∙ not-true _ (filter_passes rest places j e within))
    (filter_passes must places k d below))

pub among-once : (nodes : List NodeRecord) (terms : Terms) (order : List ℕ) → AllPairs (λ one other. one ≢ other) order
    → AllPairs (λ one other. one ≢ other) (nodes_among nodes terms order)
among-once nodes terms order differs =
    let places = filter (is_at (may_run terms) nodes) order in
    cond_both (are_there nodes terms places) (required_first nodes terms places) [] (AllPairs (λ one other. one ≢ other))
    (λ known. first-once nodes terms order differs)
    (λ unknown i j d before below. absurd (omega (arith, below)))

-- those left of a partition's nodes by reservations
pub places-there : (nodes : List NodeRecord) (reservations : List Reservation) (partition : PartRecord) (name : Option (List ℕ))
    → IsOnNodes (length nodes) partition → All (λ place. place < length nodes) (places_for nodes reservations partition name)
unfolding places_for
places-there nodes reservations partition name on =
    All-filter (is_within reservations name) (λ place. place < length nodes) (node_order nodes partition) (order-there nodes partition on)

pub places-once : (nodes : List NodeRecord) (reservations : List Reservation) (partition : PartRecord) (name : Option (List ℕ))
    → IsOnNodes (length nodes) partition → AllPairs (λ one other. one ≢ other) (places_for nodes reservations partition name)
unfolding places_for
places-once nodes reservations partition name on =
    AllPairs-filter (λ one other. one ≢ other) (is_within reservations name) (node_order nodes partition) (order-once nodes partition on)
