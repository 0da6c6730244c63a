-- Places by names alone: nodes of the same names are found at the same places.
use Rattle.std.proofs.Common.{ℕ, ◌≡◌, ◌≢◌, ◌∙◌, ◌+◌, ◌<◌, Bool, true, false, ◌&&◌, ◌||◌, if◌then◌else◌, List, [], ◌∷◌, get_or, map, filter, length, All, Option, Some, None, bytes_eq, nat_eq, slice_get, refl, ap, sym, subst, arith, inl, inr}
use Rattle.std.specs.Prelude.{is_some, option_map, slice_index_or, unwrap_or}
use Rattle.std.specs.List.{cons_option, list_all, list_any, position, range_with_len}
use Rattle.std.proofs.lemmas.Bool.{and_parts, both_ways, cases_Bool, false_from_ne_true, or_cases}
use Rattle.std.proofs.lemmas.List.{length-map}
use Rattle.std.proofs.lemmas.List.Elements.{All-cons, All-nil}
use Rattle.std.proofs.lemmas.List.Quantifiers.{position-Some}
use Rattle.std.proofs.lemmas.Option.{slice_get-get_or, slice_get-map, get_or_from_slice_get}
use Rattle.std.proofs.lemmas.Slice.Eq.{bytes_eq-Decides}
use Rattle.list_lemmas.proofs.Numbers.{same-test}
use Rattle.plain_data.specs.Rows.{has_id}
use Rattle.node_state.specs.Moving.{row_moved, was_in}
use Rattle.node_state.specs.Nodes.{is_named, place_named}
use Rattle.node_state.specs.Partitions.{places_of}
use Rattle.node_state.specs.Reservations.{has}
use Rattle.node_state.specs.declared.record.NodeRecord.{NodeRecord}
use Rattle.ctl_nodes.specs.Reserving.{places_among}
use Rattle.ctl_nodes.specs.Updating.{is_among}
use Rattle.ctl_reconfigure.specs.Names.{node_names}
use Rattle.ctl_state.specs.Planning.{is_at}
use Rattle.saved_laws.proofs.Named.{own_name}
use Rattle.saved_laws.proofs.Positions.{position-first, position_map, there}
use Rattle.saved_laws.proofs.ReservationsBack.{agreeing, kept-there}
use Rattle.ctl_reconfigure.proofs.NameLists.{bytes-same as same_name}

-- ---- tests that agree

pub turned : (one other : List ℕ) → bytes_eq one other ≡ bytes_eq other one
turned one other = elim (cases_Bool (bytes_eq one other)) [
  | inl is ↦ is ∙ sym ((bytes_eq-Decides other one).1 (sym (same_name one other is)))
  | inr differ ↦
      differ ∙ sym (false_from_ne_true (bytes_eq other one) (λ same.
      both_ways (bytes_eq one other) differ ((bytes_eq-Decides one other).1 (sym (same_name other one same)))))
]

any-alike : {X : Type 0} (p q : X → Bool) (xs : List X) → ((x : X) → p x ≡ q x) → list_any p xs ≡ list_any q xs
any-alike p q [] alike = refl
any-alike p q (x ∷ xs) alike =
    ap (λ (is : Bool). is || list_any p xs) (alike x) ∙ ap (λ (is : Bool). q x || is) (any-alike p q xs alike)

all-alike : {X : Type 0} (p q : X → Bool) (xs : List X) → ((x : X) → p x ≡ q x) → list_all p xs ≡ list_all q xs
all-alike p q [] alike = refl
all-alike p q (x ∷ xs) alike =
    ap (λ (is : Bool). is && list_all p xs) (alike x) ∙ ap (λ (is : Bool). q x && is) (all-alike p q xs alike)

position-alike : {X : Type 0} (p q : X → Bool) (xs : List X) → ((x : X) → p x ≡ q x) → position p xs ≡ position q xs
position-alike p q [] alike = refl
position-alike p q (x ∷ xs) alike =
    position-first p x xs
    ∙ ap (λ (is : Bool). if is then Some 0 else option_map (λ k. 1 + k) (position p xs)) (alike x)
    ∙ ap (λ found. if q x then Some 0 else option_map (λ k. 1 + k) found) (position-alike p q xs alike)
    ∙ sym (position-first q x xs)

-- ---- what is found, and what isn't

position-none : {X : Type 0} (p : X → Bool) (xs : List X) → list_any p xs ≡ false → position p xs ≡ None
position-none p [] none = refl
position-none p (x ∷ xs) none = elim (cases_Bool (p x)) [
  | inl is ↦ absurd (let some = rw is at none in cc)
  | inr not ↦
      let later = rw not at none in
      position-first p x xs ∙ ap (λ (is : Bool). if is then Some 0 else option_map (λ k. 1 + k) (position p xs)) not
      ∙ ap (option_map (λ k. 1 + k)) (position-none p xs later)
]

position-some : {X : Type 0} (p : X → Bool) (xs : List X) → list_any p xs ≡ true → is_some (position p xs) ≡ true
position-some p [] some = absurd (cc)
position-some p (x ∷ xs) some = elim (cases_Bool (p x)) [
  | inl is ↦
      ap is_some (position-first p x xs
      ∙ ap (λ (is : Bool). if is then Some 0 else option_map (λ k. 1 + k) (position p xs)) is)
  | inr not ↦
      let later = rw not at some in
      ap is_some (position-first p x xs
      ∙ ap (λ (is : Bool). if is then Some 0 else option_map (λ k. 1 + k) (position p xs)) not)
      ∙ one-more (position p xs) (position-some p xs later)
]
  where
    one-more : (found : Option ℕ) → is_some found ≡ true → is_some (option_map (λ k. 1 + k) found) ≡ true
    one-more None some = absurd (cc)
    one-more (Some k) some = refl

-- a name that leads nowhere is no node's
pub none_named : (name : List ℕ) (nodes : List NodeRecord) → place_named name nodes ≡ None
    → All (λ (node : NodeRecord). name ≢ node.conf.name) nodes
none_named name [] none = All-nil (λ (node : NodeRecord). name ≢ node.conf.name)
none_named name (node ∷ nodes) none = elim (cases_Bool (is_named name node)) [
  | inl is ↦
      absurd (let found = sym (position-first (is_named name) node nodes
      ∙ ap (λ (is : Bool). if is then Some 0 else option_map (λ k. 1 + k) (position (is_named name) nodes)) is) ∙ none in cc)
  | inr not ↦
      let later : option_map (λ k. 1 + k) (position (is_named name) nodes) ≡ None = sym (position-first (is_named name) node nodes
      ∙ ap (λ (is : Bool). if is then Some 0 else option_map (λ k. 1 + k) (position (is_named name) nodes)) not) ∙ none in
      All-cons (λ (node : NodeRecord). name ≢ node.conf.name) node nodes
      (λ same. both_ways (bytes_eq node.conf.name name) not
      (subst (λ (other : List ℕ). bytes_eq node.conf.name other ≡ true) (sym same) (own_name node.conf.name)))
      (none_named name nodes (no-more (position (is_named name) nodes) later))
]
  where
    no-more : (found : Option ℕ) → option_map (λ k. 1 + k) found ≡ None → found ≡ None
    no-more None none = refl
    no-more (Some k) none = absurd (cc)

-- ---- nodes by their names

by-names : (name : List ℕ) (nodes : List NodeRecord)
    → place_named name nodes ≡ position (λ one. bytes_eq one name) (node_names nodes)
by-names name nodes =
    sym (position_map (λ one. bytes_eq one name) (λ (node : NodeRecord). node.conf.name) nodes)

pub same_named : (name : List ℕ) (one other : List NodeRecord) → node_names one ≡ node_names other
    → place_named name one ≡ place_named name other
same_named name one other same =
    by-names name one ∙ ap (position (λ one. bytes_eq one name)) same ∙ sym (by-names name other)

pub place_by_names : (name : List ℕ) (nodes : List NodeRecord)
    → position (bytes_eq name) (node_names nodes) ≡ place_named name nodes
place_by_names name nodes =
    position-alike (bytes_eq name) (λ one. bytes_eq one name) (node_names nodes) (turned name) ∙ sym (by-names name nodes)

pub not_named : (name : List ℕ) (names : List (List ℕ)) (nodes : List NodeRecord) → node_names nodes ≡ names
    → has names name ≡ false → place_named name nodes ≡ None
not_named name names nodes are not =
    sym (place_by_names name nodes)
    ∙ position-none (bytes_eq name) (node_names nodes) (ap (λ names. has names name) are ∙ not)

pub is_there : (name : List ℕ) (names : List (List ℕ)) (nodes : List NodeRecord) → node_names nodes ≡ names
    → has names name ≡ true → is_some (place_named name nodes) ≡ true
is_there name names nodes are is =
    ap is_some (sym (place_by_names name nodes))
    ∙ position-some (bytes_eq name) (node_names nodes) (ap (λ names. has names name) are ∙ is)

-- the nodes of a partition
pub same_places_of : (one other : List NodeRecord) → node_names one ≡ node_names other → (names : List (List ℕ))
    → places_of one names ≡ places_of other names
same_places_of one other same [] = refl
same_places_of one other same (name ∷ names) =
    ap (λ found. cons_option found (places_of one names)) (same_named name one other same)
    ∙ ap (cons_option (place_named name other)) (same_places_of one other same names)

-- ---- rows of places

-- the places at which these names stand
abbrev pub among : List (List ℕ) → List (List ℕ) → List ℕ
among names all =
    filter (λ k. unwrap_or (option_map (has names) (slice_get all k)) false) (range_with_len 0 (length all))

at-name : (names : List (List ℕ)) (nodes : List NodeRecord) (k : ℕ)
    → is_at (is_among names) nodes k ≡ unwrap_or (option_map (has names) (slice_get (node_names nodes) k)) false
at-name names nodes k =
    by (slice_get nodes k)
    ∙ ap (λ found. unwrap_or (option_map (has names) found) false)
    (sym (slice_get-map (λ (node : NodeRecord). node.conf.name) nodes k))
  where
    by : (found : Option NodeRecord) → unwrap_or (option_map (is_among names) found) false
        ≡ unwrap_or (option_map (has names) (option_map (λ (node : NodeRecord). node.conf.name) found)) false
    by None = refl
    by (Some node) = refl

pub among_names : (names : List (List ℕ)) (nodes : List NodeRecord)
    → places_among nodes names ≡ among names (node_names nodes)
among_names names nodes =
    agreeing (is_at (is_among names) nodes)
    (λ k. unwrap_or (option_map (has names) (slice_get (node_names nodes) k)) false) 0 (length nodes)
    (λ k above below. at-name names nodes k)
    ∙ ap (λ count. filter (λ k. unwrap_or (option_map (has names) (slice_get (node_names nodes) k)) false)
    (range_with_len 0 count)) (sym (length-map nodes (λ (node : NodeRecord). node.conf.name)))

pub all_there : (names : List (List ℕ)) (one other : List NodeRecord) → node_names one ≡ node_names other
    → list_all (λ name. is_some (place_named name one)) names ≡ list_all (λ name. is_some (place_named name other)) names
all_there names one other same =
    all-alike (λ name. is_some (place_named name one)) (λ name. is_some (place_named name other)) names
    (λ name. ap is_some (same_named name one other same))

-- the row has just those that are kept
pub has_kept : (test : ℕ → Bool) (count k : ℕ) → k < count → has_id (filter test (range_with_len 0 count)) k ≡ test k
has_kept test count k below =
    any-alike (λ id. nat_eq id k) (nat_eq k) (filter test (range_with_len 0 count)) (λ id. same-test id k)
    ∙ kept-there test k 0 count (omega arith) (omega (arith, below))

-- what is true of all of some names is true of each
pub of_each : (test : List ℕ → Bool) (names : List (List ℕ)) (name : List ℕ) → list_all test names ≡ true
    → has names name ≡ true → test name ≡ true
of_each test [] name all is = absurd (cc)
of_each test (one ∷ names) name all is =
    let both = and_parts (test one) (list_all test names) all in
    elim (or_cases (bytes_eq name one) (has names name) is) [
      | inl here ↦ subst (λ name. test name ≡ true) (sym (same_name name one here)) both.0
      | inr later ↦ of_each test names name both.1 later
    ]

-- the name stands at a place, and that is in the row if it is one of the names of the row
pub origin_row : (names : List (List ℕ)) (old : List NodeRecord) (row : List ℕ) (name : List ℕ)
    → row ≡ among names (node_names old) → list_all (λ name. is_some (place_named name old)) names ≡ true
    → was_in row (position (bytes_eq name) (node_names old)) ≡ has names name
origin_row names old row name are known = by (position (bytes_eq name) (node_names old)) refl
  where
    all : List (List ℕ)
    all = node_names old

    by : (found : Option ℕ) → position (bytes_eq name) all ≡ found → was_in row found ≡ has names name
    by None none =
        sym (false_from_ne_true (has names name) (λ is.
        let there = of_each (λ name. is_some (place_named name old)) names name known is in
        let nowhere = ap is_some (sym (place_by_names name old) ∙ none) in
        both_ways (is_some (place_named name old)) nowhere there))
    by (Some q) found =
        let is = position-Some (bytes_eq name) all q name found in
        let same = same_name name (get_or all q name) is.1 in
        ap (λ row. has_id row q) are
        ∙ has_kept (λ k. unwrap_or (option_map (has names) (slice_get all k)) false) (length all) q is.0
        ∙ ap (λ found. unwrap_or (option_map (has names) found) false) (slice_get-get_or all q name is.0)
        ∙ ap (has names) (sym same)

-- the row that is moved is that of the same names
pub moved_row : (names : List (List ℕ)) (old : List NodeRecord) (row : List ℕ) (new : List (List ℕ))
    → row ≡ among names (node_names old) → list_all (λ name. is_some (place_named name old)) names ≡ true
    → row_moved (map (λ name. position (bytes_eq name) (node_names old)) new) row ≡ among names new
moved_row names old row new are known =
    let origins = map (λ name. position (bytes_eq name) (node_names old)) new in
    ap (λ count. filter (λ place. was_in row (slice_index_or origins place None)) (range_with_len 0 count))
    (length-map new (λ name. position (bytes_eq name) (node_names old)))
    ∙ agreeing (λ place. was_in row (slice_index_or origins place None))
    (λ k. unwrap_or (option_map (has names) (slice_get new k)) false) 0 (length new)
    (λ k above below.
    let at = there new k (omega (arith, below)) in
    let origin : slice_index_or origins k None ≡ position (bytes_eq at.0) (node_names old) =
    get_or_from_slice_get origins k (position (bytes_eq at.0) (node_names old)) None
    (slice_get-map (λ name. position (bytes_eq name) (node_names old)) new k
    ∙ ap (option_map (λ name. position (bytes_eq name) (node_names old))) at.1) in
    ap (was_in row) origin ∙ origin_row names old row at.0 are known
    ∙ ap (λ found. unwrap_or (option_map (has names) found) false) (sym at.1))
