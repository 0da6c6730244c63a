-- The nodes with some names: where they are, name by name, and how they change, place by place.
use Rattle.std.proofs.Common.{ℕ, zero, suc, ◌≡◌, ◌+◌, ◌<◌, Bool, true, false, ◌&&◌, ◌||◌, List, [], ◌∷◌, length, take, drop, get_or, HoldsAt, bytes_eq, Option, Some, None, refl, sym, ap, ◌∙◌, arith, inl, inr}
use Rattle.std.specs.Prelude.{nat_eq}
use Rattle.std.specs.List.{list_any, slice_get}
use Rattle.std.specs.Option.{option_map, unwrap_or}
use Rattle.std.proofs.lemmas.Bool.{and_from, both_ways, cases_Bool, cond-false, cond-true, eq-eqb, ne_eqb}
use Rattle.std.proofs.lemmas.List.{at_drop_more}
use Rattle.std.proofs.lemmas.List.Folds.{list_any_at, list_any_more}
use Rattle.std.proofs.lemmas.Option.{get_or_from_slice_get, slice_get_within}
use Rattle.std.proofs.lemmas.Slice.Eq.{bytes_eq-Decides}
use Rattle.request_data.specs.declared.request.NodeOrder.{NodeOrder}
use Rattle.node_state.specs.declared.record.NodeRecord.{NodeRecord}
use Rattle.node_state.specs.declared.record.NodeChange.{NodeChange}
use Rattle.node_state.specs.Laws.{NamesLeadToPlaces, PlacesAreNamed}
use Rattle.node_state.specs.Nodes.{AreNamedOnce, change_at, changed, place_named}
use Rattle.job_table.specs.Walks.{NothingAtPlace, SameAtPlace, WalkGoesOn, WalkKeepsRest, walked}
use Rattle.ctl_state.specs.Planning.{is_at}
use Rattle.ctl_nodes.specs.Changing.{changed_where}
use Rattle.ctl_nodes.specs.Updating.{alters, is_among}
use Rattle.ctl_nodes.proofs.Walked.{node_at, unwalked_at}

-- a name leads to this place
abbrev pub leads_to : Option ℕ → ℕ → Bool
leads_to None place = false
leads_to (Some at) place = nat_eq at place

pub or_false : (b : Bool) → b ≡ (b || false)
or_false true = refl
or_false false = refl

-- the node at a place has a name exactly where the name leads there
has-name : NamesLeadToPlaces → PlacesAreNamed → (name : List ℕ) (nodes : List NodeRecord) (place : ℕ)
    (node : NodeRecord) (found : Option ℕ)
    → AreNamedOnce nodes → slice_get nodes place ≡ Some node → place_named name nodes ≡ found
    → bytes_eq node.conf.name name ≡ leads_to found place
has-name there named name nodes place node found once is leads =
    let read : (d : NodeRecord) → get_or nodes place d ≡ node = λ d. get_or_from_slice_get nodes place node d is in
    elim (cases_Bool (bytes_eq node.conf.name name)) [
      | inl same ↦
          let own : place_named node.conf.name nodes ≡ Some place =
          rw (read node) at (there place nodes once (slice_get_within nodes place node is) node) in
          let here : found ≡ Some place =
          sym leads ∙ ap (λ name. place_named name nodes) (sym ((bytes_eq-Decides node.conf.name name).0 same)) ∙ own in
          same ∙ sym (ap (λ found. leads_to found place) here ∙ eq-eqb place place refl)
      | inr other ↦ other ∙ sym (elsewhere found leads other)
    ] where
      elsewhere : (found : Option ℕ) → place_named name nodes ≡ found → bytes_eq node.conf.name name ≡ false
          → leads_to found place ≡ false
      elsewhere None leads other = refl
      elsewhere (Some at) leads other = ne_eqb at place (λ same.
          let has : (get_or nodes at node).conf.name ≡ name = (named name at nodes leads).1 node in
          let own : node.conf.name ≡ name =
          ap (λ (one : NodeRecord). one.conf.name) (sym (get_or_from_slice_get nodes place node node is))
          ∙ ap (λ place. (get_or nodes place node).conf.name) (sym same) ∙ has in
          both_ways (bytes_eq node.conf.name name) other ((bytes_eq-Decides node.conf.name name).1 own))

not-past : {X : Type 0} (xs : List X) (place : ℕ) → slice_get xs place ≡ None → place < length xs → ⊥
not-past [] place is below = omega (arith, below)
not-past (x ∷ xs) zero is below = let never = is in cc
not-past (x ∷ xs) (suc place) is below = not-past xs place is (omega (arith, below))

-- one name more
more-at : NamesLeadToPlaces → PlacesAreNamed → (names : List (List ℕ)) (k : ℕ) (name : List ℕ)
    (nodes : List NodeRecord) (place : ℕ) (found : Option ℕ) (got : Option NodeRecord)
    → AreNamedOnce nodes → k < length names → name ≡ get_or names k name → place_named name nodes ≡ found
    → slice_get nodes place ≡ got
    → unwrap_or (option_map (is_among (take (k + 1) names)) got) false
    ≡ (unwrap_or (option_map (is_among (take k names)) got) false || leads_to found place)
more-at there named names k name nodes place None None once below read leads is = refl
more-at there named names k name nodes place (Some at) None once below read leads is =
    sym (ne_eqb at place (λ same. not-past nodes place is (omega (arith, same, (named name at nodes leads).0))))
more-at there named names k name nodes place found (Some node) once below read leads is =
    list_any_more (bytes_eq node.conf.name) names k name below
    ∙ ap (λ name. list_any (bytes_eq node.conf.name) (take k names) || bytes_eq node.conf.name name) (sym read)
    ∙ ap (λ has. list_any (bytes_eq node.conf.name) (take k names) || has)
    (has-name there named name nodes place node found once is leads)

pub one_more_name : NamesLeadToPlaces → PlacesAreNamed → (names : List (List ℕ)) (k : ℕ) (name : List ℕ)
    (nodes : List NodeRecord) (place : ℕ) (found : Option ℕ)
    → AreNamedOnce nodes → k < length names → name ≡ get_or names k name → place_named name nodes ≡ found
    → is_at (is_among (take (k + 1) names)) nodes place
    ≡ (is_at (is_among (take k names)) nodes place || leads_to found place)
one_more_name there named names k name nodes place found once below read leads =
    more-at there named names k name nodes place found (slice_get nodes place) once below read leads refl

-- before the first name, none is named
none-named : (got : Option NodeRecord) → unwrap_or (option_map (is_among []) got) false ≡ false
none-named None = refl
none-named (Some node) = refl

pub no_name : (nodes : List NodeRecord) (place : ℕ) → is_at (is_among []) nodes place ≡ false
no_name nodes place = none-named (slice_get nodes place)

-- what a test says of the node at a place
pub test_at : (test : NodeRecord → Bool) (nodes : List NodeRecord) (place : ℕ) (b : Bool) → place < length nodes
    → is_at test nodes place ≡ b → HoldsAt (λ node. test node ≡ b) nodes place
test_at test [] place b below is d = absurd (omega (arith, below))
test_at test (node ∷ nodes) zero b below is d = is
test_at test (node ∷ nodes) (suc place) b below is d = test_at test nodes place b (omega (arith, below)) is d

-- a step of the walk over the nodes
pub changed_there : SameAtPlace NodeRecord → WalkGoesOn NodeRecord → WalkKeepsRest NodeRecord → (change : NodeChange)
    (test : NodeRecord → Bool) (place : ℕ) (nodes before : List NodeRecord)
    → before ≡ walked (changed_where change test) place nodes → place < length nodes
    → is_at test nodes place ≡ true
    → change_at place change before ≡ walked (changed_where change test) (place + 1) nodes
changed_there same goes_on rest change test place nodes before is below has =
    let f : NodeRecord → NodeRecord = changed_where change test in
    let w = walked f place nodes in
    let there = unwalked_at rest (λ node. test node ≡ true) f place nodes below
    (test_at test nodes place true below has) in
    ap (change_at place change) is ∙ node_at place change w
    ∙ same (changed change) f place w
    (λ d. sym (cond-true (test (get_or w place d)) (changed change (get_or w place d)) (get_or w place d) (there d)))
    ∙ goes_on f place nodes below

pub others_there : NothingAtPlace NodeRecord → WalkGoesOn NodeRecord → WalkKeepsRest NodeRecord → (change : NodeChange)
    (test : NodeRecord → Bool) (place : ℕ) (nodes before : List NodeRecord)
    → before ≡ walked (changed_where change test) place nodes → place < length nodes
    → is_at test nodes place ≡ false
    → before ≡ walked (changed_where change test) (place + 1) nodes
others_there nothing goes_on rest change test place nodes before is below has =
    let f : NodeRecord → NodeRecord = changed_where change test in
    let w = walked f place nodes in
    let there = unwalked_at rest (λ node. test node ≡ false) f place nodes below
    (test_at test nodes place false below has) in
    is ∙ sym (nothing f place w
    (λ d. cond-false (test (get_or w place d)) (changed change (get_or w place d)) (get_or w place d) (there d)))
    ∙ goes_on f place nodes below

-- a node that the order names and makes another one of, or doesn't
abbrev turns : NodeOrder → List (List ℕ) → NodeRecord → Bool
turns state names node = is_among names node && alters state node

read-at : (nodes : List NodeRecord) (place : ℕ) (node : NodeRecord) (test : NodeRecord → Bool) (b : Bool)
    → place < length nodes → node ≡ get_or nodes place node → is_at test nodes place ≡ b → test node ≡ b
read-at nodes place node test b below read is =
    ap test read ∙ test_at test nodes place b below is node

pub turned_there : (state : NodeOrder) (names : List (List ℕ)) (nodes : List NodeRecord) (place : ℕ)
    (node : NodeRecord) → place < length nodes → node ≡ get_or nodes place node
    → is_at (is_among names) nodes place ≡ true → alters state node ≡ true
    → list_any (turns state names) nodes ≡ true
turned_there state names nodes place node below read named altered =
    list_any_at (turns state names) nodes place node below
    (ap (turns state names) (sym read)
    ∙ and_from (is_among names node) (alters state node)
    (read-at nodes place node (is_among names) true below read named) altered)

pub unturned_there : (state : NodeOrder) (names : List (List ℕ)) (nodes : List NodeRecord) (place : ℕ)
    (node : NodeRecord) → place < length nodes → node ≡ get_or nodes place node
    → (is_at (is_among names) nodes place && alters state node) ≡ false
    → list_any (turns state names) (drop place nodes) ≡ list_any (turns state names) (drop (place + 1) nodes)
unturned_there state names nodes place node below read idle =
    let named = read-at nodes place node (is_among names) (is_at (is_among names) nodes place) below read refl in
    at_drop_more (list_any (turns state names)) nodes place node below
    ∙ ap (λ (one : NodeRecord). turns state names one || list_any (turns state names) (drop (place + 1) nodes))
    (sym read)
    ∙ ap (λ has. (has && alters state node) || list_any (turns state names) (drop (place + 1) nodes)) named
    ∙ ap (λ has. has || list_any (turns state names) (drop (place + 1) nodes)) idle
