-- The nodes of the lines of a file: where they are, line by line.
use Rattle.std.proofs.Common.{◌≡◌, ℕ, zero, suc, ◌+◌, ◌<◌, ◌≤◌, Bool, true, false, eqb, ◌&&◌, ◌||◌, not, List, [], ◌∷◌, length, take, get_or, bytes_eq, Option, Some, None, refl, sym, ap, ◌∙◌, arith, inl, inr}
use Rattle.std.specs.Prelude.{slice_get}
use Rattle.std.specs.List.{list_any}
use Rattle.std.specs.Option.{option_map, option_to_list, unwrap_or}
use Rattle.plain_data.specs.Rows.{has_id}
use Rattle.std.specs.Cmp.Lexicographic.{nat_list_eq_equiv}
use Rattle.std.proofs.lemmas.Bool.{both_ways, cases_Bool, eq-eqb, eqb-true, ne_eqb}
use Rattle.std.proofs.lemmas.List.Folds.{list_any_more}
use Rattle.std.proofs.lemmas.Option.{get_or_from_slice_get, slice_get_within}
use Rattle.std.proofs.lemmas.Slice.Eq.{bytes_eq-Decides}
use Rattle.plain_data.specs.declared.conf.NodeConf.{NodeConf}
use Rattle.node_state.specs.declared.record.NodeRecord.{NodeRecord}
use Rattle.node_state.specs.Laws.{NamesLeadToPlaces, PlacesAreNamed}
use Rattle.node_state.specs.Nodes.{AreNamedOnce, place_named}
use Rattle.ctl_state.specs.Planning.{is_at}
use Rattle.ctl_state.specs.State.{State}
use Rattle.ctl_reconfigure.specs.Blocking.{blocks, is_needed, is_of, is_too_small}
use Rattle.ctl_state.specs.Holding.{parts_of}

-- a name leads to this place
abbrev pub leads_to : Option ℕ → ℕ → Bool
leads_to None place = false
leads_to (Some at) place = eqb at place

pub or_false : (b : Bool) → b ≡ (b || false)
or_false true = refl
or_false false = refl

pub true_too : (b : Bool) → b ≡ (b && true)
true_too true = refl
true_too false = refl

-- a line is of the node at a place exactly where its name leads there
of-place : NamesLeadToPlaces → PlacesAreNamed → (line : NodeConf) (nodes : List NodeRecord) (place : ℕ)
    (node : NodeRecord) (found : Option ℕ)
    → AreNamedOnce nodes → slice_get nodes place ≡ Some node → place_named line.name nodes ≡ found
    → is_of node line ≡ leads_to found place
of-place there named line nodes place node found once is leads =
    let read : (d : NodeRecord) → get_or nodes place d ≡ node = λ d. get_or_from_slice_get nodes place node d is in
    elim (cases_Bool (bytes_eq line.name node.conf.name)) [
      | inl same ↦
          let own : place_named node.conf.name nodes ≡ Some place =
          rw (read node) at (there place nodes once (slice_get_within nodes place node is) node) in
          let here : found ≡ Some place =
          sym leads ∙ ap (λ name. place_named name nodes) ((bytes_eq-Decides line.name node.conf.name).0 same) ∙ own in
          same ∙ sym (ap (λ found. leads_to found place) here ∙ eq-eqb place place refl)
      | inr other ↦ other ∙ sym (elsewhere found leads other)
    ] where
      elsewhere : (found : Option ℕ) → place_named line.name nodes ≡ found
          → bytes_eq line.name node.conf.name ≡ false → leads_to found place ≡ false
      elsewhere None leads other = refl
      elsewhere (Some at) leads other = ne_eqb at place (λ same.
          let has : (get_or nodes at node).conf.name ≡ line.name = (named line.name at nodes leads).1 node in
          let own : line.name ≡ node.conf.name =
          sym has ∙ ap (λ place. (get_or nodes place node).conf.name) same
          ∙ ap (λ (one : NodeRecord). one.conf.name) (get_or_from_slice_get nodes place node node is) in
          both_ways (bytes_eq line.name node.conf.name) other ((bytes_eq-Decides line.name node.conf.name).1 own))

not-past : {X : Type 0} (xs : List X) (place : ℕ) → slice_get xs place ≡ None → place < length xs → ⊥
not-past [] place is below = omega (arith, below)
not-past (x ∷ xs) zero is below = let never = is in cc
not-past (x ∷ xs) (suc place) is below = not-past xs place is (omega (arith, below))

-- One line more. The test asks whether a line is of a node, and something of the line besides.
pub one_more_line : NamesLeadToPlaces → PlacesAreNamed → (test : NodeRecord → NodeConf → Bool) (also : Bool)
    (lines : List NodeConf) (k : ℕ) (line : NodeConf) (nodes : List NodeRecord) (place : ℕ) (found : Option ℕ)
    → ((node : NodeRecord) → test node line ≡ (is_of node line && also))
    → AreNamedOnce nodes → k < length lines → line ≡ get_or lines k line → place_named line.name nodes ≡ found
    → is_at (λ node. list_any (test node) (take (k + 1) lines)) nodes place
    ≡ (is_at (λ node. list_any (test node) (take k lines)) nodes place || (leads_to found place && also))
one_more_line there named test also lines k line nodes place found says once below read leads =
    by (slice_get nodes place) refl
  where
    nowhere : (found : Option ℕ) → place_named line.name nodes ≡ found → slice_get nodes place ≡ None
        → leads_to found place ≡ false
    nowhere None leads is = refl
    nowhere (Some at) leads is =
        ne_eqb at place (λ same. not-past nodes place is (omega (arith, same, (named line.name at nodes leads).0)))

    by : (got : Option NodeRecord) → slice_get nodes place ≡ got
        → unwrap_or (option_map (λ node. list_any (test node) (take (k + 1) lines)) got) false
        ≡ (unwrap_or (option_map (λ node. list_any (test node) (take k lines)) got) false || (leads_to found place && also))
    by None is = sym (ap (λ here. here && also) (nowhere found leads is))
    by (Some node) is =
        list_any_more (test node) lines k line below
        ∙ ap (λ line. list_any (test node) (take k lines) || test node line) (sym read)
        ∙ ap (λ has. list_any (test node) (take k lines) || has)
        (says node ∙ ap (λ here. here && also) (of-place there named line nodes place node found once is leads))

-- the place to which a name leads, in a row
leads-is : (found : Option ℕ) (place : ℕ) → has_id (option_to_list found) place ≡ leads_to found place
leads-is None place = refl
leads-is (Some at) place = sym (or_false (eqb at place))

-- the row of one line more, to which the place of its node is added where the test asks no more of it
pub line-more : NamesLeadToPlaces → PlacesAreNamed → (test : NodeRecord → NodeConf → Bool) (also : Bool)
    (lines : List NodeConf) (k : ℕ) (line : NodeConf) (nodes : List NodeRecord) (place : ℕ) (was now added : Bool)
    → ((node : NodeRecord) → test node line ≡ (is_of node line && also))
    → AreNamedOnce nodes → k < length lines → line ≡ get_or lines k line
    → added ≡ (has_id (option_to_list (place_named line.name nodes)) place && also)
    → was ≡ is_at (λ node. list_any (test node) (take k lines)) nodes place → now ≡ (was || added)
    → now ≡ is_at (λ node. list_any (test node) (take (k + 1) lines)) nodes place
line-more there named test also lines k line nodes place was now added says once below read adds before after =
    let found = place_named line.name nodes in
    let rest = is_at (λ node. list_any (test node) (take k lines)) nodes place in
    after ∙ ap (λ b. b || added) before
    ∙ ap (λ b. rest || b) (adds ∙ ap (λ b. b && also) (leads-is found place))
    ∙ sym (one_more_line there named test also lines k line nodes place found says once below read refl)

-- a place that was found is kept where what is asked of it is so
pub kept-where : (at place : ℕ) (small : ℕ → Bool) → small at ≡ true
    → has_id (at ∷ []) place ≡ (has_id (at ∷ []) place && small place)
kept-where at place small is = elim (cases_Bool (eqb at place)) [
  | inl here ↦
      let same : small place ≡ true = rw (← eqb-true at place here) is in
      rw (here, same) refl
  | inr other ↦ rw other refl
]

pub left-where : (at place : ℕ) (small : ℕ → Bool) → small at ≡ false
    → false ≡ (has_id (at ∷ []) place && small place)
left-where at place small is = elim (cases_Bool (eqb at place)) [
  | inl here ↦
      let same : small place ≡ false = rw (← eqb-true at place here) is in
      rw (here, same) refl
  | inr other ↦ rw other refl
]

-- what a row has from which one was taken, and to which another was added
pub row-of : (now middle first gone more : Bool) → now ≡ (middle || more) → middle ≡ (first && not gone)
    → now ≡ ((first && not gone) || more)
row-of now middle first gone more after before = after ∙ ap (λ b. b || more) before

-- the row of the nodes that stand against the lines, by three others
pub blocking-row : (s : State) (lines : List NodeConf) (place : ℕ) (needed listed small : Bool)
    → place < length s.nodes → needed ≡ is_needed s place
    → listed ≡ is_at (λ node. list_any (is_of node) lines) s.nodes place
    → small ≡ is_at (λ node. list_any (λ line. is_of node line && is_too_small (parts_of s.jobs) place line) lines) s.nodes place
    → ((needed && not listed) || small) ≡ is_at (blocks s lines place) s.nodes place
blocking-row s lines place needed listed small inside is-needed is-listed is-small =
    rw (is-needed, is-listed, is-small) (by (slice_get s.nodes place) refl)
  where
    by : (got : Option NodeRecord) → slice_get s.nodes place ≡ got
        → ((is_needed s place && not (unwrap_or (option_map (λ node. list_any (is_of node) lines) got) false))
        || unwrap_or (option_map (λ node. list_any (λ line. is_of node line && is_too_small (parts_of s.jobs) place line) lines) got) false)
        ≡ unwrap_or (option_map (blocks s lines place) got) false
    by None is = absurd (not-past s.nodes place is inside)
    by (Some node) is = refl
