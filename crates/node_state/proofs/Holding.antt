-- What is held of the nodes, before and after a change.
use Rattle.std.proofs.Common.{◌≡◌, inl, inr, ℕ, zero, suc, ◌+◌, ◌-◌, ◌<◌, ◌≤◌, Bool, true, false, if◌then◌else◌, not, eqb, ◌&&◌, ◌||◌, List, [], ◌∷◌, length, get_or, set, All, subst, refl, sym, ap, ◌∙◌, arith}
use Rattle.std.proofs.lemmas.Bool.{cases_eq, eq-eqb, ne_eqb, eqb-true, or_cases, or_left, or_right, and_parts}
use Rattle.std.proofs.lemmas.List.{get_or-set_same, get_or-set_other, get_or_default}
use Rattle.std.proofs.lemmas.List.Elements.{All-nil, All-cons, All-head, All-tail}
use Rattle.plain_data.specs.Rows.{has_id}
use Rattle.node_state.specs.declared.record.NodeRecord.{NodeRecord}
use Rattle.node_state.specs.declared.record.NodeChange.{NodeChange}
use Rattle.node_state.specs.declared.record.Held.{Held}
use Rattle.node_state.specs.Nodes.{change_at}
use Rattle.node_state.specs.Held.{held_at, holds_cpu, held_mem, IsWithin, AreWithin, HoldsNothing, Takes, GivesBack}
use Rattle.node_state.proofs.Changes.{conf-changed}

-- ---- lists of processors

-- what holds of each number of a list holds of one that is there, and the other way round
at-has_id : (P : ℕ → Type 0) (ids : List ℕ) (k : ℕ) → All P ids → has_id ids k ≡ true → P k
at-has_id P [] k all has = absurd cc
at-has_id P (id ∷ ids) k all has = elim (or_cases (eqb id k) (has_id ids k) has) as (λ _. P k) [
  | inl here ↦ subst P (eqb-true id k here) (All-head P id ids all)
  | inr later ↦ at-has_id P ids k (All-tail P id ids all) later
]

all-from_has_id : (P : ℕ → Type 0) (ids : List ℕ) → ((k : ℕ) → has_id ids k ≡ true → P k) → All P ids
all-from_has_id P [] each = All-nil P
all-from_has_id P (id ∷ ids) each = All-cons P id ids
    (each id (or_left (eqb id id) (has_id ids id) (eq-eqb id id refl)))
    (all-from_has_id P ids (λ k has. each k (or_right (eqb id k) (has_id ids k) has)))

-- ---- nothing held

abbrev pub nothing : Held
nothing = record { cpus = []; mem = 0 }

at-nothing : (held : List Held) (place : ℕ) → All (λ (row : Held). row ≡ nothing) held → held_at held place ≡ nothing
at-nothing [] place all = refl
at-nothing (row ∷ rows) zero all = All-head (λ (row : Held). row ≡ nothing) row rows all
at-nothing (row ∷ rows) (suc place) all = at-nothing rows place (All-tail (λ (row : Held). row ≡ nothing) row rows all)

pub holds-nothing : (held : List Held) → All (λ (row : Held). row ≡ nothing) held → HoldsNothing held
holds-nothing held all = record {
  cpus = λ place cpu. rw (at-nothing held place all) refl;
  mem = λ place. ap (λ (row : Held). row.mem) (at-nothing held place all);
}

pub nothing-within : (nodes : List NodeRecord) (held : List Held) → length held ≡ length nodes → All (λ (row : Held). row ≡ nothing) held → AreWithin nodes held
nothing-within [] [] long all = tt
nothing-within [] (row ∷ rows) long all = absurd (omega (arith, long))
nothing-within (node ∷ nodes) [] long all = absurd (omega (arith, long))
nothing-within (node ∷ nodes) (row ∷ rows) long all = (
  rw (All-head (λ (row : Held). row ≡ nothing) row rows all) (record { cpus = λ k d inside. absurd (omega (arith, inside)); mem = omega arith }),
  nothing-within nodes rows (omega (arith, long)) (All-tail (λ (row : Held). row ≡ nothing) row rows all),
)

-- ---- a change of a node

pub within-changed : (place : ℕ) (change : NodeChange) (nodes : List NodeRecord) (held : List Held) → AreWithin nodes held → AreWithin (change_at place change nodes) held
within-changed place change [] held within = within
within-changed zero change (node ∷ later) [] within = within
within-changed (suc place) change (node ∷ later) [] within = within
within-changed zero change (node ∷ later) (row ∷ rows) within = (record { cpus = rw (conf-changed change node) within.0.cpus; mem = rw (conf-changed change node) within.0.mem }, within.1)
within-changed (suc place) change (node ∷ later) (row ∷ rows) within = (within.0, within-changed place change later rows within.1)

-- ---- a change of what is held of one node

pub within-at : (nodes : List NodeRecord) (held : List Held) (place : ℕ) (d : NodeRecord) → AreWithin nodes held → place < length nodes → IsWithin (get_or nodes place d) (held_at held place)
within-at [] held place d within inside = absurd (omega (arith, inside))
within-at (node ∷ nodes) [] place d within inside = absurd within
within-at (node ∷ nodes) (row ∷ rows) zero d within inside = within.0
within-at (node ∷ nodes) (row ∷ rows) (suc place) d within inside = within-at nodes rows place d within.1 (omega (arith, inside))

pub length-within : (nodes : List NodeRecord) (held : List Held) → AreWithin nodes held → length held ≡ length nodes
length-within [] [] within = refl
length-within [] (row ∷ rows) within = absurd within
length-within (node ∷ nodes) [] within = absurd within
length-within (node ∷ nodes) (row ∷ rows) within = ap suc (length-within nodes rows within.1)

pub within-set : (nodes : List NodeRecord) (held : List Held) (place : ℕ) (row : Held) → AreWithin nodes held → ((d : NodeRecord) → place < length nodes → IsWithin (get_or nodes place d) row) → AreWithin nodes (set held place row)
within-set [] [] place row within fits = within
within-set [] (first ∷ rows) place row within fits = absurd within
within-set (node ∷ nodes) [] place row within fits = absurd within
within-set (node ∷ nodes) (first ∷ rows) zero row within fits = (fits node (omega arith), within.1)
within-set (node ∷ nodes) (first ∷ rows) (suc place) row within fits = (within.0, within-set nodes rows place row within.1 (λ d inside. fits d (omega arith)))

within-taken : (node : NodeRecord) (before after : Held) (ids : List ℕ) → IsWithin node before → All (λ cpu. cpu < node.conf.cpus) ids
    → ((cpu : ℕ) → has_id after.cpus cpu ≡ (has_id before.cpus cpu || has_id ids cpu)) → after.mem ≤ node.conf.mem → IsWithin node after
within-taken node before after ids within low more mem = record {
  cpus = all-from_has_id (λ cpu. cpu < node.conf.cpus) after.cpus (λ cpu has. elim (or_cases (has_id before.cpus cpu) (has_id ids cpu) (sym (more cpu) ∙ has)) as (λ _. cpu < node.conf.cpus) [
    | inl old ↦ at-has_id (λ cpu. cpu < node.conf.cpus) before.cpus cpu within.cpus old
    | inr new ↦ at-has_id (λ cpu. cpu < node.conf.cpus) ids cpu low new
  ]);
  mem = mem;
}

within-given : (node : NodeRecord) (before after : Held) (ids : List ℕ) → IsWithin node before
    → ((cpu : ℕ) → has_id after.cpus cpu ≡ (has_id before.cpus cpu && not (has_id ids cpu))) → after.mem ≤ node.conf.mem → IsWithin node after
within-given node before after ids within less mem = record {
  cpus = all-from_has_id (λ cpu. cpu < node.conf.cpus) after.cpus (λ cpu has. at-has_id (λ cpu. cpu < node.conf.cpus) before.cpus cpu within.cpus (and_parts (has_id before.cpus cpu) (not (has_id ids cpu)) (sym (less cpu) ∙ has)).0);
  mem = mem;
}

-- a row stands at a place of what is held
pub record StandsAt (nodes : List NodeRecord) (held : List Held) (place : ℕ) (row : Held) : Type 0 where
  pub within : AreWithin nodes held
  pub inside : place < length nodes
  pub is : row ≡ get_or held place row

pub stands-inside : {nodes : List NodeRecord} {held : List Held} {place : ℕ} {row : Held} → StandsAt nodes held place row → place < length held
stands-inside {nodes} {held} at = omega (arith, at.inside, length-within nodes held at.within)

pub stands-is : {nodes : List NodeRecord} {held : List Held} {place : ℕ} {row : Held} → StandsAt nodes held place row → row ≡ held_at held place
stands-is {held = held} {place = place} {row = row} at = at.is ∙ get_or_default held place row nothing (stands-inside at)

pub stands-within : {nodes : List NodeRecord} {held : List Held} {place : ℕ} {row : Held} → StandsAt nodes held place row → (d : NodeRecord) → IsWithin (get_or nodes place d) row
stands-within {nodes} {held} {place} at d = rw (stands-is at) (within-at nodes held place d at.within at.inside)

pub are-within-taken : {nodes : List NodeRecord} {held : List Held} {place : ℕ} {row : Held} (after : Held) (ids : List ℕ) → StandsAt nodes held place row
    → ((d : NodeRecord) → All (λ cpu. cpu < (get_or nodes place d).conf.cpus) ids) → ((cpu : ℕ) → has_id after.cpus cpu ≡ (has_id row.cpus cpu || has_id ids cpu)) → ((d : NodeRecord) → after.mem ≤ (get_or nodes place d).conf.mem)
    → AreWithin nodes (set held place after)
are-within-taken {nodes} {held} {place} {row} after ids at low more mem = within-set nodes held place after at.within (λ d inside. within-taken (get_or nodes place d) row after ids (stands-within at d) (low d) more (mem d))

pub are-within-given : {nodes : List NodeRecord} {held : List Held} {place : ℕ} {row : Held} (after : Held) (ids : List ℕ) → StandsAt nodes held place row
    → ((cpu : ℕ) → has_id after.cpus cpu ≡ (has_id row.cpus cpu && not (has_id ids cpu))) → after.mem ≤ row.mem → AreWithin nodes (set held place after)
are-within-given {nodes} {held} {place} {row} after ids at less mem = within-set nodes held place after at.within (λ d inside. within-given (get_or nodes place d) row after ids (stands-within at d) less (omega (arith, mem, (stands-within at d).mem)))

at-set : (held : List Held) (place node : ℕ) (row : Held) → place < length held → node ≡ place → get_or (set held place row) node nothing ≡ row
at-set held place node row inside same = rw same (get_or-set_same held place row nothing inside)

pub takes-set : (held : List Held) (place : ℕ) (row : Held) (ids : List ℕ) (megabytes : ℕ) → place < length held
    → ((cpu : ℕ) → has_id row.cpus cpu ≡ (holds_cpu held place cpu || has_id ids cpu)) → row.mem ≡ held_mem held place + megabytes → Takes held place ids megabytes (set held place row)
takes-set held place row ids megabytes inside cpus mem = record {
  cpus = λ node cpu. elim (cases_eq node place) as (λ _. holds_cpu (set held place row) node cpu ≡ (holds_cpu held node cpu || (eqb node place && has_id ids cpu))) [
    | inl same ↦ rw (same, get_or-set_same held place row nothing inside, eq-eqb place place refl) (cpus cpu)
    | inr other ↦ rw (get_or-set_other held place node row nothing other, ne_eqb node place other) (or-false (holds_cpu held node cpu))
  ];
  mem = λ node. elim (cases_eq node place) as (λ _. held_mem (set held place row) node ≡ held_mem held node + (if eqb node place then megabytes else 0)) [
    | inl same ↦ ap (λ (at : Held). at.mem) (at-set held place node row inside same) ∙ mem ∙ rw (same, eq-eqb place place refl) refl
    | inr other ↦ ap (λ (at : Held). at.mem) (get_or-set_other held place node row nothing other) ∙ rw (ne_eqb node place other) (omega arith)
  ];
} where
  or-false : (b : Bool) → b ≡ (b || false)
  or-false true = refl
  or-false false = refl

pub gives-set : (held : List Held) (place : ℕ) (row : Held) (ids : List ℕ) (megabytes : ℕ) → place < length held
    → ((cpu : ℕ) → has_id row.cpus cpu ≡ (holds_cpu held place cpu && not (has_id ids cpu))) → row.mem ≡ held_mem held place - megabytes → GivesBack held place ids megabytes (set held place row)
gives-set held place row ids megabytes inside cpus mem = record {
  cpus = λ node cpu. elim (cases_eq node place) as (λ _. holds_cpu (set held place row) node cpu ≡ (holds_cpu held node cpu && not (eqb node place && has_id ids cpu))) [
    | inl same ↦ rw (same, get_or-set_same held place row nothing inside, eq-eqb place place refl) (cpus cpu)
    | inr other ↦ rw (get_or-set_other held place node row nothing other, ne_eqb node place other) (and-true (holds_cpu held node cpu))
  ];
  mem = λ node. elim (cases_eq node place) as (λ _. held_mem (set held place row) node ≡ held_mem held node - (if eqb node place then megabytes else 0)) [
    | inl same ↦ ap (λ (at : Held). at.mem) (at-set held place node row inside same) ∙ mem ∙ rw (same, eq-eqb place place refl) refl
    | inr other ↦ ap (λ (at : Held). at.mem) (get_or-set_other held place node row nothing other) ∙ rw (ne_eqb node place other) (omega arith)
  ];
} where
  and-true : (b : Bool) → b ≡ (b && true)
  and-true true = refl
  and-true false = refl
