-- What is done to nodes leaves their names, and lets none come up at which something may run that nobody knows of.
use Rattle.std.proofs.Common.{ℕ, zero, suc, ◌≡◌, ◌+◌, ◌∙◌, Bool, true, false, not, ◌||◌, cond, List, [], ◌∷◌, map, Option, Some, None, is_none, bytes_eq, refl, sym, ap, ap₂, inl, inr, ◌⊎◌}
use Rattle.std.specs.Prelude.{nat_lt}
use Rattle.std.specs.List.{prefix_len}
use Rattle.std.proofs.lemmas.Bool.{and_from, and_parts, both_ways, cases_Bool, cond_both, cond-false, or_cases}
use Rattle.std.proofs.lemmas.List.{length-map}
use Rattle.request_data.specs.declared.report.Heard.{Heard}
use Rattle.node_state.specs.declared.record.DownBy.{DownBy}
use Rattle.node_state.specs.declared.record.DownBy.TheVariants as down
use Rattle.node_state.specs.declared.record.NodeChange.{NodeChange}
use Rattle.node_state.specs.declared.record.NodeChange.TheVariants as change
use Rattle.node_state.specs.declared.record.NodeRecord.{NodeRecord}
use Rattle.node_state.specs.Nodes.{changed, down_after_set, is_named, is_up, place_named, resumed, set_down, silent}
use Rattle.ctl_state.specs.Planning.{is_at}
use Rattle.ctl_state.specs.Soundness.{is_up_at}
use Rattle.ctl_state.specs.State.{State}
use Rattle.ctl_nodes.specs.Changing.{changed_where}
use Rattle.ctl_nodes.specs.Updating.{is_set_down}
use Rattle.ctl_node_side.specs.Reporting.{heard_of}
use Rattle.daemon_world.specs.Claims.{Claim, IsHeldAt}
use Rattle.daemon_world.specs.Leaving.{LeavesNode}
use Rattle.daemon_world.specs.Together.{is_emptied}
use Rattle.daemon_world.proofs.LeftAlone.{placed}

-- the node was up and isn't lost, or was never heard, or was emptied
abbrev pub WasUp : NodeRecord → Bool → Type 0
WasUp node lost = ((is_up node.down ≡ true) × (lost ≡ false)) ⊎ ((node.heard ≡ None) ⊎ (is_emptied node ≡ true))

-- what is done to nodes keeps what matters of each
pub record Keeps (alter : NodeRecord → NodeRecord) (loses : NodeRecord → Bool) : Type 0 where
  pub conf : (node : NodeRecord) → (alter node).conf ≡ node.conf
  pub heard : (node : NodeRecord) → (alter node).heard ≡ node.heard
  pub up : (node : NodeRecord) → is_up (alter node).down ≡ true → WasUp node (loses node)
  pub emptied : (node : NodeRecord) → is_emptied (alter node) ≡ true → is_emptied node ≡ true

-- ---- each change

set-conf : (node : NodeRecord) (by : DownBy) → (set_down node by).conf ≡ node.conf
set-conf node down.No = refl
set-conf node down.Silent = refl
set-conf node down.Set = refl

set-heard : (node : NodeRecord) (by : DownBy) → (set_down node by).heard ≡ node.heard
set-heard node down.No = refl
set-heard node down.Silent = refl
set-heard node down.Set = refl

set-up : (node : NodeRecord) (by : DownBy) → node.down ≡ by → is_up (set_down node by).down ≡ true → ⊥
set-up node down.No is up = both_ways false refl up
set-up node down.Silent is up = both_ways false refl up
set-up node down.Set is up = both_ways (is_up node.down) (ap is_up is) up

set-emptied : (node : NodeRecord) (by : DownBy) → is_emptied (set_down node by) ≡ true → is_emptied node ≡ true
set-emptied node down.No told = absurd (both_ways false refl told)
set-emptied node down.Silent told = absurd (both_ways false refl told)
set-emptied node down.Set told = told

silent-conf : (node : NodeRecord) (by : DownBy) → (silent node by).conf ≡ node.conf
silent-conf node down.No = refl
silent-conf node down.Silent = refl
silent-conf node down.Set = refl

silent-heard : (node : NodeRecord) (by : DownBy) → (silent node by).heard ≡ node.heard
silent-heard node down.No = refl
silent-heard node down.Silent = refl
silent-heard node down.Set = refl

silent-up : (node : NodeRecord) (by : DownBy) → node.down ≡ by → is_up (silent node by).down ≡ true → ⊥
silent-up node down.No is up = both_ways false refl up
silent-up node down.Silent is up = both_ways (is_up node.down) (ap is_up is) up
silent-up node down.Set is up = both_ways (is_up node.down) (ap is_up is) up

silent-emptied : (node : NodeRecord) (by : DownBy) → is_emptied (silent node by) ≡ true → is_emptied node ≡ true
silent-emptied node down.No told = absurd (both_ways false refl told)
silent-emptied node down.Silent told = told
silent-emptied node down.Set told = told

resumed-conf : (node : NodeRecord) (by : DownBy) → (resumed node by).conf ≡ node.conf
resumed-conf node down.No = refl
resumed-conf node down.Silent = refl
resumed-conf node down.Set = refl

resumed-heard : (node : NodeRecord) (by : DownBy) → (resumed node by).heard ≡ node.heard
resumed-heard node down.No = refl
resumed-heard node down.Silent = refl
resumed-heard node down.Set = refl

none-heard : (heard : Option Heard) → is_none heard ≡ true → heard ≡ None
none-heard None is = refl
none-heard (Some heard) is = absurd (both_ways false refl is)

after-set : (node : NodeRecord) → node.down ≡ down.Set → is_up (down_after_set node) ≡ true → WasUp node false
after-set node is up = elim (cases_Bool (is_none node.heard || node.empty)) [
  | inl may ↦ inr (elim (or_cases (is_none node.heard) node.empty may) [
    | inl never ↦ inl (none-heard node.heard never)
    | inr empty ↦ inr (and_from (is_set_down node.down) node.empty (ap is_set_down is) empty)
  ])
  | inr may_not ↦
      absurd (both_ways (is_up (down_after_set node))
      (ap is_up (cond-false (is_none node.heard || node.empty) down.No down.Silent may_not)) up)
]

resumed-up : (node : NodeRecord) (by : DownBy) → node.down ≡ by → is_up (resumed node by).down ≡ true
    → WasUp node false
resumed-up node down.No is up = inl (up, refl)
resumed-up node down.Silent is up = inl (up, refl)
resumed-up node down.Set is up = after-set node is up

resumed-emptied : (node : NodeRecord) (by : DownBy) → is_emptied (resumed node by) ≡ true → is_emptied node ≡ true
resumed-emptied node down.No told = told
resumed-emptied node down.Silent told = told
resumed-emptied node down.Set told =
    absurd (both_ways false refl (and_parts (is_set_down (down_after_set node)) false told).1)

-- ---- where something holds of a node

-- a change by which none comes up
pub keeps_lost : (what : NodeChange) (test : NodeRecord → Bool)
    → ((node : NodeRecord) → (changed what node).conf ≡ node.conf)
    → ((node : NodeRecord) → (changed what node).heard ≡ node.heard)
    → ((node : NodeRecord) → is_up (changed what node).down ≡ true → ⊥)
    → ((node : NodeRecord) → is_emptied (changed what node) ≡ true → is_emptied node ≡ true)
    → Keeps (changed_where what test) test
keeps_lost what test confs heards never emptied = record {
  conf = λ node. cond_both (test node) (changed what node) node (λ (one : NodeRecord). one.conf ≡ node.conf)
      (λ is. confs node) (λ not. refl);
  heard = λ node. cond_both (test node) (changed what node) node (λ (one : NodeRecord). one.heard ≡ node.heard)
      (λ is. heards node) (λ not. refl);
  up = λ node. cond_both (test node) (changed what node) node
      (λ (one : NodeRecord). is_up one.down ≡ true → WasUp node (test node))
      (λ is up. absurd (never node up)) (λ not up. inl (up, not));
  emptied = λ node. cond_both (test node) (changed what node) node
      (λ (one : NodeRecord). is_emptied one ≡ true → is_emptied node ≡ true)
      (λ is told. emptied node told) (λ not told. told);
}

-- a change by which nothing is lost
pub keeps_else : (what : NodeChange) (test : NodeRecord → Bool)
    → ((node : NodeRecord) → (changed what node).conf ≡ node.conf)
    → ((node : NodeRecord) → (changed what node).heard ≡ node.heard)
    → ((node : NodeRecord) → is_up (changed what node).down ≡ true → WasUp node false)
    → ((node : NodeRecord) → is_emptied (changed what node) ≡ true → is_emptied node ≡ true)
    → Keeps (changed_where what test) (λ node. false)
keeps_else what test confs heards ups emptied = record {
  conf = λ node. cond_both (test node) (changed what node) node (λ (one : NodeRecord). one.conf ≡ node.conf)
      (λ is. confs node) (λ not. refl);
  heard = λ node. cond_both (test node) (changed what node) node (λ (one : NodeRecord). one.heard ≡ node.heard)
      (λ is. heards node) (λ not. refl);
  up = λ node. cond_both (test node) (changed what node) node
      (λ (one : NodeRecord). is_up one.down ≡ true → WasUp node false)
      (λ is up. ups node up) (λ not up. inl (up, refl));
  emptied = λ node. cond_both (test node) (changed what node) node
      (λ (one : NodeRecord). is_emptied one ≡ true → is_emptied node ≡ true)
      (λ is told. emptied node told) (λ not told. told);
}

pub keeps_down : (test : NodeRecord → Bool) → Keeps (changed_where change.Down test) test
keeps_down test =
    keeps_lost change.Down test (λ node. set-conf node node.down) (λ node. set-heard node node.down)
    (λ node up. set-up node node.down refl up) (λ node told. set-emptied node node.down told)

pub keeps_silent : (test : NodeRecord → Bool) → Keeps (changed_where change.Silent test) test
keeps_silent test =
    keeps_lost change.Silent test (λ node. silent-conf node node.down) (λ node. silent-heard node node.down)
    (λ node up. silent-up node node.down refl up) (λ node told. silent-emptied node node.down told)

pub keeps_drain : (test : NodeRecord → Bool) → Keeps (changed_where change.Drain test) (λ node. false)
keeps_drain test =
    keeps_else change.Drain test (λ node. refl) (λ node. refl) (λ node up. inl (up, refl)) (λ node told. told)

pub keeps_resume : (test : NodeRecord → Bool) → Keeps (changed_where change.Resume test) (λ node. false)
keeps_resume test =
    keeps_else change.Resume test (λ node. resumed-conf node node.down) (λ node. resumed-heard node node.down)
    (λ node up. resumed-up node node.down refl up) (λ node told. resumed-emptied node node.down told)

-- ---- all nodes

prefix-same : {X : Type 0} (test : X → Bool) (alter : X → X) → ((x : X) → test (alter x) ≡ test x) → (xs : List X)
    → prefix_len test (map alter xs) ≡ prefix_len test xs
prefix-same test alter same [] = refl
prefix-same test alter same (x ∷ xs) =
    ap₂ (λ b n. cond b (1 + n) 0) (same x) (prefix-same test alter same xs)

same-places : (alter : NodeRecord → NodeRecord) → ((node : NodeRecord) → (alter node).conf ≡ node.conf)
    → (name : List ℕ) (nodes : List NodeRecord) → place_named name (map alter nodes) ≡ place_named name nodes
same-places alter confs name nodes =
    let first = prefix-same (λ node. not (is_named name node)) alter
    (λ node. ap (λ conf. not (bytes_eq conf.name name)) (confs node)) nodes in
    ap₂ (λ n count. cond (nat_lt n count) (Some n) None) first (length-map nodes alter)

heard-same : (alter : NodeRecord → NodeRecord) → ((node : NodeRecord) → (alter node).heard ≡ node.heard)
    → (nodes : List NodeRecord) (place : ℕ) → heard_of (map alter nodes) place ≡ heard_of nodes place
heard-same alter heards [] place = refl
heard-same alter heards (node ∷ nodes) zero = heards node
heard-same alter heards (node ∷ nodes) (suc place) = heard-same alter heards nodes place

abbrev WasUpAt : (NodeRecord → Bool) → List NodeRecord → ℕ → Type 0
WasUpAt loses nodes place =
    ((is_up_at nodes place ≡ true) × (is_at loses nodes place ≡ false))
    ⊎ ((heard_of nodes place ≡ None) ⊎ (is_at is_emptied nodes place ≡ true))

was-up : (alter : NodeRecord → NodeRecord) (loses : NodeRecord → Bool) → Keeps alter loses
    → (nodes : List NodeRecord) (place : ℕ) → is_up_at (map alter nodes) place ≡ true → WasUpAt loses nodes place
was-up alter loses keeps [] place up = absurd (both_ways false refl up)
was-up alter loses keeps (node ∷ nodes) zero up = keeps.up node up
was-up alter loses keeps (node ∷ nodes) (suc place) up = was-up alter loses keeps nodes place up

was-emptied : (alter : NodeRecord → NodeRecord) (loses : NodeRecord → Bool) → Keeps alter loses
    → (nodes : List NodeRecord) (place : ℕ) → is_at is_emptied (map alter nodes) place ≡ true
    → is_at is_emptied nodes place ≡ true
was-emptied alter loses keeps [] place told = told
was-emptied alter loses keeps (node ∷ nodes) zero told = keeps.emptied node told
was-emptied alter loses keeps (node ∷ nodes) (suc place) told = was-emptied alter loses keeps nodes place told

-- A step that does this to the nodes, and takes nothing from those that aren't lost, leaves each of them alone.
pub nodes_left : (alter : NodeRecord → NodeRecord) (loses : NodeRecord → Bool) → Keeps alter loses
    → (s s' : State) (node : List ℕ) → s'.nodes ≡ map alter s.nodes → s'.dropped ≡ s.dropped
    → ((place : ℕ) (claim : Claim) → is_at loses s.nodes place ≡ false → IsHeldAt s.jobs place claim
    → IsHeldAt s'.jobs place claim)
    → LeavesNode s s' node
nodes_left alter loses keeps s s' node nodes dropped held = placed s s' node (record {
  place = ap (place_named node) nodes ∙ same-places alter keeps.conf node s.nodes;
  dropped = dropped;
  heard = λ place there. ap (λ (all : List NodeRecord). heard_of all place) nodes
      ∙ heard-same alter keeps.heard s.nodes place;
  held = λ place there up.
      elim (was-up alter loses keeps s.nodes place (ap (λ all. is_up_at all place) (sym nodes) ∙ up)) [
        | inl was ↦ inl (was.0, λ claim holds. held place claim was.1 holds)
        | inr nothing ↦ inr nothing
      ];
  emptied = λ place there told.
      was-emptied alter loses keeps s.nodes place (ap (λ all. is_at is_emptied all place) (sym nodes) ∙ told);
})
