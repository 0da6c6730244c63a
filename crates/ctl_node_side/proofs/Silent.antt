-- Nodes that fall silent: what stays sound, and that a node which falls silent is another one.
use Rattle.std.proofs.Common.{ℕ, zero, suc, ◌≡◌, ◌≤◌, ◌∙◌, Bool, true, false, not, List, [], ◌∷◌, map, get_or, All, refl, sym, ap, arith, inl, inr}
use Rattle.std.specs.List.{list_any}
use Rattle.std.proofs.lemmas.Bool.{and_parts, both_ways, cases_Bool, cond-false, cond-true, cond_both, or_from}
use Rattle.node_state.specs.declared.record.DownBy.{DownBy}
use Rattle.node_state.specs.declared.record.DownBy.TheVariants as down
use Rattle.node_state.specs.declared.record.NodeRecord.{NodeRecord}
use Rattle.node_state.specs.declared.record.NodeChange.TheVariants.{Silent}
use Rattle.node_state.specs.Laws.{ConfsStay}
use Rattle.node_state.specs.Nodes.{changed, is_up, silent}
use Rattle.job_table.specs.declared.record.Part.{Part}
use Rattle.ctl_state.specs.Holding.{parts_of}
use Rattle.ctl_state.specs.Laws.{NodesHold}
use Rattle.ctl_state.specs.Planning.{is_at}
use Rattle.ctl_state.specs.Soundness.{AreUp, IsSound, is_up_at}
use Rattle.ctl_state.specs.State.{State, last_moment}
use Rattle.ctl_state.specs.Verdicts.{stamped}
use Rattle.ctl_nodes.specs.Changing.{changed_where}
use Rattle.ctl_nodes.specs.Failing.{after_loss, lost_after}
use Rattle.ctl_pass.specs.Passing.{is_idle, pass_after}
use Rattle.ctl_node_side.specs.Passes.{after_pass, pass_is_idle}
use Rattle.ctl_node_side.specs.Silence.{any_silent, falls_silent, nodes_silenced, silent_at, silenced, without_silent}

-- ---- what slurm.conf says stays, and so do the nodes that don't fall silent

confs-stay : ConfsStay → (test : NodeRecord → Bool) (nodes : List NodeRecord)
    → map (λ (node : NodeRecord). node.conf) (map (changed_where Silent test) nodes)
    ≡ map (λ (node : NodeRecord). node.conf) nodes
confs-stay confs test [] = refl
confs-stay confs test (node ∷ nodes) =
    let one : (changed Silent node).conf ≡ node.conf =
    (let first = confs zero Silent (node ∷ []) in cc) in
    let here : (changed_where Silent test node).conf ≡ node.conf =
    cond_both (test node) _ node (λ (one : NodeRecord). one.conf ≡ node.conf) (λ h. one) (λ h. refl) in
    let rest = confs-stay confs test nodes in
    cc

up-at : (test : NodeRecord → Bool) (nodes : List NodeRecord) (place : ℕ)
    → is_up_at nodes place ≡ true → is_at test nodes place ≡ false
    → is_up_at (map (changed_where Silent test) nodes) place ≡ true
up-at test [] place up free = up
up-at test (node ∷ nodes) zero up free =
    ap (λ (one : NodeRecord). is_up one.down) (cond-false (test node) (changed Silent node) node free) ∙ up
up-at test (node ∷ nodes) (suc place) up free = up-at test nodes place up free

-- the loss of nodes keeps all sound, and frees them
abbrev pub LosingKeeps : Type 0
LosingKeeps = (s : State) (now : ℕ) (lost : ℕ → Bool) → IsSound s → s.moment ≤ now → now ≤ last_moment
    → IsSound (stamped now (lost_after s now lost))

abbrev pub LosingFrees : Type 0
LosingFrees = (s : State) (now : ℕ) (lost : ℕ → Bool) → IsSound s
    → All (λ (part : Part). lost part.node ≡ false) (parts_of (map (after_loss now lost) s.jobs))

sound-without : LosingKeeps → LosingFrees → NodesHold → ConfsStay → (s : State) (now : ℕ)
    → IsSound s → s.moment ≤ now → now ≤ last_moment → IsSound (without_silent s now)
sound-without keeps frees hold confs s now sound raised in_time =
    let lost = silent_at s now in
    let test = falls_silent s.settings.slurmd_timeout now in
    let nodes = nodes_silenced s now in
    let parts = parts_of (map (after_loss now lost) s.jobs) in
    let after = keeps s now lost sound raised in_time in
    let up : AreUp nodes parts = λ k d below.
    up-at test s.nodes (get_or parts k d).node (after.up k d below) (frees s now lost sound k d below) in
    hold (stamped now (lost_after s now lost)) nodes after (confs-stay confs test s.nodes) up

pub sound_silenced : LosingKeeps → LosingFrees → NodesHold → ConfsStay → (s : State) (now : ℕ)
    → IsSound s → s.moment ≤ now → now ≤ last_moment → IsSound (silenced s now)
sound_silenced keeps frees hold confs s now sound raised in_time =
    cond_both (any_silent s now) (without_silent s now) s IsSound
    (λ some. sound-without keeps frees hold confs s now sound raised in_time) (λ none. sound)

-- the state at the moment, or before it
pub silenced_raised : (s : State) (now : ℕ) → s.moment ≤ now → (silenced s now).moment ≤ now
silenced_raised s now raised =
    cond_both (any_silent s now) (without_silent s now) s (λ (t : State). t.moment ≤ now) (λ some. omega arith)
    (λ none. raised)

-- ---- where nothing changes

pub silenced_none : (s : State) (now : ℕ) → any_silent s now ≡ false → silenced s now ≡ s
silenced_none s now none = cond-false (any_silent s now) (without_silent s now) s none

pub silenced_some : (s : State) (now : ℕ) → any_silent s now ≡ true → silenced s now ≡ without_silent s now
silenced_some s now some = cond-true (any_silent s now) (without_silent s now) s some

-- a node that is up and would be silent is another one
silent-unlike : (node : NodeRecord) (by : DownBy) → node.down ≡ by → is_up by ≡ true → silent node by ≡ node → ⊥
silent-unlike node down.No is up same =
    let never : down.Silent ≡ down.No = ap (λ (one : NodeRecord). one.down) same ∙ is in cc
silent-unlike node down.Silent is up same = both_ways false refl up
silent-unlike node down.Set is up same = both_ways false refl up

none-falls : (timeout now : ℕ) (nodes : List NodeRecord)
    → map (changed_where Silent (falls_silent timeout now)) nodes ≡ nodes
    → list_any (falls_silent timeout now) nodes ≡ false
none-falls timeout now [] same = refl
none-falls timeout now (node ∷ nodes) same =
    let test = falls_silent timeout now in
    let here : changed_where Silent test node ≡ node = cc in
    let rest : map (changed_where Silent test) nodes ≡ nodes = cc in
    let stays : test node ≡ false = elim (cases_Bool (test node)) [
      | inl falls ↦
          absurd (silent-unlike node node.down refl (and_parts (is_up node.down) _ falls).0
          (sym (cond-true (test node) (changed Silent node) node falls) ∙ here))
      | inr other ↦ other
    ] in
    or_from (test node) (list_any test nodes) stays (none-falls timeout now nodes rest)

abbrev pub IdlePasses : Type 0
IdlePasses = (s : State) (now : ℕ) → is_idle s now ≡ true → pass_after s now ≡ s

abbrev pub PassesIdle : Type 0
PassesIdle = (s : State) (now : ℕ) → pass_after s now ≡ s → is_idle s now ≡ true

pub idle_stays : IdlePasses → (s : State) (now : ℕ) → pass_is_idle s now ≡ true → after_pass s now ≡ s
idle_stays idle s now is =
    let each = and_parts (not (any_silent s now)) (is_idle (silenced s now) now) is in
    let none : any_silent s now ≡ false = elim (cases_Bool (any_silent s now)) [
      | inl some ↦ absurd (both_ways (not (any_silent s now)) (ap not some) each.0)
      | inr none ↦ none
    ] in
    idle (silenced s now) now each.1 ∙ silenced_none s now none

pub stays_idle : PassesIdle → (s : State) (now : ℕ) → after_pass s now ≡ s → pass_is_idle s now ≡ true
stays_idle idle s now same = elim (cases_Bool (any_silent s now)) [
  | inl some ↦
      let nodes : nodes_silenced s now ≡ s.nodes =
      ap (λ (t : State). t.nodes) (sym (silenced_some s now some)) ∙ ap (λ (t : State). t.nodes) same in
      absurd (both_ways (any_silent s now) (none-falls s.settings.slurmd_timeout now s.nodes nodes) some)
  | inr none ↦
      let passed : pass_after s now ≡ s = ap (λ t. pass_after t now) (sym (silenced_none s now none)) ∙ same in
      rw none (idle s now passed)
]
