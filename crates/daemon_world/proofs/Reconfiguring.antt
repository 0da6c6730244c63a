-- Another file leaves each node's side as it is, wherever the node stands then.
use Rattle.std.proofs.Common.{ℕ, ◌≡◌, ◌∙◌, Bool, true, false, List, map, position, Any, Option, Some, None, is_some, bytes_eq, refl, sym, ap, inl, inr, option_and_then, option_map, slice_get, unwrap_or}
use Rattle.std.specs.Option.{option_or}
use Rattle.std.proofs.lemmas.Bool.{and_parts, both_ways, cases_Bool}
use Rattle.plain_data.specs.Confs.{ConfView}
use Rattle.plain_data.specs.declared.conf.NodeConf.{NodeConf}
use Rattle.request_data.specs.declared.report.Heard.{Heard}
use Rattle.node_state.specs.declared.record.DroppedNode.{DroppedNode}
use Rattle.node_state.specs.declared.record.NodeRecord.{NodeRecord}
use Rattle.node_state.specs.Laws.{PlacesAreNamed}
use Rattle.node_state.specs.Nodes.{AreNamedOnce, is_named, is_up, place_named}
use Rattle.node_state.specs.Renewing.{come, dropped_named, node_named, staying}
use Rattle.job_table.specs.declared.record.JobRecord.{JobRecord}
use Rattle.job_table.specs.declared.record.Part.{Part}
use Rattle.ctl_state.specs.Planning.{is_at}
use Rattle.ctl_state.specs.Soundness.{is_up_at}
use Rattle.ctl_state.specs.State.{State}
use Rattle.ctl_reconfigure.specs.Names.{conf_names, new_place, node_names}
use Rattle.ctl_reconfigure.specs.Reconfiguring.{dropped_after, dropped_as, job_after, keeps_places, nodes_after, part_after, reconfigured}
use Rattle.ctl_nodes.specs.Updating.{is_set_down}
use Rattle.daemon_world.specs.Claims.{Claim, Holds, IsClaimed, IsHeldAt}
use Rattle.daemon_world.specs.Leaving.{LeavesNode, StaysHeld, WasEmptied}
use Rattle.daemon_world.specs.Together.{IsNoneGone, is_emptied, kept_at, kept_of, pair_dropped, pair_heard}
use Rattle.daemon_world.proofs.Dropping.{lacking_kept, left_of, none_kept}
use Rattle.daemon_world.proofs.LeftAlone.{kept_there}
use Rattle.daemon_world.proofs.Lists.{any_map, none_in}
use Rattle.daemon_world.proofs.Naming.{IsOld, come_of, has_is, moved_to, new_at, old_at, place_after, place_is, same_are}

-- ---- what is held

-- what was held at one place is held at another, where the parts that were there are now
held-moved : (s : State) (moment : ℕ) (file : ConfView) (place now : ℕ) (claim : Claim)
    → new_place (node_names s.nodes) (conf_names file.nodes) place ≡ now → IsHeldAt s.jobs place claim
    → IsHeldAt (reconfigured s moment file).jobs now claim
held-moved s moment file place now claim leads held =
    any_map (λ (job : JobRecord). Unit {0}) (Holds place claim) (Holds now claim) (job_after s file) s.jobs
    (λ job any holds. record { id = holds.id; number = holds.number; part = parts job holds.part }) (λ k d below. tt)
    held
  where
    parts : (job : JobRecord) → Any (IsClaimed place claim) job.parts
        → Any (IsClaimed now claim) (map (part_after s file) job.parts)
    parts job has =
        any_map (λ (part : Part). Unit {0}) (IsClaimed place claim) (IsClaimed now claim) (part_after s file) job.parts
        (λ part any is. (ap (new_place (node_names s.nodes) (conf_names file.nodes)) is.0 ∙ leads, is.1))
        (λ k d below. tt) has

-- a test of the node at a place
test-at : (test : NodeRecord → Bool) (nodes : List NodeRecord) (place : ℕ) (node : NodeRecord)
    → slice_get nodes place ≡ Some node → is_at test nodes place ≡ test node
test-at test nodes place node is = ap (λ (found : Option NodeRecord). unwrap_or (option_map test found) false) is

-- what is kept of a name, by what there was of it
gone-kept : (s : State) (name : List ℕ) (dropped : Option DroppedNode) → node_named name s.nodes ≡ None
    → dropped_named name s.dropped ≡ dropped → kept_of s name ≡ option_map pair_dropped dropped
gone-kept s name dropped none is =
    ap (kept_at s name) (none_in (is_named name) s.nodes none) ∙ ap (option_map pair_dropped) is

old-kept : (s : State) (name : List ℕ) (old : NodeRecord) → (was : IsOld name s.nodes old)
    → kept_of s name ≡ option_map pair_heard old.heard
old-kept s name old was =
    kept_there s name was.place was.there
    ∙ ap (λ (found : Option NodeRecord).
    option_map pair_heard (option_and_then (λ (node : NodeRecord). node.heard) found)) was.is

-- ---- a node of the new file

-- where it is up it was, or nothing was heard of it
held-by : PlacesAreNamed → (s : State) (moment : ℕ) (file : ConfView) (name : List ℕ) (now : ℕ) (conf : NodeConf)
    → place_named name (nodes_after s moment file) ≡ Some now → (old : Option NodeRecord)
    → node_named name s.nodes ≡ old
    → slice_get (nodes_after s moment file) now ≡ Some (come_of s.dropped moment name conf old)
    → is_up_at (nodes_after s moment file) now ≡ true → StaysHeld s (reconfigured s moment file) name now
held-by law s moment file name now conf there (Some old) found is up =
    let was = old_at law name s.nodes old found in
    let test = λ (node : NodeRecord). is_up node.down in
    inl (record {
      place = was.place;
      there = was.there;
      up = test-at test s.nodes was.place old was.is
          ∙ sym (test-at test (nodes_after s moment file) now (staying conf old) is) ∙ up;
      held = λ claim held. held-moved s moment file was.place now claim
          (moved_to name s.nodes (conf_names file.nodes) old now was (sym (place_after s moment file name) ∙ there))
          held;
    })
held-by law s moment file name now conf there None found is up =
    come-held (dropped_named name s.dropped) refl is
  where
    come-held : (dropped : Option DroppedNode) → dropped_named name s.dropped ≡ dropped
        → slice_get (nodes_after s moment file) now ≡ Some (come moment conf dropped)
        → StaysHeld s (reconfigured s moment file) name now
    come-held None none is = inr (inl (gone-kept s name None found none))
    come-held (Some dropped) gone is =
        absurd (both_ways false refl (sym (test-at (λ (node : NodeRecord). is_up node.down) (nodes_after s moment file)
        now (come moment conf (Some dropped)) is) ∙ up))

-- where it is emptied it was
emptied-by : PlacesAreNamed → (s : State) (moment : ℕ) (file : ConfView) (name : List ℕ) (now : ℕ) (conf : NodeConf)
    → (old : Option NodeRecord) → node_named name s.nodes ≡ old
    → slice_get (nodes_after s moment file) now ≡ Some (come_of s.dropped moment name conf old)
    → is_at is_emptied (nodes_after s moment file) now ≡ true → WasEmptied s name
emptied-by law s moment file name now conf (Some old) found is told =
    let was = old_at law name s.nodes old found in
    record {
      place = was.place;
      there = was.there;
      emptied = test-at is_emptied s.nodes was.place old was.is
          ∙ sym (test-at is_emptied (nodes_after s moment file) now (staying conf old) is) ∙ told;
    }
emptied-by law s moment file name now conf None found is told =
    let node = come moment conf (dropped_named name s.dropped) in
    absurd (come-full (dropped_named name s.dropped)
    (sym (test-at is_emptied (nodes_after s moment file) now node is) ∙ told))
  where
    come-full : (dropped : Option DroppedNode) → is_emptied (come moment conf dropped) ≡ true → ⊥
    come-full None told =
        both_ways false refl (and_parts (is_set_down (come moment conf None).down) false told).1
    come-full (Some dropped) told =
        both_ways false refl (and_parts (is_set_down (come moment conf (Some dropped)).down) false told).1

-- its pair is what was kept of it
kept-by : PlacesAreNamed → (s : State) (moment : ℕ) (name : List ℕ) (conf : NodeConf) (old : Option NodeRecord)
    → node_named name s.nodes ≡ old
    → option_map pair_heard (come_of s.dropped moment name conf old).heard ≡ kept_of s name
kept-by law s moment name conf (Some old) found = sym (old-kept s name old (old_at law name s.nodes old found))
kept-by law s moment name conf None found = come-kept (dropped_named name s.dropped) refl
  where
    come-kept : (dropped : Option DroppedNode) → dropped_named name s.dropped ≡ dropped
        → option_map pair_heard (come moment conf dropped).heard ≡ kept_of s name
    come-kept None none = sym (gone-kept s name None found none)
    come-kept (Some dropped) gone = sym (gone-kept s name (Some dropped) found gone)

kept-staying : PlacesAreNamed → (s : State) (moment : ℕ) (file : ConfView) (name : List ℕ) (now : ℕ)
    → place_named name (nodes_after s moment file) ≡ Some now
    → kept_of (reconfigured s moment file) name ≡ kept_of s name
kept-staying law s moment file name now there =
    let new = new_at law s moment file name now there in
    kept_there (reconfigured s moment file) name now there
    ∙ ap (λ (found : Option NodeRecord).
    option_map pair_heard (option_and_then (λ (node : NodeRecord). node.heard) found)) new.is
    ∙ kept-by law s moment name new.conf (node_named name s.nodes) refl

-- ---- a name that the new file lacks

-- where all places stay, the names are the same
same-place : (s : State) (moment : ℕ) (file : ConfView) (name : List ℕ) → keeps_places s file ≡ true
    → place_named name (nodes_after s moment file) ≡ place_named name s.nodes
same-place s moment file name same =
    place_after s moment file name
    ∙ ap (position (bytes_eq name)) (sym (same_are (node_names s.nodes) (conf_names file.nodes) same))
    ∙ sym (place_is name s.nodes)

same-dropped : (s : State) (file : ConfView) → keeps_places s file ≡ true → dropped_after s file ≡ s.dropped
same-dropped s file same = rw same refl

-- a node that goes leaves its pair, and one that went keeps it
pair-left : (name : List ℕ) (heard : Option Heard)
    → option_map pair_dropped (dropped_as name heard) ≡ option_map pair_heard heard
pair-left name None = refl
pair-left name (Some heard) = refl

or-none : (found : Option DroppedNode) → option_or found None ≡ found
or-none None = refl
or-none (Some one) = refl

lacking-by : PlacesAreNamed → (s : State) (name : List ℕ) → IsNoneGone s name → (old : Option NodeRecord)
    → node_named name s.nodes ≡ old
    → option_map pair_dropped (option_or (dropped_named name s.dropped) (left_of old)) ≡ kept_of s name
lacking-by law s name apart (Some old) found =
    let was = old_at law name s.nodes old found in
    ap (λ (kept : Option DroppedNode). option_map pair_dropped (option_or kept (left_of (Some old))))
    (apart was.place was.there)
    ∙ pair-left old.conf.name old.heard ∙ sym (old-kept s name old was)
lacking-by law s name apart None found =
    ap (option_map pair_dropped) (or-none (dropped_named name s.dropped))
    ∙ sym (gone-kept s name (dropped_named name s.dropped) found refl)

kept-lacking : PlacesAreNamed → (s : State) (moment : ℕ) (file : ConfView) (name : List ℕ) → AreNamedOnce s.nodes
    → IsNoneGone s name → place_named name (nodes_after s moment file) ≡ None
    → option_map pair_dropped (dropped_named name (dropped_after s file)) ≡ kept_of s name
kept-lacking law s moment file name once apart nowhere = elim (cases_Bool (keeps_places s file)) [
  | inl same ↦
      ap (λ kept. option_map pair_dropped (dropped_named name kept)) (same-dropped s file same)
      ∙ sym (ap (kept_at s name) (sym (same-place s moment file name same) ∙ nowhere))
  | inr moves ↦
      let lacks = has_is s moment file name ∙ ap is_some nowhere in
      ap (option_map pair_dropped) (lacking_kept s file name moves once lacks)
      ∙ lacking-by law s name apart (node_named name s.nodes) refl
]

-- ---- all together

kept-on : PlacesAreNamed → (s : State) (moment : ℕ) (file : ConfView) (name : List ℕ) → AreNamedOnce s.nodes
    → IsNoneGone s name → (found : Option ℕ) → place_named name (nodes_after s moment file) ≡ found
    → kept_of (reconfigured s moment file) name ≡ kept_of s name
kept-on law s moment file name once apart (Some now) there = kept-staying law s moment file name now there
kept-on law s moment file name once apart None nowhere =
    ap (kept_at (reconfigured s moment file) name) nowhere ∙ kept-lacking law s moment file name once apart nowhere

apart-on : (s : State) (moment : ℕ) (file : ConfView) (name : List ℕ) (now : ℕ) → IsNoneGone s name
    → place_named name (nodes_after s moment file) ≡ Some now
    → dropped_named name (dropped_after s file) ≡ None
apart-on s moment file name now apart there = elim (cases_Bool (keeps_places s file)) [
  | inl same ↦
      ap (dropped_named name) (same-dropped s file same)
      ∙ apart now (sym (same-place s moment file name same) ∙ there)
  | inr moves ↦ none_kept s file name moves (has_is s moment file name ∙ ap is_some there)
]

pub reconfigured_leaves : PlacesAreNamed → (s : State) (moment : ℕ) (file : ConfView) (name : List ℕ)
    → AreNamedOnce s.nodes → IsNoneGone s name → LeavesNode s (reconfigured s moment file) name
reconfigured_leaves law s moment file name once apart = record {
  apart = λ was now there. apart-on s moment file name now was there;
  kept = kept-on law s moment file name once apart (place_named name (nodes_after s moment file)) refl;
  held = λ now there up.
      let new = new_at law s moment file name now there in
      held-by law s moment file name now new.conf there (node_named name s.nodes) refl new.is up;
  emptied = λ now there told.
      let new = new_at law s moment file name now there in
      emptied-by law s moment file name now new.conf (node_named name s.nodes) refl new.is told;
}
