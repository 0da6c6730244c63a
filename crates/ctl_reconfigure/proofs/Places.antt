-- Nodes that a new file names: those that stay, at their new places.
use Rattle.std.proofs.Common.{◌≡◌, ◌≢◌, ℕ, ◌+◌, ◌<◌, ◌≤◌, Bool, true, false, cond, ltb, List, [], ◌∷◌, length, map, get_or, All, AllPairs, Option, Some, None, bytes_eq, refl, sym, ap, ◌∙◌, arith, inl, inr}
use Rattle.std.specs.Prelude.{slice_get}
use Rattle.std.proofs.lemmas.List.{length-map, get_or-map}
use Rattle.std.proofs.lemmas.List.Elements.{All-map}
use Rattle.std.specs.List.{position_or_len}
use Rattle.std.proofs.lemmas.Bool.{cases_Bool}
use Rattle.std.proofs.lemmas.Grind.{common_steps}
use Rattle.std.proofs.lemmas.List.Sums.{position_or_len_is}
use Rattle.std.proofs.lemmas.Option.{get_or_from_slice_get}
use Rattle.plain_data.specs.Confs.{ConfView}
use Rattle.plain_data.specs.declared.conf.NodeConf.{NodeConf}
use Rattle.node_state.specs.declared.record.DroppedNode.{DroppedNode}
use Rattle.node_state.specs.declared.record.NodeRecord.{NodeRecord}
use Rattle.node_state.specs.Nodes.{AreNamedOnce, is_named, place_named}
use Rattle.node_state.specs.Renewing.{come, dropped_named, node_named, renewed, renewed_from, staying}
use Rattle.ctl_state.specs.Planning.{is_at, room_of}
use Rattle.ctl_state.specs.Soundness.{AreNodes, IsNode, is_up_at}
use Rattle.ctl_state.specs.State.{State}
use Rattle.ctl_reconfigure.specs.Files.{IsFile, IsNodeConf}
use Rattle.ctl_reconfigure.specs.Names.{conf_names, new_place, node_names, place_of}
use Rattle.ctl_reconfigure.specs.Reconfiguring.{nodes_after}
use Rattle.ctl_reconfigure.proofs.NameLists.{AreApart, leads-to, same-bytes, bytes-same}
use Rattle.ctl_reconfigure.proofs.Unblocked.{HasLine, mapped-at, name-at}

-- ---- a node has its new line

conf-come : (moment : ℕ) (line : NodeConf) (dropped : Option DroppedNode) → (come moment line dropped).conf ≡ line
conf-come moment line None = refl
conf-come moment line (Some one) = refl

conf-from : (dropped : List DroppedNode) (moment : ℕ) (line : NodeConf) (found : Option NodeRecord)
    → (renewed_from dropped moment line found).conf ≡ line
conf-from dropped moment line None = conf-come moment line (dropped_named line.name dropped)
conf-from dropped moment line (Some node) = refl

pub conf-renewed : (s : State) (moment : ℕ) (line : NodeConf) → (renewed s.nodes s.dropped moment line).conf ≡ line
conf-renewed s moment line = conf-from s.dropped moment line (node_named line.name s.nodes)

names-of : (f : NodeConf → NodeRecord) → ((line : NodeConf) → (f line).conf ≡ line) → (lines : List NodeConf)
    → node_names (map f lines) ≡ conf_names lines
names-of f is [] = refl
names-of f is (line ∷ lines) =
    ap (λ (conf : NodeConf). conf.name ∷ node_names (map f lines)) (is line) ∙ ap (λ names. line.name ∷ names) (names-of f is lines)

pub names-after : (s : State) (moment : ℕ) (conf : ConfView)
    → node_names (nodes_after s moment conf) ≡ conf_names conf.nodes
names-after s moment conf = names-of (renewed s.nodes s.dropped moment) (conf-renewed s moment) conf.nodes

pub confs-after : (s : State) (moment : ℕ) (lines : List NodeConf)
    → map (λ (node : NodeRecord). node.conf) (map (renewed s.nodes s.dropped moment) lines) ≡ lines
confs-after s moment [] = refl
confs-after s moment (line ∷ lines) =
    ap (λ (conf : NodeConf). conf ∷ map (λ (node : NodeRecord). node.conf) (map (renewed s.nodes s.dropped moment) lines))
    (conf-renewed s moment line) ∙ ap (λ rest. line ∷ rest) (confs-after s moment lines)

-- ---- all of them

pub nodes-sound : (s : State) (moment : ℕ) (conf : ConfView) → IsFile conf → AreNodes (nodes_after s moment conf)
nodes-sound s moment conf file = record {
  named = record {
    few = rw (length-map conf.nodes (renewed s.nodes s.dropped moment)) file.whole.few_nodes;
    once = λ i j d before inside.
        let make = renewed s.nodes s.dropped moment in
        let within : j < length conf.nodes = rw (length-map conf.nodes make) at inside in
        let one : (get_or (map make conf.nodes) i d).conf ≡ get_or conf.nodes i d.conf =
        ap (λ (node : NodeRecord). node.conf) (get_or-map make conf.nodes i d.conf d (omega (arith, before, within)))
        ∙ conf-renewed s moment (get_or conf.nodes i d.conf) in
        let other : (get_or (map make conf.nodes) j d).conf ≡ get_or conf.nodes j d.conf =
        ap (λ (node : NodeRecord). node.conf) (get_or-map make conf.nodes j d.conf d within)
        ∙ conf-renewed s moment (get_or conf.nodes j d.conf) in
        rw (one, other) (file.whole.nodes_once i j d.conf before within);
  };
  each = All-map IsNode (renewed s.nodes s.dropped moment) conf.nodes
      (λ k d below. in-ranges (get_or conf.nodes k d) (file.nodes k d below));
}
  where
    in-ranges : (line : NodeConf) → IsNodeConf line → IsNode (renewed s.nodes s.dropped moment line)
    in-ranges line ranges = record {
      cpus = rw (conf-renewed s moment line) ranges.cpus;
      mem = rw (conf-renewed s moment line) ranges.mem;
    }

-- ---- a name finds its node

other : (one next : List ℕ) → (one ≡ next → ⊥) → bytes_eq one next ≡ false
other one next differ = elim (cases_Bool (bytes_eq one next)) [
  | inl same ↦ absurd (differ (bytes-same one next same))
  | inr not-same ↦ not-same
]

first : (nodes : List NodeRecord) (place : ℕ) (node : NodeRecord) → AreNamedOnce nodes → place < length nodes
    → slice_get nodes place ≡ Some node → position_or_len (is_named node.conf.name) nodes ≡ place
first nodes place node once inside at =
    let is : get_or nodes place node ≡ node = get_or_from_slice_get nodes place node node at in
    position_or_len_is (is_named node.conf.name) nodes place node (omega (arith, inside))
    (λ k before. other (get_or nodes k node).conf.name node.conf.name
    (λ same. once.once k place node before inside (rw is same)))
    (λ within. rw is (same-bytes node.conf.name node.conf.name refl))

pub leads-itself : (nodes : List NodeRecord) (place : ℕ) (node : NodeRecord) → AreNamedOnce nodes
    → place < length nodes → slice_get nodes place ≡ Some node → place_named node.conf.name nodes ≡ Some place
leads-itself nodes place node once inside at =
    place-of (position_or_len (is_named node.conf.name) nodes) (length nodes) (first nodes place node once inside at) inside
  where
    place-of : (n m : ℕ) → n ≡ place → place < m → cond (ltb n m) (Some n) None ≡ Some place
    place-of n m is below = grind (arith, common_steps)

pub named-itself : (nodes : List NodeRecord) (place : ℕ) (node : NodeRecord) → AreNamedOnce nodes
    → place < length nodes → slice_get nodes place ≡ Some node → node_named node.conf.name nodes ≡ Some node
named-itself nodes place node once inside at = rw (leads-itself nodes place node once inside at) at

-- ---- those that stay

pub apart-names : (nodes : List NodeRecord) → AreNamedOnce nodes → AreApart (node_names nodes)
apart-names nodes once i j d before inside =
    let name : NodeRecord → List ℕ = λ node. node.conf.name in
    let within : j < length nodes = rw (length-map nodes name) at inside in
    at nodes once i j d before within
  where
    at : (nodes : List NodeRecord) → AreNamedOnce nodes → (i j : ℕ) (d : List ℕ) → i < j → j < length nodes
        → get_or (node_names nodes) i d ≢ get_or (node_names nodes) j d
    at [] once i j d before within = absurd (omega (arith, within))
    at (first ∷ later) once i j d before within =
        let name : NodeRecord → List ℕ = λ node. node.conf.name in
        rw (
          get_or-map name (first ∷ later) i first d (omega (arith, before, within)),
          get_or-map name (first ∷ later) j first d within,
        )
        (once.once i j first before within)

-- the place where a name stood
pub old_place : State → ConfView → ℕ → ℕ
old_place s conf place = place_of (node_names s.nodes) (get_or (conf_names conf.nodes) place [])

-- its new place leads back to a node's place
pub leads-back : (s : State) (conf : ConfView) (place : ℕ) → AreNamedOnce s.nodes → place < length s.nodes
    → HasLine s conf place
    → old_place s conf (new_place (node_names s.nodes) (conf_names conf.nodes) place) ≡ place
unfolding old_place
leads-back s conf place once inside line =
    let names = node_names s.nodes in
    let now = new_place names (conf_names conf.nodes) place in
    let name : NodeRecord → List ℕ = λ node. node.conf.name in
    let here : get_or names place [] ≡ line.node.conf.name = name-at name s.nodes place line.node line.was in
    let there : get_or (conf_names conf.nodes) now [] ≡ get_or names place [] =
    name-at (λ (line : NodeConf). line.name) conf.nodes now line.line line.is ∙ line.name ∙ sym here in
    rw (there, leads-to names place (apart-names s.nodes once) (rw (length-map s.nodes name) inside)) refl

-- the node stands as it stood
pub stays-as : (s : State) (moment : ℕ) (conf : ConfView) (place : ℕ) → AreNamedOnce s.nodes → place < length s.nodes
    → (line : HasLine s conf place)
    → slice_get (nodes_after s moment conf) (new_place (node_names s.nodes) (conf_names conf.nodes) place)
    ≡ Some (staying line.line line.node)
stays-as s moment conf place once inside line =
    let now = new_place (node_names s.nodes) (conf_names conf.nodes) place in
    let found : node_named line.line.name s.nodes ≡ Some line.node =
    rw line.name (named-itself s.nodes place line.node once inside line.was) in
    mapped-at (renewed s.nodes s.dropped moment) conf.nodes now line.line line.is
    ∙ ap (λ found. Some (renewed_from s.dropped moment line.line found)) found
