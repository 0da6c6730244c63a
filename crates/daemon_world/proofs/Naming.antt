-- The nodes of another file by their names: where a name leads, and which nodes are behind it, before and after.
use Rattle.std.proofs.Common.{ℕ, zero, suc, ◌≡◌, ◌<◌, ◌+◌, ◌∙◌, Bool, true, false, not, cond, List, [], ◌∷◌, map, length, position, HoldsAt, Option, Some, None, is_some, bytes_eq, refl, sym, ap, ap₂, arith, option_map, slice_get, slice_index, unwrap_or}
use Rattle.std.specs.Prelude.{nat_lt}
use Rattle.std.specs.List.{prefix_len}
use Rattle.std.proofs.lemmas.Bool.{both_ways, cond_both}
use Rattle.std.proofs.lemmas.List.{length-map}
use Rattle.std.proofs.lemmas.Option.{get_or_from_slice_get, slice_get-map}
use Rattle.std.proofs.lemmas.Slice.Eq.{bytes_eq-Decides, slice_eq-Decides}
use Rattle.plain_data.specs.Confs.{ConfView}
use Rattle.plain_data.specs.declared.conf.NodeConf.{NodeConf}
use Rattle.node_state.specs.declared.record.DroppedNode.{DroppedNode}
use Rattle.node_state.specs.declared.record.NodeRecord.{NodeRecord}
use Rattle.node_state.specs.Laws.{PlacesAreNamed}
use Rattle.node_state.specs.Nodes.{is_named, place_named}
use Rattle.node_state.specs.Renewing.{come, dropped_named, node_named, renewed, renewed_from, staying}
use Rattle.node_state.specs.Reservations.{has}
use Rattle.ctl_state.specs.State.{State}
use Rattle.ctl_reconfigure.specs.Names.{conf_names, new_place, node_names, place_of, places_of, same_names}
use Rattle.ctl_reconfigure.specs.Reconfiguring.{nodes_after}
use Rattle.daemon_world.proofs.Lists.{any_is, found_in}
use Rattle.ctl_reconfigure.proofs.NameLists.{bytes-same as same_name, same-bytes as named}

-- ---- names and places

turned : (one other : List ℕ) → bytes_eq one other ≡ bytes_eq other one
turned one other = by (bytes_eq one other) (bytes_eq other one) refl refl
  where
    by : (there back : Bool) → bytes_eq one other ≡ there → bytes_eq other one ≡ back → there ≡ back
    by true true first second = refl
    by false false first second = refl
    by true false first second =
        absurd (both_ways (bytes_eq other one) second (named other one (sym (same_name one other first))))
    by false true first second =
        absurd (both_ways (bytes_eq one other) first (named one other (sym (same_name other one second))))

-- a name is first where the list of names has it first
prefix-names : {X : Type 0} (name_of : X → List ℕ) (name : List ℕ) (xs : List X)
    → prefix_len (λ x. not (bytes_eq (name_of x) name)) xs
    ≡ prefix_len (λ one. not (bytes_eq name one)) (map name_of xs)
prefix-names name_of name [] = refl
prefix-names name_of name (x ∷ later) =
    ap₂ (λ b n. cond (not b) (1 + n) 0) (turned (name_of x) name) (prefix-names name_of name later)

pub first_named : {X : Type 0} (name_of : X → List ℕ) (name : List ℕ) (xs : List X)
    → position (λ x. bytes_eq (name_of x) name) xs ≡ position (bytes_eq name) (map name_of xs)
first_named name_of name xs =
    ap₂ (λ n count. cond (nat_lt n count) (Some n) None) (prefix-names name_of name xs)
    (sym (length-map xs name_of))

pub place_is : (name : List ℕ) (nodes : List NodeRecord)
    → place_named name nodes ≡ position (bytes_eq name) (node_names nodes)
place_is name nodes = first_named (λ (node : NodeRecord). node.conf.name) name nodes

-- ---- the nodes of the new file

renewed-conf : (nodes : List NodeRecord) (dropped : List DroppedNode) (moment : ℕ) (conf : NodeConf)
    → (renewed nodes dropped moment conf).conf ≡ conf
renewed-conf nodes dropped moment conf = by (node_named conf.name nodes)
  where
    came : (found : Option DroppedNode) → (come moment conf found).conf ≡ conf
    came None = refl
    came (Some one) = refl

    by : (old : Option NodeRecord) → (renewed_from dropped moment conf old).conf ≡ conf
    by None = came (dropped_named conf.name dropped)
    by (Some old) = refl

-- they have the names of the file
names-after : (nodes : List NodeRecord) (dropped : List DroppedNode) (moment : ℕ) (confs : List NodeConf)
    → node_names (map (renewed nodes dropped moment) confs) ≡ conf_names confs
names-after nodes dropped moment [] = refl
names-after nodes dropped moment (conf ∷ later) =
    ap₂ (λ (one : NodeConf) (rest : List (List ℕ)). one.name ∷ rest) (renewed-conf nodes dropped moment conf)
    (names-after nodes dropped moment later)

pub place_after : (s : State) (moment : ℕ) (file : ConfView) (name : List ℕ)
    → place_named name (nodes_after s moment file) ≡ position (bytes_eq name) (conf_names file.nodes)
place_after s moment file name =
    place_is name (nodes_after s moment file)
    ∙ ap (position (bytes_eq name)) (names-after s.nodes s.dropped moment file.nodes)

-- the file has the names that lead to nodes
pub has_is : (s : State) (moment : ℕ) (file : ConfView) (name : List ℕ)
    → has (conf_names file.nodes) name ≡ is_some (place_named name (nodes_after s moment file))
has_is s moment file name =
    any_is (bytes_eq name) (conf_names file.nodes) ∙ ap is_some (sym (place_after s moment file name))

-- what a name comes to, by what there was of it
abbrev pub come_of : List DroppedNode → ℕ → List ℕ → NodeConf → Option NodeRecord → NodeRecord
come_of dropped moment name conf None = come moment conf (dropped_named name dropped)
come_of dropped moment name conf (Some old) = staying conf old

-- the node at the place is what the name comes to
pub record IsNew (s : State) (moment : ℕ) (file : ConfView) (name : List ℕ) (place : ℕ) : Type 0 where
  pub conf : NodeConf
  pub is : slice_get (nodes_after s moment file) place
      ≡ Some (come_of s.dropped moment name conf (node_named name s.nodes))

record IsOfLine (nodes : List NodeRecord) (dropped : List DroppedNode) (moment : ℕ) (name : List ℕ)
    (confs : List NodeConf) (place : ℕ) : Type 0 where
  pub conf : NodeConf
  pub is : slice_get (map (renewed nodes dropped moment) confs) place ≡ Some (renewed nodes dropped moment conf)
  pub named : conf.name ≡ name

of-line : (nodes : List NodeRecord) (dropped : List DroppedNode) (moment : ℕ) (name : List ℕ)
    (confs : List NodeConf) (place : ℕ) → place < length (map (renewed nodes dropped moment) confs)
    → HoldsAt (λ (node : NodeRecord). node.conf.name ≡ name) (map (renewed nodes dropped moment) confs) place
    → IsOfLine nodes dropped moment name confs place
of-line nodes dropped moment name [] place below is = absurd (omega (arith, below))
of-line nodes dropped moment name (conf ∷ later) zero below is = record {
  conf = conf;
  is = refl;
  named = ap (λ (one : NodeConf). one.name) (sym (renewed-conf nodes dropped moment conf))
      ∙ is (renewed nodes dropped moment conf);
}
of-line nodes dropped moment name (conf ∷ later) (suc place) below is =
    let line = of-line nodes dropped moment name later place (omega (arith, below)) is in
    record { conf = line.conf; is = line.is; named = line.named }

renewed-named : (nodes : List NodeRecord) (dropped : List DroppedNode) (moment : ℕ) (name : List ℕ) (conf : NodeConf)
    → conf.name ≡ name
    → renewed nodes dropped moment conf ≡ come_of dropped moment name conf (node_named name nodes)
renewed-named nodes dropped moment name conf is =
    by (node_named conf.name nodes)
    ∙ ap (λ (one : List ℕ). come_of dropped moment one conf (node_named one nodes)) is
  where
    by : (old : Option NodeRecord)
        → renewed_from dropped moment conf old ≡ come_of dropped moment conf.name conf old
    by None = refl
    by (Some old) = refl

pub new_at : PlacesAreNamed → (s : State) (moment : ℕ) (file : ConfView) (name : List ℕ) (place : ℕ)
    → place_named name (nodes_after s moment file) ≡ Some place → IsNew s moment file name place
new_at law s moment file name place there =
    let at = law name place (nodes_after s moment file) there in
    let line = of-line s.nodes s.dropped moment name file.nodes place at.0 at.1 in
    record {
      conf = line.conf;
      is = line.is ∙ ap Some (renewed-named s.nodes s.dropped moment name line.conf line.named);
    }

-- ---- the nodes before

-- this node has the name, and stands at the place to which it leads
pub record IsOld (name : List ℕ) (nodes : List NodeRecord) (old : NodeRecord) : Type 0 where
  pub place : ℕ
  pub there : place_named name nodes ≡ Some place
  pub is : slice_get nodes place ≡ Some old
  pub named : old.conf.name ≡ name

pub old_at : PlacesAreNamed → (name : List ℕ) (nodes : List NodeRecord) (old : NodeRecord)
    → node_named name nodes ≡ Some old → IsOld name nodes old
old_at law name nodes old found =
    let at = found_in (is_named name) nodes old found in
    record {
      place = at.place;
      there = at.first;
      is = at.is;
      named = ap (λ (node : NodeRecord). node.conf.name) (sym (get_or_from_slice_get nodes at.place old old at.is))
          ∙ (law name at.place nodes at.first).1 old;
    }

-- ---- the new place of a node

pub same_are : (before now : List (List ℕ)) → same_names before now ≡ true → before ≡ now
same_are before now is = (slice_eq-Decides bytes_eq-Decides before now (same_names before now) refl).0 is

-- what was at the place of a name is at the place where the name leads now
pub moved_to : (name : List ℕ) (nodes : List NodeRecord) (names : List (List ℕ)) (old : NodeRecord) (now : ℕ)
    → (was : IsOld name nodes old) → position (bytes_eq name) names ≡ Some now
    → new_place (node_names nodes) names was.place ≡ now
moved_to name nodes names old now was leads =
    cond_both (same_names (node_names nodes) names) was.place
    (slice_index (places_of (node_names nodes) names) was.place) (λ (place : ℕ). place ≡ now)
    (λ same. same-place (sym was.there ∙ place_is name nodes
    ∙ ap (position (bytes_eq name)) (same_are (node_names nodes) names same) ∙ leads))
    (λ differ. get_or_from_slice_get (places_of (node_names nodes) names) was.place
    (place_of names old.conf.name) 0 listed
    ∙ ap (place_of names) was.named ∙ ap (λ (found : Option ℕ). unwrap_or found 0) leads)
  where
    same-place : Some was.place ≡ Some now → was.place ≡ now
    same-place both = cc

    listed : slice_get (places_of (node_names nodes) names) was.place ≡ Some (place_of names old.conf.name)
    listed =
        slice_get-map (place_of names) (node_names nodes) was.place
        ∙ ap (option_map (place_of names)) (slice_get-map (λ (node : NodeRecord). node.conf.name) nodes was.place)
        ∙ ap (λ (found : Option NodeRecord).
        option_map (place_of names) (option_map (λ (node : NodeRecord). node.conf.name) found)) was.is
