-- Names lead back to the places of nodes and partitions.
use Rattle.std.proofs.Common.{ℕ, ◌≡◌, ◌≢◌, ◌∙◌, ◌+◌, ◌-◌, ◌<◌, ◌≤◌, zero, suc, cond, ltb, List, [], ◌∷◌, ◌++◌, map, length, All, AllPairs, Option, Some, None, bytes_eq, slice_get, refl, ap, sym, arith, inl, inr}
use Rattle.std.specs.Prelude.{filter_map, flat_map, is_none, option_map, unwrap_or}
use Rattle.std.specs.List.{cons_option, position}
use Rattle.std.proofs.lemmas.Bool.{cases_Bool, ltb-false, ltb-true}
use Rattle.std.proofs.lemmas.List.{length-map}
use Rattle.std.proofs.lemmas.List.Elements.{All-head, All-tail, filter_agree}
use Rattle.host_lists.specs.Hosts.{distinct}
use Rattle.plain_data.specs.declared.conf.NodeConf.{NodeConf}
use Rattle.plain_data.specs.declared.conf.PartConf.{PartConf}
use Rattle.node_state.specs.declared.record.NodeRecord.{NodeRecord}
use Rattle.node_state.specs.Nodes.{place_named}
use Rattle.node_state.specs.declared.partition_record.PartRecord.{PartRecord}
use Rattle.node_state.specs.Partitions.{place_meant}
use Rattle.job_table.specs.declared.record.Part.{Part}
use Rattle.backfill_planner.specs.declared.Placed.{Placed}
use Rattle.backfill_planner.specs.declared.Share.{Share}
use Rattle.saved_data.specs.declared.parts.SavedPlaced.{SavedPlaced}
use Rattle.saved_data.specs.declared.parts.SavedShare.{SavedShare}
use Rattle.ctl_saved.specs.Saving.{named_part, named_parts, partition_name, planned_name, saved_placed, saved_share, saved_shares}
use Rattle.ctl_restore.specs.Restored.{gone_names, planned_place, restored_part, restored_share, restored_shares, strangers}
use Rattle.saved_laws.specs.Kept.{AreGone, IsOnNodes, confs_of, without_states}
use Rattle.saved_laws.proofs.Named.{own_name}
use Rattle.saved_laws.proofs.Positions.{all_at, one_place, position_map, position_named, position_only, there}
use Rattle.ctl_reconfigure.proofs.NameLists.{bytes-same as same_name}

-- ---- nodes

-- a name leads to one place, whatever becomes of the nodes
pub same_places : (name : List ℕ) (one other : List NodeRecord) → confs_of one ≡ confs_of other
    → place_named name one ≡ place_named name other
same_places name one other same =
    sym (position_map (λ (conf : NodeConf). bytes_eq conf.name name) (λ (node : NodeRecord). node.conf) one)
    ∙ ap (position (λ (conf : NodeConf). bytes_eq conf.name name)) same
    ∙ position_map (λ (conf : NodeConf). bytes_eq conf.name name) (λ (node : NodeRecord). node.conf) other

-- the nodes differ in their names
abbrev pub NodesApart : List NodeRecord → Type 0
NodesApart nodes = AllPairs (λ (one other : NodeRecord). one.conf.name ≢ other.conf.name) nodes

-- the name of the node at a place leads back there
pub place_back : (opened nodes : List NodeRecord) → confs_of nodes ≡ confs_of opened → NodesApart nodes
    → (place : ℕ) (node : NodeRecord) → slice_get nodes place ≡ Some node
    → place_named node.conf.name opened ≡ Some place
place_back opened nodes same apart place node is =
    sym (same_places node.conf.name nodes opened same)
    ∙ position_named (λ (one : NodeRecord). one.conf.name) nodes apart place node is

-- the parts come back
pub parts_back : (opened nodes : List NodeRecord) → confs_of nodes ≡ confs_of opened → NodesApart nodes
    → (parts : List Part) → All (λ (part : Part). part.node < length nodes) parts
    → map (restored_part opened) (named_parts nodes parts) ≡ parts
unfolding named_parts
parts_back opened nodes same apart [] below = refl
parts_back opened nodes same apart (part ∷ parts) below =
    let Below : Part → Type 0 = λ part. part.node < length nodes in
    let at = there nodes part.node (All-head Below part parts below) in
    let back = place_back opened nodes same apart part.node at.0 at.1 in
    ap (λ (found : Option NodeRecord).
    map (restored_part opened) (cons_option (option_map (λ name. record { node = name; cpus = part.cpus; mem = part.mem })
    (option_map (λ (node : NodeRecord). node.conf.name) found)) (filter_map (named_part nodes) parts))) at.1
    ∙ ap (λ place. record part { node = unwrap_or place 0 } ∷ map (restored_part opened) (filter_map (named_part nodes) parts))
    back
    ∙ ap (λ later. part ∷ later) (parts_back opened nodes same apart parts (All-tail Below part parts below))

-- ---- a plan, which may name nodes that are gone

-- the name at a place of the nodes
pub named-there : (nodes : List NodeRecord) (gone : List (List ℕ)) (place : ℕ) (node : NodeRecord)
    → slice_get nodes place ≡ Some node → planned_name nodes gone place ≡ Some node.conf.name
named-there [] gone place node is = absurd (cc)
named-there (first ∷ nodes) gone zero node is =
    let same : first ≡ node = cc in
    ap (λ (one : NodeRecord). Some one.conf.name) same
named-there (first ∷ nodes) gone (suc place) node is = named-there nodes gone place node is

-- and at one behind them
pub named-behind : (nodes : List NodeRecord) (gone : List (List ℕ)) (place : ℕ)
    → planned_name nodes gone (length nodes + place) ≡ slice_get gone place
named-behind [] gone place =
    let same : 0 + place ≡ place = omega arith in
    ap (slice_get gone) same
named-behind (node ∷ nodes) gone place =
    let same : length (node ∷ nodes) + place ≡ suc (length nodes + place) = omega arith in
    ap (planned_name (node ∷ nodes) gone) same ∙ named-behind nodes gone place

-- a name stands at its own place where each stands once
own-place : (gone : List (List ℕ)) → AllPairs (λ one other. one ≢ other) gone → (place : ℕ) (name : List ℕ)
    → slice_get gone place ≡ Some name → position (bytes_eq name) gone ≡ Some place
own-place gone once place name is =
    position_only (bytes_eq name) gone place name is (own_name name) (λ j other at same.
    let equal : name ≡ other = same_name name other same in
    one_place (λ (one other : List ℕ). one ≢ other) gone once j place other name at is (λ differ. differ (sym equal))
    (λ differ. differ equal))

-- the name at a place of a plan, and where it leads
record IsLedBack (opened nodes : List NodeRecord) (gone : List (List ℕ)) (place : ℕ) : Type 0 where
  name : List ℕ
  at : planned_name nodes gone place ≡ Some name
  back : planned_place opened gone name ≡ place

led-back : (opened nodes : List NodeRecord) → confs_of nodes ≡ confs_of opened → NodesApart nodes
    → (gone : List (List ℕ)) → AreGone nodes gone → (place : ℕ) → place < length nodes + length gone
    → IsLedBack opened nodes gone place
led-back opened nodes same apart gone are place below = elim (cases_Bool (ltb place (length nodes))) [
  | inl inside ↦
      let at = there nodes place (ltb-true place (length nodes) inside) in
      record {
        name = at.0.conf.name;
        at = named-there nodes gone place at.0 at.1;
        back = ap
            (λ (found : Option ℕ). unwrap_or found (length opened + unwrap_or (position (bytes_eq at.0.conf.name) gone) 0))
            (place_back opened nodes same apart place at.0 at.1);
      }
  | inr past ↦
      let behind : length nodes ≤ place = ltb-false place (length nodes) past in
      let k = place - length nodes in
      let is : length nodes + k ≡ place = omega (arith, behind) in
      let at = there gone k (omega (arith, below, behind)) in
      let count : length opened ≡ length nodes =
      sym (length-map opened (λ (node : NodeRecord). node.conf)) ∙ ap length (sym same)
      ∙ length-map nodes (λ (node : NodeRecord). node.conf) in
      let absent : place_named at.0 nodes ≡ None =
      all_at (λ (name : List ℕ). place_named name nodes ≡ None) gone k at.0 are.absent at.1 in
      record {
        name = at.0;
        at = ap (planned_name nodes gone) (sym is) ∙ named-behind nodes gone k ∙ at.1;
        back = ap (λ (found : Option ℕ). unwrap_or found (length opened + unwrap_or (position (bytes_eq at.0) gone) 0))
            (sym (same_places at.0 nodes opened same) ∙ absent)
            ∙ ap (λ (found : Option ℕ). length opened + unwrap_or found 0) (own-place gone are.once k at.0 at.1)
            ∙ ap (λ (many : ℕ). many + k) count
            ∙ is;
      }
]

-- so do the shares of a plan
pub shares_back : (opened nodes : List NodeRecord) → confs_of nodes ≡ confs_of opened → NodesApart nodes
    → (gone : List (List ℕ)) → AreGone nodes gone → (shares : List Share)
    → All (λ (share : Share). share.node < length nodes + length gone) shares
    → restored_shares opened gone (saved_shares nodes gone shares) ≡ shares
unfolding saved_shares restored_shares
shares_back opened nodes same apart gone are [] below = refl
shares_back opened nodes same apart gone are (share ∷ shares) below =
    let Below : Share → Type 0 = λ share. share.node < length nodes + length gone in
    let led = led-back opened nodes same apart gone are share.node (All-head Below share shares below) in
    ap (λ (found : Option (List ℕ)).
    map (restored_share opened gone) (cons_option (option_map (λ name.
    record { node = name; tasks = share.tasks; cpus = share.cpus; mem = share.mem }) found)
    (filter_map (saved_share nodes gone) shares))) led.at
    ∙ ap (λ (place : ℕ). record share { node = place }
    ∷ map (restored_share opened gone) (filter_map (saved_share nodes gone) shares)) led.back
    ∙ ap (λ later. share ∷ later)
    (shares_back opened nodes same apart gone are shares (All-tail Below share shares below))

strangers-same : (one other : List NodeRecord) → confs_of one ≡ confs_of other → (shares : List SavedShare)
    → strangers one shares ≡ strangers other shares
strangers-same one other same shares =
    filter_agree (λ name. is_none (place_named name one)) (λ name. is_none (place_named name other))
    (λ name. ap is_none (same_places name one other same)) (map (λ (share : SavedShare). share.node) shares)

-- the names in a plan that are no node's are the same, whatever becomes of the nodes
pub gone_same : (one other : List NodeRecord) → confs_of one ≡ confs_of other → (plan : List SavedPlaced)
    → gone_names one plan ≡ gone_names other plan
unfolding gone_names
gone_same one other same plan = ap distinct (each plan) where
  each : (plan : List SavedPlaced) → flat_map (λ (placed : SavedPlaced). strangers one placed.shares) plan
      ≡ flat_map (λ (placed : SavedPlaced). strangers other placed.shares) plan
  each [] = refl
  each (placed ∷ plan) =
      ap (λ names. names ++ flat_map (λ (placed : SavedPlaced). strangers one placed.shares) plan)
      (strangers-same one other same placed.shares)
      ∙ ap (λ later. strangers other placed.shares ++ later) (each plan)

no-strangers : (nodes : List NodeRecord) (gone : List (List ℕ)) → NodesApart nodes → (shares : List Share)
    → All (λ (share : Share). share.node < length nodes) shares → strangers nodes (saved_shares nodes gone shares) ≡ []
unfolding saved_shares
no-strangers nodes gone apart [] below = refl
no-strangers nodes gone apart (share ∷ shares) below =
    let Below : Share → Type 0 = λ share. share.node < length nodes in
    let at = there nodes share.node (All-head Below share shares below) in
    let name = at.0.conf.name in
    let rest = strangers nodes (filter_map (saved_share nodes gone) shares) in
    ap (λ (found : Option (List ℕ)).
    strangers nodes (cons_option (option_map (λ name.
    record { node = name; tasks = share.tasks; cpus = share.cpus; mem = share.mem }) found)
    (filter_map (saved_share nodes gone) shares))) (named-there nodes gone share.node at.0 at.1)
    ∙ ap (λ (found : Option ℕ). cond (is_none found) (name ∷ rest) rest)
    (place_back nodes nodes refl apart share.node at.0 at.1)
    ∙ no-strangers nodes gone apart shares (All-tail Below share shares below)

-- a plan on nodes that there are names none that is gone
pub none_gone : (nodes : List NodeRecord) (gone : List (List ℕ)) → NodesApart nodes → (plan : List Placed)
    → All (IsOnNodes (length nodes)) plan → gone_names nodes (map (saved_placed nodes gone) plan) ≡ []
unfolding gone_names
none_gone nodes gone apart plan there = ap distinct (each plan there) where
  each : (plan : List Placed) → All (IsOnNodes (length nodes)) plan
      → flat_map (λ (placed : SavedPlaced). strangers nodes placed.shares) (map (saved_placed nodes gone) plan) ≡ []
  each [] there = refl
  each (placed ∷ plan) there =
      let On : Placed → Type 0 = IsOnNodes (length nodes) in
      ap (λ names. names ++ flat_map (λ (placed : SavedPlaced). strangers nodes placed.shares)
      (map (saved_placed nodes gone) plan)) (no-strangers nodes gone apart placed.parts (All-head On placed plan there))
      ∙ each plan (All-tail On placed plan there)

-- ---- partitions

-- what slurm.conf says of the partitions
abbrev pub part_confs : List PartRecord → List PartConf
part_confs partitions = map (λ (partition : PartRecord). partition.conf) partitions

confs-stated : (partitions : List PartRecord) → part_confs (without_states partitions) ≡ part_confs partitions
confs-stated [] = refl
confs-stated (partition ∷ partitions) = ap (λ later. partition.conf ∷ later) (confs-stated partitions)

pub same_part_confs : (one other : List PartRecord) → without_states one ≡ without_states other
    → part_confs one ≡ part_confs other
same_part_confs one other same = sym (confs-stated one) ∙ ap part_confs same ∙ confs-stated other

abbrev pub PartitionsApart : List PartRecord → Type 0
PartitionsApart partitions = AllPairs (λ (one other : PartRecord). one.conf.name ≢ other.conf.name) partitions

-- the name of a partition leads back to its place
pub partition_back : (opened partitions : List PartRecord) → part_confs partitions ≡ part_confs opened
    → PartitionsApart partitions → (place : ℕ) (partition : PartRecord) → slice_get partitions place ≡ Some partition
    → place_meant (Some partition.conf.name) opened ≡ Some place
partition_back opened partitions same apart place partition is =
    let name = partition.conf.name in
    sym (position_map (λ (conf : PartConf). bytes_eq conf.name name) (λ (partition : PartRecord). partition.conf) opened)
    ∙ ap (position (λ (conf : PartConf). bytes_eq conf.name name)) (sym same)
    ∙ position_map (λ (conf : PartConf). bytes_eq conf.name name) (λ (partition : PartRecord). partition.conf) partitions
    ∙ position_named (λ (one : PartRecord). one.conf.name) partitions apart place partition is

-- so does that of the one at a place
pub partition_place_back : (opened partitions : List PartRecord) → part_confs partitions ≡ part_confs opened
    → PartitionsApart partitions → (place : ℕ) → place < length partitions
    → place_meant (Some (partition_name partitions place)) opened ≡ Some place
partition_place_back opened partitions same apart place below =
    let at = there partitions place below in
    ap (λ (found : Option PartRecord).
    place_meant (Some (unwrap_or (option_map (λ (partition : PartRecord). partition.conf.name) found) [])) opened) at.1
    ∙ partition_back opened partitions same apart place at.0 at.1
