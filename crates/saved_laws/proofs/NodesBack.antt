-- Nodes and partitions come back.
use Rattle.std.proofs.Common.{◌≡◌, ◌∙◌, List, [], ◌∷◌, map, All, Some, bytes_eq, refl, ap, sym}
use Rattle.std.specs.Prelude.{find}
use Rattle.std.proofs.lemmas.List.Elements.{All-head, All-tail}
use Rattle.plain_data.specs.declared.conf.NodeConf.{NodeConf}
use Rattle.plain_data.specs.declared.conf.PartState.TheVariants.{Up}
use Rattle.node_state.specs.declared.record.NodeRecord.{NodeRecord}
use Rattle.node_state.specs.declared.partition_record.PartRecord.{PartRecord}
use Rattle.node_state.specs.Partitions.{in_state}
use Rattle.saved_data.specs.declared.parts.SavedNode.{SavedNode}
use Rattle.saved_data.specs.declared.parts.SavedPartition.{SavedPartition}
use Rattle.ctl_saved.specs.Saving.{saved_node, saved_partition}
use Rattle.ctl_restore.specs.Restored.{in_saved_state, restored_node, restored_partition, standing_as}

-- the node's line is found by its name
abbrev pub IsNodeFound : List SavedNode → NodeRecord → Type 0
IsNodeFound lines node =
    find (λ (line : SavedNode). bytes_eq line.name node.conf.name) lines ≡ Some (saved_node node)

node-back : (lines : List SavedNode) (one node : NodeRecord) → node.conf ≡ one.conf → IsNodeFound lines node
    → restored_node lines one ≡ node
node-back lines one node same found =
    ap (λ (conf : NodeConf). standing_as one (find (λ (line : SavedNode). bytes_eq line.name conf.name) lines)) (sym same)
    ∙ ap (standing_as one) found
    ∙ ap (λ (conf : NodeConf). record node { conf = conf }) (sym same)

pub nodes_back : (lines : List SavedNode) (opened nodes : List NodeRecord)
    → map (λ (node : NodeRecord). node.conf) nodes ≡ map (λ (node : NodeRecord). node.conf) opened
    → All (IsNodeFound lines) nodes → map (restored_node lines) opened ≡ nodes
nodes_back lines [] [] same found = refl
nodes_back lines [] (node ∷ nodes) same found = absurd (cc)
nodes_back lines (one ∷ others) [] same found = absurd (cc)
nodes_back lines (one ∷ others) (node ∷ nodes) same found =
    let first : node.conf ≡ one.conf = cc in
    let later : map (λ (node : NodeRecord). node.conf) nodes ≡ map (λ (node : NodeRecord). node.conf) others = cc in
    ap (λ back. back ∷ map (restored_node lines) others)
    (node-back lines one node first (All-head (IsNodeFound lines) node nodes found))
    ∙ ap (λ back. node ∷ back)
    (nodes_back lines others nodes later (All-tail (IsNodeFound lines) node nodes found))

abbrev pub IsPartitionFound : List SavedPartition → PartRecord → Type 0
IsPartitionFound lines partition =
    find (λ (line : SavedPartition). bytes_eq line.name partition.conf.name) lines ≡ Some (saved_partition partition)

partition-back : (lines : List SavedPartition) (one partition : PartRecord) → in_state Up partition ≡ in_state Up one
    → IsPartitionFound lines partition → restored_partition lines one ≡ partition
partition-back lines one partition same found =
    ap (λ (other : PartRecord).
    in_saved_state one (find (λ (line : SavedPartition). bytes_eq line.name other.conf.name) lines)) (sym same)
    ∙ ap (in_saved_state one) found
    ∙ ap (in_state partition.state) (sym same)

pub partitions_back : (lines : List SavedPartition) (opened partitions : List PartRecord)
    → map (in_state Up) partitions ≡ map (in_state Up) opened
    → All (IsPartitionFound lines) partitions → map (restored_partition lines) opened ≡ partitions
partitions_back lines [] [] same found = refl
partitions_back lines [] (partition ∷ partitions) same found = absurd (cc)
partitions_back lines (one ∷ others) [] same found = absurd (cc)
partitions_back lines (one ∷ others) (partition ∷ partitions) same found =
    let first : in_state Up partition ≡ in_state Up one = cc in
    let later : map (in_state Up) partitions ≡ map (in_state Up) others = cc in
    ap (λ back. back ∷ map (restored_partition lines) others)
    (partition-back lines one partition first (All-head (IsPartitionFound lines) partition partitions found))
    ∙ ap (λ back. partition ∷ back)
    (partitions_back lines others partitions later (All-tail (IsPartitionFound lines) partition partitions found))
