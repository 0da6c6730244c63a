-- What is named, and where a list of names has it.
use Rattle.std.specs.Prelude.{ℕ, Bool, if◌then◌else◌, unwrap_or, List, map, position, bytes_eq, slice_index}
use Rattle.std.specs.Cmp.Lexicographic.{pointwise}
use Rattle.plain_data.specs.declared.conf.PartConf.{PartConf}
use Rattle.node_state.specs.declared.record.NodeRecord.{NodeRecord}
use Rattle.node_state.specs.declared.partition_record.PartRecord.{PartRecord}
pub use Rattle.plain_data.specs.Confs.{node_names as conf_names}

-- the names of the nodes, in their order
abbrev pub node_names : List NodeRecord → List (List ℕ)
node_names nodes = map (λ (node : NodeRecord). node.conf.name) nodes

-- the names of the partitions, in their order, and those of the lines of a file
abbrev pub partition_names : List PartRecord → List (List ℕ)
partition_names partitions = map (λ (partition : PartRecord). partition.conf.name) partitions

abbrev pub line_names : List PartConf → List (List ℕ)
line_names partitions = map (λ (partition : PartConf). partition.name) partitions

-- the same names in the same order
abbrev pub same_names : List (List ℕ) → List (List ℕ) → Bool
same_names one other = pointwise bytes_eq one other

-- the place of a name among the names; the first one where it isn't among them
abbrev pub place_of : List (List ℕ) → List ℕ → ℕ
place_of names name = unwrap_or (position (bytes_eq name) names) 0

-- for each of the names before, its place now
abbrev pub places_of : List (List ℕ) → List (List ℕ) → List ℕ
places_of before now = map (place_of now) before

-- The place now of what was at a place. Where all names stand as they stood it is the same one.
abbrev pub new_place : List (List ℕ) → List (List ℕ) → ℕ → ℕ
new_place before now place = if same_names before now then place else slice_index (places_of before now) place
