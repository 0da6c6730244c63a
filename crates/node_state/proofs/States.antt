-- The partitions with one in another state.
use Rattle.std.proofs.Common.{◌≡◌, ℕ, zero, suc, ◌+◌, ◌<◌, Bool, cond, not, List, [], ◌∷◌, length, get_or, set, Option, Some, None, refl, ap, arith}
use Rattle.std.specs.List.{position_or_len}
use Rattle.std.proofs.lemmas.List.{length-map}
use Rattle.plain_data.specs.declared.conf.PartState.{PartState}
use Rattle.node_state.specs.declared.partition_record.PartRecord.{PartRecord}
use Rattle.node_state.specs.Partitions.{in_state, in_state_at, is_meant, IsOnNodes}
use Rattle.node_state.specs.PartitionLaws.{ConfsStay, NodesStay, OnNodesStays, PlacesStay}

-- the list with the partition set in its place
pub set-in_state : (place : ℕ) (state : PartState) (partitions : List PartRecord) (partition d : PartRecord) → place < length partitions → partition ≡ in_state state (get_or partitions place d)
    → set partitions place partition ≡ in_state_at place state partitions
set-in_state place state [] partition d inside is = refl
set-in_state zero state (first ∷ later) partition d inside is = ap (λ head. head ∷ later) is
set-in_state (suc place) state (first ∷ later) partition d inside is = ap (λ rest. first ∷ rest) (set-in_state place state later partition d (omega (arith, inside)) is)

pub confs-stay : ConfsStay
confs-stay place state [] = refl
confs-stay zero state (partition ∷ later) = refl
confs-stay (suc place) state (partition ∷ later) = ap (λ confs. partition.conf ∷ confs) (confs-stay place state later)

pub nodes-stay : NodesStay
nodes-stay place state [] = refl
nodes-stay zero state (partition ∷ later) = refl
nodes-stay (suc place) state (partition ∷ later) = ap (λ nodes. partition.nodes ∷ nodes) (nodes-stay place state later)

length-stays : (place : ℕ) (state : PartState) (partitions : List PartRecord) → length (in_state_at place state partitions) ≡ length partitions
length-stays place state partitions = simp length-map at (ap length (confs-stay place state partitions))

nodes-at : (place : ℕ) (state : PartState) (partitions : List PartRecord) (k : ℕ) (d : PartRecord) → (get_or (in_state_at place state partitions) k d).nodes ≡ (get_or partitions k d).nodes
nodes-at place state [] k d = refl
nodes-at zero state (partition ∷ later) zero d = refl
nodes-at zero state (partition ∷ later) (suc k) d = refl
nodes-at (suc place) state (partition ∷ later) zero d = refl
nodes-at (suc place) state (partition ∷ later) (suc k) d = nodes-at place state later k d

on_nodes-like : (count : ℕ) (one other : PartRecord) → other.nodes ≡ one.nodes → IsOnNodes count one → IsOnNodes count other
on_nodes-like count one other same on = record { there = rw same on.there; once = rw same on.once }

pub on_nodes-stays : OnNodesStays
on_nodes-stays count place state partitions all k d inside =
    on_nodes-like count (get_or partitions k d) (get_or (in_state_at place state partitions) k d) (nodes-at place state partitions k d) (all k d (rw (length-stays place state partitions) at inside))

meant-same : (name : Option (List ℕ)) (state : PartState) (partition : PartRecord) → is_meant name (in_state state partition) ≡ is_meant name partition
meant-same None state partition = refl
meant-same (Some name) state partition = refl

first-stays : (name : Option (List ℕ)) (place : ℕ) (state : PartState) (partitions : List PartRecord) → position_or_len (is_meant name) (in_state_at place state partitions) ≡ position_or_len (is_meant name) partitions
first-stays name place state [] = refl
first-stays name zero state (partition ∷ later) = ap (λ (b : Bool). cond (not b) (1 + position_or_len (is_meant name) later) 0) (meant-same name state partition)
first-stays name (suc place) state (partition ∷ later) = ap (λ (n : ℕ). cond (not (is_meant name partition)) (1 + n) 0) (first-stays name place state later)

pub places-stay : PlacesStay
places-stay name place state partitions = rw (first-stays name place state partitions, length-stays place state partitions) refl
