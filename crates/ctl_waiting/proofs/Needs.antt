-- What the candidates need, one after another, and the order of nodes that stands at a place.
use Rattle.std.proofs.Common.{◌≡◌, ℕ, ◌+◌, ◌<◌, List, [], ◌∷◌, ◌++◌, length, filter, map, take, get_or, true, false, Option, Some, refl, ap, ◌∙◌}
use Rattle.std.specs.Prelude.{slice_get, filter_map, option_map}
use Rattle.std.specs.List.{cons_option}
use Rattle.std.proofs.lemmas.Option.{slice_get-map, get_or_from_slice_get}
use Rattle.std.proofs.lemmas.List.{take_more, map-append}
use Rattle.std.proofs.lemmas.List.Elements.{filter_map-append}
use Rattle.node_state.specs.declared.partition_record.PartRecord.{PartRecord}
use Rattle.ctl_state.specs.Planning.{node_order}
use Rattle.node_state.specs.declared.record.NodeRecord.{NodeRecord}

-- one more of what is had of some elements
pub filter_map-more : {X Y Z : Type 0} (h : X → Option Y) (f : Z → X) (xs : List Z) (i : ℕ) (x : Z) → i < length xs
    → x ≡ get_or xs i x
    → filter_map h (map f (take (i + 1) xs)) ≡ filter_map h (map f (take i xs)) ++ cons_option (h (f x)) []
filter_map-more h f xs i x within is =
    rw (
      take_more xs i x within,
      ← is,
      map-append f (take i xs) (x ∷ []),
      filter_map-append h (map f (take i xs)) (f x ∷ []),
    ) refl

-- the order of the nodes of a partition, among those of all
pub order-at : (nodes : List NodeRecord) (partitions : List PartRecord) (orders : List (List ℕ)) (place : ℕ)
    (partition : PartRecord) (order : List ℕ)
    → orders ≡ map (node_order nodes) partitions → slice_get partitions place ≡ Some partition
    → order ≡ get_or orders place order → order ≡ node_order nodes partition
order-at nodes partitions orders place partition order are at is =
    is ∙ get_or_from_slice_get orders place (node_order nodes partition) order
    (rw are (slice_get-map (node_order nodes) partitions place ∙ ap (option_map (node_order nodes)) at))
