-- What stays true of the nodes, whatever happens to one. Each is proved as the contract of a law.
use Rattle.std.specs.Prelude.{◌≡◌, ℕ, ◌<◌, Bool, true, List, length, map, Some}
use Rattle.std.specs.List.{AllZip, HoldsAt}
use Rattle.request_data.specs.declared.report.Heard.{Heard}
use Rattle.node_state.specs.declared.record.NodeRecord.{NodeRecord}
use Rattle.node_state.specs.declared.record.NodeChange.{NodeChange}
use Rattle.node_state.specs.declared.record.NodeChange.TheVariants as change
use Rattle.node_state.specs.Nodes.{is_up, change_at, place_named, AreNamedOnce}

-- What slurm.conf says of each node stays.
abbrev pub ConfsStay : Type 0
ConfsStay = (place : ℕ) (change : NodeChange) (nodes : List NodeRecord)
    → map (λ (node : NodeRecord). node.conf) (change_at place change nodes)
    ≡ map (λ (node : NodeRecord). node.conf) nodes

-- Each name leads where it led.
abbrev pub PlacesStay : Type 0
PlacesStay = (name : List ℕ) (place : ℕ) (change : NodeChange) (nodes : List NodeRecord)
    → place_named name (change_at place change nodes) ≡ place_named name nodes

-- There are as many nodes as before, each named once.
abbrev pub NamesStay : Type 0
NamesStay = (place : ℕ) (change : NodeChange) (nodes : List NodeRecord)
    → AreNamedOnce nodes → AreNamedOnce (change_at place change nodes)

-- Each node that was up is up after a report of one.
abbrev pub ReportsSetNoneDown : Type 0
ReportsSetNoneDown = (place : ℕ) (heard : Heard) (empty : Bool) (nodes : List NodeRecord)
    → AllZip (λ (before after : NodeRecord). is_up before.down ≡ true → is_up after.down ≡ true)
    nodes (change_at place (change.Heard heard empty) nodes)

-- A node's name leads to its place.
abbrev pub NamesLeadToPlaces : Type 0
NamesLeadToPlaces = (place : ℕ) (nodes : List NodeRecord) → AreNamedOnce nodes → place < length nodes
    → HoldsAt (λ (node : NodeRecord). place_named node.conf.name nodes ≡ Some place) nodes place

-- Where a name leads, a node is that has it.
abbrev pub PlacesAreNamed : Type 0
PlacesAreNamed = (name : List ℕ) (place : ℕ) (nodes : List NodeRecord)
    → place_named name nodes ≡ Some place
    → (place < length nodes) × HoldsAt (λ (node : NodeRecord). node.conf.name ≡ name) nodes place
