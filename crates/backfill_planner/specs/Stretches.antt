-- The seconds at which a job may not have a node, node by node.
use Rattle.std.specs.Prelude.{◌≡◌, ℕ, Bool, ◌&&◌, nat_lt, List, [], map, filter, slice_get, unwrap_or}
use Rattle.plain_data.specs.Rows.{has_id}
use Rattle.backfill_planner.specs.declared.job.Barred.{Barred}
use Rattle.backfill_planner.specs.declared.stretches.Stretch.{Stretch}

-- the seconds of a time
abbrev pub stretch_of : Barred → Stretch
stretch_of time = record { from = time.from; until = time.until }

-- the seconds of the times that have the node, in the order of the times
abbrev pub stretches_of : ℕ → List Barred → List Stretch
stretches_of node times = map stretch_of (filter (λ time. has_id time.nodes node) times)

-- each row has the seconds of the node with its number; a node without a row is in no time
abbrev pub HoldsStretches : List (List Stretch) → List Barred → Type 0
HoldsStretches rows times = (node : ℕ) → unwrap_or (slice_get rows node) [] ≡ stretches_of node times

-- the stretch crosses the seconds from `from` on and before `until`
abbrev pub crosses : ℕ → ℕ → Stretch → Bool
crosses from until stretch = nat_lt from stretch.until && nat_lt stretch.from until
