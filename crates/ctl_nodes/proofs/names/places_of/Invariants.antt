use Rattle.std.proofs.Common.{◌≡◌, ℕ, take}
use Rattle.plain_data.specs.Rows.{has_id}
use Rattle.ctl_state.specs.Planning.{is_at}
use Rattle.ctl_nodes.specs.Updating.{is_among}
use Rattle.ctl_nodes.proofs.names.places_of.Given as goal

abbrev pub invariant-loop-name : goal.invariant-loop-name
invariant-loop-name l = (place : ℕ)
    → has_id l.places place ≡ is_at (is_among (take l.name-index l.names)) l.nodes.records place
