use Rattle.std.proofs.Common.{◌≡◌, ℕ, take}
use Rattle.plain_data.specs.Rows.{has_id}
use Rattle.ctl_state.specs.Planning.{is_at}
use Rattle.ctl_node_side.specs.Silence.{falls_silent}
use Rattle.ctl_node_side.proofs.silence.silent_places.Given as goal

abbrev pub invariant-loop-place : goal.invariant-loop-place
invariant-loop-place l = (place : ℕ)
    → has_id l.places place ≡ is_at (falls_silent l.timeout l.now) (take l.place l.cluster.nodes.records) place
