use Rattle.std.proofs.Common.{◌≡◌, ℕ, take}
use Rattle.std.specs.List.{list_any}
use Rattle.plain_data.specs.Rows.{has_id}
use Rattle.ctl_state.specs.Planning.{is_at}
use Rattle.ctl_reconfigure.specs.Blocking.{is_of}
use Rattle.ctl_reconfigure.proofs.blocking.places_of_lines.Given as goal

abbrev pub invariant-loop-conf : goal.invariant-loop-conf
invariant-loop-conf l = (place : ℕ)
    → has_id l.places place ≡ is_at (λ node. list_any (is_of node) (take l.conf-index l.confs)) l.nodes.records place
