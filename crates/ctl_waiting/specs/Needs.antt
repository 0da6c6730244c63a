-- What the candidates of a moment are planned by. Of the proof alone: no public call speaks of it.
use Rattle.std.specs.Prelude.{◌≡◌, ℕ, map, None}
use Rattle.node_state.specs.Reservations.{lasting}
use Rattle.ctl_state.specs.Planning.{barred_of, node_order}
use Rattle.ctl_state.specs.State.{State}
use Rattle.ctl_waiting.specs.declared.ranking.Grounds.{Grounds}

-- the order of the nodes of each partition, and when a job that names no reservation may not have which nodes
pub record AreGrounds (s : State) (now : ℕ) (grounds : Grounds) : Type 0 where
  pub moment : grounds.moment ≡ now
  pub orders : grounds.orders.items ≡ map (node_order s.nodes) s.partitions
  pub barred : grounds.barred ≡ barred_of (lasting now s.reservations) None
