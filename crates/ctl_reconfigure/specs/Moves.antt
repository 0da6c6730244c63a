-- What moves with the nodes of a new file that stand in another order, or are others.
use Rattle.std.specs.Prelude.{◌≡◌, false, is_none, IfSome, ◌++◌}
use Rattle.plain_data.specs.Confs.{ConfView}
use Rattle.ctl_state.specs.State.{State}
use Rattle.ctl_reconfigure.specs.declared.record.Moves.{Moves}
use Rattle.ctl_reconfigure.specs.Names.{conf_names, node_names, places_of, same_names}
use Rattle.ctl_reconfigure.specs.Reconfiguring.{dropped_after, gone_after, keeps_places, origins, share_names}

-- they are those that the new file makes of the state
pub record AreMoves (s : State) (conf : ConfView) (moves : Moves) : Type 0 where
  pub moved : keeps_places s conf ≡ false
  pub parts : moves.parts.items ≡ places_of (node_names s.nodes) (conf_names conf.nodes)
  pub origins : moves.origins.items ≡ origins s conf
  pub stay : is_none moves.shares ≡ same_names (share_names s) (conf_names conf.nodes ++ gone_after s conf)
  pub shares : IfSome moves.shares (λ places. places.items
      ≡ places_of (share_names s) (conf_names conf.nodes ++ gone_after s conf))
  pub dropped : moves.dropped.items ≡ dropped_after s conf
  pub gone : moves.gone.items ≡ gone_after s conf
