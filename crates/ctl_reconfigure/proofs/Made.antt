-- What is made of the names of the nodes before and now is what moves.
use Rattle.std.proofs.Common.{◌≡◌, ℕ, Bool, false, if◌then◌else◌, List, ◌++◌, map, bytes_eq, sym, ap, ◌∙◌}
use Rattle.std.specs.Prelude.{is_none, position, IfSome}
use Rattle.plain_data.specs.Confs.{ConfView}
use Rattle.node_state.specs.Reservations.{has}
use Rattle.ctl_state.specs.State.{State}
use Rattle.ctl_reconfigure.specs.declared.record.Moves.{Moves}
use Rattle.ctl_reconfigure.specs.Moves.{AreMoves}
use Rattle.ctl_reconfigure.specs.Names.{conf_names, node_names, places_of, same_names}
use Rattle.ctl_reconfigure.specs.Reconfiguring.{dropped_by, gone_after, gone_by, keeps_places, planned_names}

pub moves-made : (s : State) (conf : ConfView) (moves : Moves) (before now : List (List ℕ))
    → before ≡ node_names s.nodes → now ≡ conf_names conf.nodes → same_names before now ≡ false
    → moves.parts.items ≡ places_of before now
    → moves.origins.items ≡ map (λ name. position (bytes_eq name) before) now
    → moves.dropped.items ≡ dropped_by (has now) s.dropped s.nodes
    → moves.gone.items ≡ gone_by (has now) (has (planned_names (before ++ s.gone) s.plan)) (before ++ s.gone)
    → is_none moves.shares ≡ same_names (before ++ s.gone) (now ++ moves.gone.items)
    → IfSome moves.shares (λ places. places.items ≡ places_of (before ++ s.gone) (now ++ moves.gone.items))
    → AreMoves s conf moves
moves-made s conf moves before now was is other parts origins dropped gone stay shares =
    let moved : keeps_places s conf ≡ false = rw (← was, ← is) other in
    let gone-is : moves.gone.items ≡ gone_after s conf = (rw (was, is) at gone) ∙ else-one moved s.gone _ in
    record {
      moved = moved;
      parts = rw (was, is) at parts;
      origins = rw (was, is) at origins;
      stay = rw (was, is, gone-is) at stay;
      shares = rw (was, is, gone-is) at shares;
      dropped = (rw is at dropped) ∙ else-one moved s.dropped _;
      gone = gone-is;
    }
  where
    else-one : {X : Type 0} → keeps_places s conf ≡ false → (one two : X) → two ≡ (if keeps_places s conf then one else two)
    else-one moved one two = ap (λ (b : Bool). if b then one else two) (sym moved)
