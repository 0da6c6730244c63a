use Rattle.std.proofs.Common.{◌≡◌, ℕ, ◌||◌, List, bytes_eq, take}
use Rattle.std.specs.Prelude.{filter_map, slice_get}
use Rattle.std.specs.HashSet.{contains}
use Rattle.backfill_planner.specs.declared.Share.{Share}
use Rattle.node_state.specs.Reservations.{has}
use Rattle.ctl_reconfigure.proofs.leaving.add_shares.Given as goal

abbrev pub invariant-loop-share : goal.invariant-loop-share
invariant-loop-share l = (name : List ℕ)
    → contains bytes_eq l.planned name
    ≡ (contains bytes_eq l.fn.planned name
    || has (filter_map (λ (share : Share). slice_get l.names share.node) (take l.share-index l.shares)) name)
