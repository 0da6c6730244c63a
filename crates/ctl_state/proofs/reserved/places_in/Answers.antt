use Rattle.std.proofs.Common.{◌≢◌}
use Rattle.std.proofs.lemmas.List.Kept.{AllPairs-filter}
use Rattle.plain_data.specs.Rows.{has_id}
use Rattle.ctl_state.proofs.reserved.places_in.Goals as goal

pub from_vec-requires : goal.from_vec-requires
from_vec-requires c =
    rw c.in_ok-kept_places.ensures
    (AllPairs-filter (λ one other. one ≢ other) (has_id c.args.reservation.now.nodes) c.as_slice.result.now
    c.as_slice.ensures.once)
