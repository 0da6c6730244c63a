-- Both rise, and have the same places.
use Rattle.std.proofs.Common.{◌∙◌, ℕ, Bool, length, sym}
use Rattle.ctl_state.specs.Planning.{is_at}
use Rattle.ctl_nodes.specs.Updating.{is_among}
use Rattle.ctl_nodes.specs.Reserving.{places_among}
use Rattle.ctl_nodes.proofs.Rising.{filter-rises, has_id-up_to, same_rising}
use Rattle.ctl_nodes.proofs.Ways.{none_past}
use Rattle.ctl_restore.proofs.reservations.places_among.Goals as goal

pub returns : goal.returns
returns c =
    let nodes = c.args.nodes.now.records in
    let test : ℕ → Bool = is_at (is_among c.args.names.now) nodes in
    same_rising c.places_of-places.result (places_among nodes c.args.names.now) c.tell_rising.ensures.rising
    (filter-rises test 0 (length nodes))
    (λ place. c.places_of-places.ensures place
    ∙ sym (has_id-up_to test (length nodes) place (none_past (is_among c.args.names.now) nodes place)))
