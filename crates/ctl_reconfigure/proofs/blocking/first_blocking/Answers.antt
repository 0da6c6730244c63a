use Rattle.std.proofs.Common.{◌∙◌, length, arith}
use Rattle.plain_data.specs.Rows.{has_id}
use Rattle.ctl_state.specs.Planning.{is_at}
use Rattle.ctl_state.specs.State.{state_of}
use Rattle.ctl_reconfigure.specs.Blocking.{blocks}
use Rattle.ctl_reconfigure.proofs.Anys.{find-same}
use Rattle.ctl_reconfigure.proofs.blocking.first_blocking.Goals as goal

pub returns : goal.returns
returns c =
    let nodes = c.args.cluster.now.nodes.records in
    (rw c.len.ensures.value at c.first_below.ensures)
    ∙ find-same (has_id c.places_blocking-places.result)
    (λ place. is_at (blocks (state_of c.args.cluster.now) c.args.confs.now place) nodes place) 0 (length nodes)
    (λ place from inside. c.places_blocking-places.ensures place (omega (arith, inside)))
