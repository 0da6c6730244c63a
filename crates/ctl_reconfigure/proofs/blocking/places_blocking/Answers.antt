use Rattle.std.proofs.Common.{◌∙◌}
use Rattle.ctl_state.specs.State.{state_of}
use Rattle.ctl_reconfigure.proofs.Lines.{blocking-row, row-of}
use Rattle.ctl_reconfigure.proofs.blocking.places_blocking.Goals as goal

pub returns : goal.returns
returns c = λ place inside.
    row-of _ _ _ _ _ (c.insert_all.ensures place) (c.remove_all.ensures place)
    ∙ blocking-row (state_of c.args.cluster.now) c.args.confs.now place _ _ _ inside (c.needed-places.ensures place)
    (c.places_of_lines.ensures place) (c.places_of_too_small.ensures place)
