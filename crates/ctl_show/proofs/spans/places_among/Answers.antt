use Rattle.ctl_show.specs.Showing.{is_among}
use Rattle.ctl_show.proofs.spans.places_among.Goals as goal

pub returns-in-None : goal.returns-in-None
returns-in-None c = c.all_places.ensures (is_among c.args.targets.now)
