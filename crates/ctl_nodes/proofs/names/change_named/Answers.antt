use Rattle.ctl_nodes.specs.Updating.{is_among}
use Rattle.ctl_nodes.proofs.names.change_named.Goals as goal

pub returns-clause-records : goal.returns-clause-records
returns-clause-records c = c.change_places.ensures.records (is_among c.args.names.now) c.places_of-named.ensures
