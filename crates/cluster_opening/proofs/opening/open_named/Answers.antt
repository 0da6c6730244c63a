use Rattle.plain_data.specs.Files.{named_by}
use Rattle.cluster_opening.proofs.Judgements.{seated}
use Rattle.cluster_opening.proofs.opening.open_named.Goals as goal

pub returns-in-Ok-desk-clause-opening : goal.returns-in-Ok-desk-clause-opening
returns-in-Ok-desk-clause-opening g c =
    seated (g.Q.Shelf.files c.args.shelf.now) (named_by c.args.names.now) (g.Q.Shelf.shelf_faults c.args.shelf.now)
    (g.Q.Shelf.shelf_faults c.open_files.new.shelf) c.in-Ok.files c.in-Ok-desk.desk c.in-Ok.ensures.opening
    c.in-Ok-desk.ensures
