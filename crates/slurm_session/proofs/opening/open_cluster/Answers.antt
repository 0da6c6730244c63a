use Rattle.std.proofs.Common.{sym, subst}
use Rattle.plain_data.specs.Files.{named_by}
use Rattle.slurm_session.specs.Runs.{IsUnopened}
use Rattle.slurm_session.specs.declared.ending.RunEnd.{RunEnd}
use Rattle.slurm_session.proofs.Endings.{opened_is, unopened_is}
use Rattle.slurm_session.proofs.opening.open_cluster.Goals as goal

pub returns-in-Ok-clause-opened : goal.returns-in-Ok-clause-opened
returns-in-Ok-clause-opened g c =
    opened_is (g.Q.Shelf.files c.args.shelf.now) (named_by c.args.names.now) (g.Q.Shelf.shelf_faults c.args.shelf.now)
    (g.Q.Shelf.shelf_faults c.open_named.new.shelf) c.in-Ok.desk c.in-Ok.ensures.opening

pub returns-in-Err-clause-opened : goal.returns-in-Err-clause-opened
returns-in-Err-clause-opened g c =
    let told = g.Q.Shelf.files c.args.shelf.now in
    let before = g.Q.Shelf.shelf_faults c.args.shelf.now in
    let after = g.Q.Shelf.shelf_faults c.open_named.new.shelf in
    subst (λ (e : RunEnd). IsUnopened told (named_by c.args.names.now) before after e) (sym c.end_unopened.ensures)
    (unopened_is told (named_by c.args.names.now) before after c.in-Err.refusal c.in-Err.ensures.opening)
