use Rattle.std.proofs.Common.{Ok, subst, sym}
use Rattle.ctl_state.specs.State.{State}
use Rattle.plain_data.specs.Files.{named_by}
use Rattle.slurm_top.specs.Outside.{beside, outside}
use Rattle.cluster_opening.specs.Files.{Opens}
use Rattle.slurm_top.specs.Run.{hosted}
use Rattle.slurm_top.proofs.Opened.{alone_so, served_end, stays_beside}
use Rattle.slurm_top.proofs.serving.serve_files.Goals as goal

pub returns-in-Ok : goal.returns-in-Ok
returns-in-Ok g c = λ errors faults.
    let files = g.Q.Shelf.files c.args.shelf.now in
    let named = named_by c.args.words.now.files in
    let seated = c.in-Ok.ensures.opening in
    let opens : Opens files named (Ok c.into_book.result.opening) =
    subst (λ (s : State). Opens files named (Ok s)) (sym c.into_book.ensures.opening) seated.0 in
    let ran = c.serve_and_save.ensures in
    let host = c.args.host.now in
    let host' = c.serve_and_save.new.host in
    served_end named c.args.words.now.port c.args.words.now.workers c.args.words.now.save
    (hosted (g.C.Clock.course c.args.clock.now) (g.H.Host.closed host'))
    (outside files (g.Q.Shelf.shelf_faults c.args.shelf.now) (g.L.Link.wire c.args.link.now))
    (outside (g.Q.Shelf.files c.open_named.new.shelf) (g.Q.Shelf.shelf_faults c.open_named.new.shelf)
    (g.L.Link.wire c.serve_and_save.new.link))
    (beside errors faults (g.H.Host.hosting host)) (beside errors faults (g.H.Host.hosting host')) c.serve_and_save.result c.into_book.result.opening opens
    ran.served (alone_so _ _ _ _ (g.L.Link.wire c.args.link.now) (g.L.Link.wire c.serve_and_save.new.link) c.in-Ok.ensures.kept seated.2)
    (stays_beside errors faults (g.H.Host.hosting host) (g.H.Host.hosting host') ran.counts.0 ran.counts.1 ran.kept.0 ran.kept.1)
