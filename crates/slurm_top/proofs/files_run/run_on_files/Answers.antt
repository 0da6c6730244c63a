use Rattle.plain_data.specs.Files.{named_by}
use Rattle.slurm_top.specs.Outside.{outside}
use Rattle.slurm_top.proofs.Opened.{alone_so, ran_on}
use Rattle.slurm_top.proofs.files_run.run_on_files.Goals as goal

pub returns-in-Ok : goal.returns-in-Ok
returns-in-Ok g c =
    let opened = c.in-Ok.ensures.opening in
    ran_on (named_by c.args.words.now.files) c.args.words.now.sacct c.args.words.now.save
    (outside (g.Q.Shelf.files c.args.shelf.now) (g.Q.Shelf.shelf_faults c.args.shelf.now) (g.L.Link.wire c.args.link.now))
    (outside (g.Q.Shelf.files c.open_files.new.shelf) (g.Q.Shelf.shelf_faults c.open_files.new.shelf)
    (g.L.Link.wire c.run_there.new.link)) c.run_there.result opened.0.0 opened.0.1
    (alone_so _ _ _ _ (g.L.Link.wire c.args.link.now) (g.L.Link.wire c.run_there.new.link) c.in-Ok.ensures.kept opened.1) (c.run_there.ensures opened.0.0 opened.0.2)
