use Rattle.slurm_top.proofs.Shutting.{saved_then}
use Rattle.slurm_top.proofs.serving.serve_and_save.Goals as goal

pub returns-in-Ok-clause-served : goal.returns-in-Ok-clause-served
returns-in-Ok-clause-served g c =
    let served = c.in-Ok.ensures.served in
    saved_then c.args.book.opening c.args.words.now.port c.args.words.now.workers c.args.words.now.save
    (g.C.Clock.course c.args.clock.now) (g.H.Host.closed c.serve_book.new.host) (g.H.Host.hosting c.args.host.now).faults
    (g.H.Host.hosting c.serve_book.new.host).faults (g.L.Link.wire c.args.link.now) (g.L.Link.wire c.serve_book.new.link)
    (g.L.Link.wire c.save_book.new.link) c.in-Ok.book c.save_book.result served.0 served.1 served.2 c.save_book.ensures
