use Rattle.slurm_top.proofs.program.run_asked.Goals as goal

pub returns-in-Call : goal.returns-in-Call
returns-in-Call g c =
    let ensures = c.call_server-end.ensures in
    rw c.in-Call.is (ensures.ended, ensures.caused, ensures.decided, ensures.spent)

pub returns-in-Serve : goal.returns-in-Serve
returns-in-Serve g c =
    rw c.in-Serve.is (c.serve_files.ensures (g.E.Sink.taken c.args.errors.now) (g.E.Sink.write_faults c.args.errors.now))
