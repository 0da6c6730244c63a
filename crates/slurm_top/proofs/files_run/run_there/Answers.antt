use Rattle.slurm_top.proofs.Opened.{fresh_at, script_at}
use Rattle.slurm_top.proofs.files_run.run_there.Goals as goal

pub run_script-requires-clause-fresh : goal.run_script-requires-clause-fresh
run_script-requires-clause-fresh g c =
    fresh_at c.in-Ok.desk c.requires.good.0 (c.in-Ok.ensures c.requires.good.0 c.requires.good.1)

pub returns-in-Ok : goal.returns-in-Ok
returns-in-Ok g c = λ s opens.
    script_at c.in-Ok.desk s c.args.words.now.sacct c.args.words.now.save (g.L.Link.wire c.args.link.now)
    (g.L.Link.wire c.run_script.new.link) c.run_script.result (c.in-Ok.ensures s opens) c.run_script.ensures
