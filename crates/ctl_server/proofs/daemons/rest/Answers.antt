use Rattle.ctl_server.proofs.Going.{goes_on_twice}
use Rattle.ctl_server.proofs.daemons.rest.Goals as goal

pub returns-then-refresh-clause-goes_on : goal.returns-then-refresh-clause-goes_on
returns-then-refresh-clause-goes_on g c = goes_on_twice (g.D.Desk.sight c.args.desk.now) (g.D.Desk.sight c.loop.desk)
    (g.D.Desk.sight c.refresh.new.self) c.loop.invariant c.refresh.ensures.goes_on

pub loop-preserved : goal.loop-preserved
loop-preserved g c = goes_on_twice (g.D.Desk.sight c.args.desk.now) (g.D.Desk.sight c.loop.desk)
    (g.D.Desk.sight c.refresh.new.self) c.loop.invariant c.refresh.ensures.goes_on
