use Rattle.ctl_server.proofs.Counting.{goes_further}
use Rattle.ctl_server.proofs.planner.planner_part.Goals as goal

pub returns-then-refresh-clause-goes_on : goal.returns-then-refresh-clause-goes_on
returns-then-refresh-clause-goes_on g c =
    goes_further (g.D.Desk.sight c.args.desk.now) (g.D.Desk.sight c.loop.desk) (g.D.Desk.sight c.refresh.new.self)
    c.loop.invariant.goes_on c.refresh.ensures.goes_on

pub loop-preserved : goal.loop-preserved
loop-preserved g c =
    let looked = goes_further (g.D.Desk.sight c.args.desk.now) (g.D.Desk.sight c.loop.desk)
    (g.D.Desk.sight c.refresh.new.self) c.loop.invariant.goes_on c.refresh.ensures.goes_on in
    record {
      goes_on = goes_further (g.D.Desk.sight c.args.desk.now) (g.D.Desk.sight c.refresh.new.self)
          (g.D.Desk.sight c.turn_if_due-last.new.desk) looked c.turn_if_due-last.ensures.goes_on;
      next = tt;
      finite = tt;
    }
