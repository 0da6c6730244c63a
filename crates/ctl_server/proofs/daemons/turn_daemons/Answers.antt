use Rattle.ctl_server.proofs.Going.{goes_on_twice}
use Rattle.ctl_server.proofs.daemons.turn_daemons.Goals as goal

pub returns-then-refresh-clause-goes_on : goal.returns-then-refresh-clause-goes_on
returns-then-refresh-clause-goes_on g c = goes_on_twice (g.D.Desk.sight c.args.desk.now) (g.D.Desk.sight c.loop.desk)
    (g.D.Desk.sight c.refresh.new.self) c.loop.invariant.goes_on c.refresh.ensures.goes_on

pub returns-then-rest-clause-goes_on : goal.returns-then-rest-clause-goes_on
returns-then-rest-clause-goes_on g c =
    let sight = g.D.Desk.sight in
    let looked = goes_on_twice (sight c.args.desk.now) (sight c.loop.desk) (sight c.refresh.new.self)
    c.loop.invariant.goes_on c.refresh.ensures.goes_on in
    let turned = goes_on_twice (sight c.args.desk.now) (sight c.refresh.new.self) (sight c.turn_all.new.desk)
    looked c.turn_all.ensures in
    goes_on_twice (sight c.args.desk.now) (sight c.turn_all.new.desk) (sight c.rest.new.desk) turned c.rest.ensures.goes_on

pub loop-preserved : goal.loop-preserved
loop-preserved g c =
    let sight = g.D.Desk.sight in
    let looked = goes_on_twice (sight c.args.desk.now) (sight c.loop.desk) (sight c.refresh.new.self)
    c.loop.invariant.goes_on c.refresh.ensures.goes_on in
    let turned = goes_on_twice (sight c.args.desk.now) (sight c.refresh.new.self) (sight c.turn_all.new.desk)
    looked c.turn_all.ensures in record {
      goes_on = goes_on_twice (sight c.args.desk.now) (sight c.turn_all.new.desk) (sight c.rest.new.desk) turned
          c.rest.ensures.goes_on;
      next = tt;
      finite = tt;
    }
