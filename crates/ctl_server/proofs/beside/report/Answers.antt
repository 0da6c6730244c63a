use Rattle.ctl_server.proofs.Sitting.{came_back}
use Rattle.ctl_server.proofs.beside.report.Goals as goal

pub returns : goal.returns
returns g c = record {
  own = came_back c.args.lock.now c.args.reporter.pass c.into_pass.result c.locked_desk-desk.result
      c.turn_daemons.new.desk c.requires.own c.locked_desk-desk.ensures.sees c.turn_daemons.ensures.goes_on
      c.into_pass.ensures.pass c.into_pass.ensures.known;
}
