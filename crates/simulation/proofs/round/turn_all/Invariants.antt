use Rattle.std.proofs.Common.{◌≡◌, map, take, drop}
use Rattle.simulation.specs.Run.{AllGoOn, IfOneAlone}
use Rattle.simulation.proofs.Turning.{IsTurning, ReportedOnce}
use Rattle.simulation.proofs.round.turn_all.Given as goal

abbrev pub invariant-loop-daemon : goal.invariant-loop-daemon
invariant-loop-daemon g l = record {
  left : drop l.daemon-index l.daemons ≡ drop l.daemon-index l.fn.daemons;
  reported : ReportedOnce l.fn.daemons (take l.daemon-index l.daemons);
  go_on : AllGoOn (map g.D.Desk.sight l.fn.desks) (map g.D.Desk.sight l.desks);
  alone : IfOneAlone (map g.D.Desk.sight l.fn.desks) (map g.D.Desk.sight l.desks)
      (IsTurning l.now l.fn.daemons l.daemons l.daemon-index);
}
