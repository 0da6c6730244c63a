use Rattle.ctl_desk.specs.Desk.{GoesOn}
use Rattle.ctl_server.proofs.daemons.turn_all.Given as goal

abbrev pub invariant-loop-daemon : goal.invariant-loop-daemon
invariant-loop-daemon g l = GoesOn (g.D.Desk.sight l.initial.desk) (g.D.Desk.sight l.desk)
