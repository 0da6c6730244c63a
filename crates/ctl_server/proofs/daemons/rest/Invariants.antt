use Rattle.ctl_desk.specs.Desk.{GoesOn}
use Rattle.ctl_server.proofs.daemons.rest.Given as goal

abbrev pub invariant-loop : goal.invariant-loop
invariant-loop g l = GoesOn (g.D.Desk.sight l.initial.desk) (g.D.Desk.sight l.desk)
