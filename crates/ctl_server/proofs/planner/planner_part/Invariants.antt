use Rattle.ctl_desk.specs.Desk.{GoesOn}
use Rattle.ctl_server.proofs.planner.planner_part.Given as goal

abbrev pub invariant-loop : goal.invariant-loop
invariant-loop g l = record {
  goes_on : GoesOn (g.D.Desk.sight l.initial.desk) (g.D.Desk.sight l.desk);
  next : (goal.iterator-loop g).can_next l.iterator';
  finite : (goal.iterator-loop g).is_finite l.iterator';
}
