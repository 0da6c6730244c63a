use Rattle.std.proofs.Common.{◌≡◌, List, None}
use Rattle.ctl_session.specs.Clock.{timing}
use Rattle.ctl_server.specs.Serving.{Serving}
use Rattle.ctl_server.specs.Worked.{IsWorked}
use Rattle.ctl_server.proofs.working.worker.Given as goal

abbrev pub invariant-loop : goal.invariant-loop
invariant-loop g l =
    (goal.iterator-loop g).can_next l.iterator' × (goal.iterator-loop g).is_finite l.iterator'
    × (g.A.Door.out l.door ≡ None)
    × ((servings : List Serving) × IsWorked (record {
      sessions = g.A.Door.sessions l.initial.door;
      faults = g.A.Door.door_faults l.initial.door;
      desk = g.D.Desk.sight l.initial.desk;
      clock = timing (g.C.Clock.course l.initial.clock) (g.C.Clock.moments l.initial.clock);
    }) (record {
      sessions = g.A.Door.sessions l.door;
      faults = g.A.Door.door_faults l.door;
      desk = g.D.Desk.sight l.desk;
      clock = timing (g.C.Clock.course l.clock) (g.C.Clock.moments l.clock);
    }) None servings)
