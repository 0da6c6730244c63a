use Rattle.std.proofs.Common.{◌≡◌, ◌≢◌, ◌<◌, ◌≤◌, ◌-◌, map}
use Rattle.simulation.specs.Run.{AllGoOn, HaveReported, IfOneAlone, IsShown, rounds_later}
use Rattle.simulation.specs.Simulation.{most_rounds}
use Rattle.simulation.proofs.Rounds.{LeadOn}
use Rattle.simulation.proofs.simulating.make_rounds.Given as goal

-- the rounds that are left lead to where all do
abbrev pub invariant-loop : goal.invariant-loop
invariant-loop g l = record {
  few : l.counter ≤ most_rounds;
  reported : HaveReported l.counter l.daemons;
  go_on : AllGoOn (map g.D.Desk.sight l.fn.desks) (map g.D.Desk.sight l.desks);
  moment : l.tally.moment ≡ rounds_later l.counter l.fn.tally.moment;
  shown : 0 < l.counter → IsShown (map g.D.Desk.sight l.desks) l.tally.moment l.tally.left;
  left : 0 < l.counter → l.tally.left ≢ 0;
  alone : IfOneAlone (map g.D.Desk.sight l.fn.desks) (map g.D.Desk.sight l.desks)
      (LeadOn most_rounds l.fn.daemons l.fn.tally (most_rounds - l.counter) l.daemons l.tally);
}
