use Rattle.std.proofs.Common.{arith}
use Rattle.backfill_planner.proofs.Sweeping.{swept-at, swept-later}
use Rattle.backfill_planner.proofs.sweep.Sweep.go_to.Goals as goal

pub returns-then-self-second-clause-capacities : goal.returns-then-self-second-clause-capacities
returns-then-self-second-clause-capacities c =
    let swept = c.count_anew.ensures.swept in
    swept-at c.args.rooms.now c.args.profile.now.holds c.args.job.now c.count_anew.new.self c.args.second swept (omega (arith, c.count_anew.ensures.second)) (omega (arith, swept.later, c.count_anew.ensures.second)) c.requires.second

pub returns-else-self-second-clause-capacities : goal.returns-else-self-second-clause-capacities
returns-else-self-second-clause-capacities c =
    swept-at c.args.rooms.now c.args.profile.now.holds c.args.job.now c.args.self.now c.args.second c.requires.swept c.requires.order c.if-self-second.false c.requires.second

pub returns-else-self-second-clause-swept : goal.returns-else-self-second-clause-swept
returns-else-self-second-clause-swept c =
    swept-later c.args.rooms.now c.args.profile.now.holds c.args.job.now c.args.self.now c.args.second c.requires.swept c.requires.order c.if-self-second.false
