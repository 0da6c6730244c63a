use Rattle.std.proofs.Common.{◌≡◌, ◌≤◌, All}
use Rattle.backfill_planner.specs.declared.stretches.Stretch.{Stretch}
use Rattle.backfill_planner.specs.Stretches.{stretches_of}
use Rattle.backfill_planner.proofs.Stretching.{begins-of-times}
use Rattle.backfill_planner.proofs.barred_times.next_begin.Goals as goal

pub returns-in-Some-clause-least : goal.returns-in-Some-clause-least
returns-in-Some-clause-least c =
    let held : c.in-Some.stretches.now ≡ stretches_of c.args.node c.args.barred.now = rw c.in-Some.is at c.of_node.ensures in
    let least : All (λ (stretch : Stretch). c.args.end ≤ stretch.from → c.begin_from.result ≤ stretch.from) (stretches_of c.args.node c.args.barred.now) = rw (← held) c.begin_from.ensures.least in
    begins-of-times c.args.node c.args.end c.begin_from.result c.args.barred.now least
