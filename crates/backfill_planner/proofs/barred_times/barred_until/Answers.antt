use Rattle.std.proofs.Common.{◌∙◌, ap}
use Rattle.std.specs.Prelude.{find, option_map}
use Rattle.backfill_planner.specs.declared.stretches.Stretch.{Stretch}
use Rattle.backfill_planner.specs.Stretches.{crosses}
use Rattle.backfill_planner.proofs.Stretching.{found-of-times}
use Rattle.backfill_planner.proofs.barred_times.barred_until.Goals as goal

pub returns-in-Some : goal.returns-in-Some
returns-in-Some c =
    c.crossing_until.ensures
    ∙ ap (λ stretches. option_map (λ (stretch : Stretch). stretch.until) (find (crosses c.args.from c.args.until) stretches)) (rw c.in-Some.is at c.of_node.ensures)
    ∙ found-of-times c.args.node c.args.from c.args.until c.args.barred.now
