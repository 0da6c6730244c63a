use Rattle.std.proofs.Common.{sym, ◌∙◌}
use Rattle.backfill_planner.proofs.Stretching.{none-of-times}
use Rattle.backfill_planner.proofs.stretches.row.Goals as goal

pub returns-else-contains : goal.returns-else-contains
returns-else-contains c = c.new.ensures.items ∙ sym (none-of-times c.args.node c.args.times.now (sym c.requires ∙ sym c.contains.ensures ∙ c.if-contains.false))
