use Rattle.run_limits.proofs.Telling.{nothing_told}
use Rattle.run_limits.proofs.tally.Tally.new.Goals as goal

pub returns : goal.returns
returns c = λ assocs. nothing_told assocs _ c.new.ensures.empty c.new-2.ensures.empty c.new-3.ensures.empty c.new-4.ensures.empty
