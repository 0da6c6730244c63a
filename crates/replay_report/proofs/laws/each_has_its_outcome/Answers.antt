use Rattle.replay_report.proofs.Places.{each_has}
use Rattle.replay_report.proofs.laws.each_has_its_outcome.Goals as goal

pub returns : goal.returns
returns c = each_has
