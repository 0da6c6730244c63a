use Rattle.state_save.proofs.LineWords.{usage_good}
use Rattle.state_save.proofs.cluster_lines.SavedUsageLine.tell_lines.Goals as goal

pub returns : goal.returns
returns c = record { words = usage_good; order = λ one other third h k. tt }
