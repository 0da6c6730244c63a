use Rattle.state_save.proofs.LineWords.{placed_good}
use Rattle.state_save.proofs.cluster_lines.SavedPlacedLine.tell_lines.Goals as goal

pub returns : goal.returns
returns c = record { words = placed_good; order = λ one other third h k. tt }
