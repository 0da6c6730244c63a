use Rattle.state_save.proofs.LineWords.{node_good}
use Rattle.state_save.proofs.cluster_lines.SavedNodeLine.tell_lines.Goals as goal

pub returns : goal.returns
returns c = record { words = node_good; order = λ one other third h k. tt }
