use Rattle.state_save.proofs.LineWords.{head_good}
use Rattle.state_save.proofs.cluster_lines.HeadLine.tell_lines.Goals as goal

pub returns : goal.returns
returns c = record { words = head_good; order = λ one other third h k. tt }
