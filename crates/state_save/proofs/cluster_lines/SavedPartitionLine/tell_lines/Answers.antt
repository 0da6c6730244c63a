use Rattle.state_save.proofs.LineWords.{partition_good}
use Rattle.state_save.proofs.cluster_lines.SavedPartitionLine.tell_lines.Goals as goal

pub returns : goal.returns
returns c = record { words = partition_good; order = λ one other third h k. tt }
