use Rattle.state_save.proofs.LineWords.{dropped_good, not_behind_trans}
use Rattle.state_save.proofs.cluster_lines.DroppedNodeLine.tell_lines.Goals as goal

pub returns : goal.returns
returns c = record { words = dropped_good; order = λ one other third h k. not_behind_trans one.name other.name third.name h k }
