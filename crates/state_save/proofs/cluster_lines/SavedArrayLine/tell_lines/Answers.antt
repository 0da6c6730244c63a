use Rattle.std.proofs.Common.{arith}
use Rattle.state_save.proofs.LineWords.{array_good}
use Rattle.state_save.proofs.cluster_lines.SavedArrayLine.tell_lines.Goals as goal

pub returns : goal.returns
returns c = record { words = array_good; order = λ one other third h k. omega arith }
