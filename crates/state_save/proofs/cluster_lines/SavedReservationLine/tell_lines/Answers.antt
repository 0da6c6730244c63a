use Rattle.state_save.proofs.LineWords.{reservation_good}
use Rattle.state_save.proofs.cluster_lines.SavedReservationLine.tell_lines.Goals as goal

pub returns : goal.returns
returns c = record { words = reservation_good; order = λ one other third h k. tt }
