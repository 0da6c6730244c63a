use Rattle.std.proofs.Common.{sym, ap, ◌∙◌}
use Rattle.state_save.specs.Lines.{reservation_in}
use Rattle.state_save.proofs.LineWords.{reservation_back, reads}
use Rattle.state_save.proofs.cluster_lines.SavedReservationLine.read_words.Goals as goal

pub returns-clause-only : goal.returns-clause-only
returns-clause-only c = λ value fits is.
    reads reservation_in c.args.line.now value c.read_reservation.result (ap reservation_in (sym is) ∙ reservation_back value fits) c.read_reservation.ensures.value c.read_reservation.ensures.refused
