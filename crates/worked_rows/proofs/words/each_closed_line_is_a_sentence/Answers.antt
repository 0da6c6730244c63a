use Rattle.worked_rows.proofs.Reading.{closed-line}
use Rattle.worked_rows.proofs.words.each_closed_line_is_a_sentence.Goals as goal

pub returns : goal.returns
returns c = closed-line
