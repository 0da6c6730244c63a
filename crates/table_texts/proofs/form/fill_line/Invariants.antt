use Rattle.table_texts.specs.Squeue.{told}
use Rattle.table_texts.proofs.Filled.{IsFilled}
use Rattle.table_texts.proofs.form.fill_line.Given as goal

abbrev pub invariant-loop-piece : goal.invariant-loop-piece
invariant-loop-piece l = IsFilled (told l.row) l.pieces l.piece-index l.line l.at
