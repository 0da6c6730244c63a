use Rattle.std.proofs.Common.{◌≡◌, take, flat_map}
use Rattle.table_texts.specs.Squeue.{blank}
use Rattle.table_texts.proofs.form.blank_line.Given as goal

abbrev pub invariant-loop-piece : goal.invariant-loop-piece
invariant-loop-piece l = l.line.items ≡ flat_map blank (take l.piece-index l.pieces)
