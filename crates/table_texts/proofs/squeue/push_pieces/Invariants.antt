use Rattle.std.proofs.Common.{◌≡◌, ◌++◌, take, flat_map}
use Rattle.table_texts.specs.Squeue.{piece_text, told}
use Rattle.table_texts.proofs.squeue.push_pieces.Given as goal

abbrev pub invariant-loop-piece : goal.invariant-loop-piece
invariant-loop-piece l =
    l.out.items ≡ l.initial.out.items ++ flat_map (piece_text (told l.row)) (take l.piece-index l.pieces)
