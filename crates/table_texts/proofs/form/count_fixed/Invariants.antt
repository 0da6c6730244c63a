use Rattle.std.proofs.Common.{◌≡◌, take, All, true}
use Rattle.table_texts.specs.Squeue.{is_fixed}
use Rattle.table_texts.proofs.form.count_fixed.Given as goal

abbrev pub invariant-loop-piece : goal.invariant-loop-piece
invariant-loop-piece l = record {
  count : l.count ≡ l.piece-index;
  fixed : All (λ piece. is_fixed piece ≡ true) (take l.piece-index l.pieces);
}
