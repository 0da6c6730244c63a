use Rattle.std.proofs.Common.{rules, ◌≡◌, ◌∙◌, ap, sym, true, arith}
use Rattle.std.proofs.lemmas.List.Elements.{All-more}
use Rattle.table_texts.specs.Squeue.{is_fixed}
use Rattle.table_texts.proofs.form.count_fixed.Goals as goal

pub loop-piece-preserved : goal.loop-piece-preserved
loop-piece-preserved c =
    let fixed : is_fixed c.piece-item.result ≡ true = search rules in
    record {
      count = omega (arith, c.loop-piece.invariant.count);
      fixed = All-more (λ piece. is_fixed piece ≡ true) c.args.pieces.now c.loop-piece.piece-index c.piece-item.result
          c.loop-piece-test.true c.loop-piece.invariant.fixed (ap is_fixed (sym c.piece-item.is) ∙ fixed);
    }
