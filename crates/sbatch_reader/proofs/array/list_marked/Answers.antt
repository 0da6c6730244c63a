use Rattle.std.proofs.Common.{ℕ, List, [], ◌∷◌, ◌++◌, ap, sym, ◌∙◌}
use Rattle.sbatch_reader.proofs.MarkLemmas.{marked_below-yes, marked_below-no}
use Rattle.sbatch_reader.proofs.array.list_marked.Goals as goal
use Rattle.sbatch_reader.proofs.array.list_marked.Goals.{then-mark+in_ok-push, else-mark}

pub loop-number-preserved : goal.loop-number-preserved
loop-number-preserved c =
    elim c.if-mark.branch [
      | then-mark+in_ok-push w ↦ rw w.numbers-is (w.in_ok-push.ensures.items ∙ ap (λ (xs : List ℕ). xs ++ c.loop-number.number ∷ []) c.loop-number.invariant ∙ sym (marked_below-yes c.args.marks.now c.loop-number.number w.if-mark.true))
      | else-mark w ↦ rw w.numbers-is (c.loop-number.invariant ∙ sym (marked_below-no c.args.marks.now c.loop-number.number w.if-mark.false))
    ]
