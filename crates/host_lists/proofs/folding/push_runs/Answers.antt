use Rattle.std.proofs.Common.{refl, true, false, arith, sym, ◌∙◌, ◌≡◌, ◌+◌, ◌==◌, ◌++◌, ◌∷◌, [], get_or}
use Rattle.std.proofs.lemmas.Bool.Decides.{nat_tests}
use Rattle.host_lists.specs.Folding.{number_of, run_text}
use Rattle.host_lists.proofs.FoldingLemmas.{runs-next, runs-apart}
use Rattle.host_lists.proofs.folding.push_runs.Goals as goal
use Rattle.host_lists.proofs.folding.push_runs.Goals.{then-number_of+in_ok-push_run+in_ok-push, else-number_of}

pub loop-name-preserved : goal.loop-name-preserved
loop-name-preserved c =
    let name = (get_or c.in-Some.others.now c.loop-name.name-index (record { ref_ptr = (0, 0); now = [] })).now in
    elim c.if-number_of.branch [
      | then-number_of+in_ok-push_run+in_ok-push w ↦
          let items : c.if-number_of.text.items ≡ c.loop-name.text.items ++ run_text c.loop-name.first.now c.loop-name.last.now ++ 44 ∷ [] = rw (w.text-is, w.in_ok-push.ensures.items, w.in_ok-push_run.ensures) refl in
          let apart : (number_of name == number_of c.loop-name.last.now + 1) ≡ false = rw (← c.number_of.ensures.value, ← c.number_of-in-loop-name.ensures.value) (grind (arith, nat_tests, w.if-number_of.true)) in
          rw (items, w.first-is) (sym (runs-apart (λ n. n.now) c.in-Some.others.now c.loop-name.name-index _ c.loop-name.text.items c.loop-name.first.now c.loop-name.last.now (omega arith) apart) ∙ c.loop-name.invariant)
      | else-number_of w ↦
          let next : (number_of name == number_of c.loop-name.last.now + 1) ≡ true = rw (← c.number_of.ensures.value, ← c.number_of-in-loop-name.ensures.value) (grind (arith, nat_tests, w.if-number_of.false)) in
          rw (w.text-is, w.first-is) (sym (runs-next (λ n. n.now) c.in-Some.others.now c.loop-name.name-index _ c.loop-name.text.items c.loop-name.first.now c.loop-name.last.now (omega arith) next) ∙ c.loop-name.invariant)
    ]
