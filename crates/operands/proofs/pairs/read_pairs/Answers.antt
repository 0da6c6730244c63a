use Rattle.std.proofs.Common.{◌≡◌, Some, Err, Ok, slice_get, sym, ap, ◌∙◌}
use Rattle.std.specs.Option.{option_copied}
use Rattle.operands.specs.Pairs.{now_said, pair_added, pair_of}
use Rattle.operands.proofs.PairLemmas.{pairs_more, pairs_bad}
use Rattle.operands.proofs.pairs.read_pairs.Goals as goal

pub returns-in-Err : goal.returns-in-Err
returns-in-Err g c =
    let word = c.unwrap.result.now in
    let at : slice_get c.args.words.now c.loop-place.place ≡ Some word = sym c.get.ensures ∙ ap option_copied c.unwrap.ensures in
    let added : pair_added g.S.Pairs.adding c.loop-place.said (pair_of word) ≡ Err c.in-Err.kind =
    sym c.in_ok-add_word.ensures ∙ ap (λ r. now_said r c.add_word.new.said) c.in-Err.is in
    ap (λ fault. Err fault) c.fault_at.ensures
    ∙ sym (pairs_bad g.S.Pairs.adding c.loop-place.said c.args.words.now c.loop-place.place word c.in-Err.kind at added)
    ∙ c.loop-place.invariant

pub loop-place-preserved : goal.loop-place-preserved
loop-place-preserved g c =
    let word = c.unwrap.result.now in
    let at : slice_get c.args.words.now c.loop-place.place ≡ Some word = sym c.get.ensures ∙ ap option_copied c.unwrap.ensures in
    let added : pair_added g.S.Pairs.adding c.loop-place.said (pair_of word) ≡ Ok c.add_word.new.said =
    sym c.in_ok-add_word.ensures ∙ ap (λ r. now_said r c.add_word.new.said) c.in-Ok.is in
    sym (pairs_more g.S.Pairs.adding c.loop-place.said c.add_word.new.said c.args.words.now c.loop-place.place word at added)
    ∙ c.loop-place.invariant
