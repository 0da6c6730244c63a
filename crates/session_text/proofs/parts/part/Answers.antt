use Rattle.std.proofs.Common.{◌≡◌, [], ◌∷◌, ◌++◌, ap, sym, ◌∙◌, arith, length, ◌≤◌, ◌<◌}
use Rattle.session_text.proofs.WordParts.{one_more}
use Rattle.session_text.proofs.parts.part.Goals as goal

pub loop-place-preserved : goal.loop-place-preserved
loop-place-preserved c =
    let low : c.args.skipped ≤ c.loop-place.place = omega arith in
    let within : c.loop-place.place < length c.args.words.now = omega arith in
    let pushed : c.push.new.self ≡ c.loop-place.part ++ c.in_ok-copy.copy.items ∷ [] = c.in_ok-push.ensures in
    pushed
    ∙ ap (λ w. c.loop-place.part ++ w ∷ []) c.in_ok-copy.ensures.items
    ∙ ap (λ p. p ++ c.word_at.result.now ∷ []) c.loop-place.invariant
    ∙ sym (one_more c.args.words.now c.args.skipped c.loop-place.place c.word_at.result.now low within
    c.word_at.ensures.value)
