use Rattle.std.proofs.Common.{◌≡◌, Some, Err, ap, refl, sym, ◌∙◌}
use Rattle.line_words.specs.Words.{before_comment, first_bad}
use Rattle.session_text.specs.Said.{said_in}
use Rattle.session_text.proofs.said.said_in.Goals as goal

pub returns-in-Err-BadWords : goal.returns-in-Err-BadWords
unfolding said_in
returns-in-Err-BadWords c =
    let place = c.in-Err-BadWords.field-0-0 in
    let bad : first_bad c.before_comment.result.now ≡ Some place = (c.split_words.ensures.refused place).0
    (c.in-Err-BadWords.is ∙ ap (λ e. Err e) c.in-Err-BadWords.field-0-is) in
    let at : first_bad (before_comment c.args.line.now) ≡ Some place = ap first_bad (sym c.before_comment.ensures.value)
    ∙ bad in
    rw at refl
