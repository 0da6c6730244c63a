use Rattle.std.proofs.Common.{◌≡◌, Some, Err, ap, refl, ◌∙◌}
use Rattle.line_words.specs.Words.{first_bad}
use Rattle.command_words.specs.FramedHeader.{head_said}
use Rattle.command_words.proofs.framed.read_said.Goals as goal

pub returns-in-Err-BadWords : goal.returns-in-Err-BadWords
unfolding head_said
returns-in-Err-BadWords c =
    let at : first_bad c.args.header.now ≡ Some c.in-Err-BadWords.place = (c.split_words.ensures.refused c.in-Err-BadWords.place).0 (c.in-Err-BadWords.is ∙ ap (λ e. Err e) c.in-Err-BadWords.field-0-is) in
    rw (c.in-Err-BadWords.place-is, at) refl
