use Rattle.std.proofs.Common.{◌≡◌, Some, Err, ap}
use Rattle.line_words.specs.Words.{first_bad}
use Rattle.state_save.proofs.line.split_line.Goals as goal

pub returns-in-Err-BadWords-clause-none : goal.returns-in-Err-BadWords-clause-none
returns-in-Err-BadWords-clause-none c = λ good.
    let bad : first_bad c.args.body.now ≡ Some c.in-Err-BadWords._place = (c.in-Err-BadWords.ensures.refused c.in-Err-BadWords._place).0 (ap Err c.in-Err-BadWords.field-0-is) in
    cc
