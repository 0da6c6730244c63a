use Rattle.std.proofs.Common.{◌≡◌, Some, Err, ap, refl}
use Rattle.line_words.specs.Words.{first_bad}
use Rattle.sbatch_reader.specs.Lines.{split_text}
use Rattle.sbatch_reader.proofs.lines.split_text.Goals as goal

pub returns-in-Err-BadWords : goal.returns-in-Err-BadWords
unfolding split_text
returns-in-Err-BadWords c =
    let bad : first_bad c.args.text.now ≡ Some c.in-Err-BadWords.field-0-0 =
    (c.in-Err-BadWords.ensures.refused c.in-Err-BadWords.field-0-0).0 (ap Err c.in-Err-BadWords.field-0-is) in
    rw bad refl
