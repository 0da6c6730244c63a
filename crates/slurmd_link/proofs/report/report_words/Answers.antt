use Rattle.std.proofs.Common.{ap, ◌∙◌}
use Rattle.std.specs.List.{list_all}
use Rattle.line_words.specs.Words.{is_word_byte}
use Rattle.slurmd_link.proofs.WordBytes.{name_good}
use Rattle.slurmd_link.proofs.report.report_words.Goals as goal

pub push-requires-2 : goal.push-requires-2
push-requires-2 c =
    let text = c.in_ok-from_slice-2.ensures.items ∙ c.as_bytes.ensures.value in
    ap (list_all is_word_byte) text ∙ name_good c.args.report.now.node c.as_bytes.ensures.named
