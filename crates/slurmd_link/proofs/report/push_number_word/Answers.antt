use Rattle.std.proofs.Common.{◌++◌, ap, ◌∙◌, decimal}
use Rattle.std.specs.List.{list_all}
use Rattle.line_words.specs.Words.{is_word_byte}
use Rattle.slurmd_link.proofs.WordBytes.{decimal_good}
use Rattle.slurmd_link.proofs.report.push_number_word.Goals as goal

pub push-requires : goal.push-requires
push-requires c =
    let text = c.in_ok-push_number.ensures ∙ ap (λ t. t ++ decimal c.args.number) c.new-word.ensures.items in
    ap (list_all is_word_byte) text ∙ decimal_good c.args.number c.ranges.number.fits
