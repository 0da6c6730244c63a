use Rattle.std.proofs.Common.{ap, ◌∙◌}
use Rattle.small_texts.specs.Moment.{moment_of}
use Rattle.small_texts.proofs.MomentLemmas.{moment_read}
use Rattle.small_texts.proofs.moment.print_moment.Goals as goal

pub returns-clause-read : goal.returns-clause-read
returns-clause-read c = λ small now.
    ap (λ text. moment_of text now) c.moment_text.ensures.text ∙ moment_read c.args.moment now small c.moment_text.ensures.civil
