use Rattle.std.proofs.Common.{◌≡◌, true, List, [], sym, ap, subst, unwrap_or}
use Rattle.std.specs.List.{list_all}
use Rattle.line_words.specs.Words.{is_word_byte}
use Rattle.slurm_top.proofs.Names.{word_at_is_good}
use Rattle.slurm_top.proofs.place.word_numbered.Goals as goal

pub returns-in-Some-clause-good : goal.returns-in-Some-clause-good
returns-in-Some-clause-good c =
    subst (λ word. list_all is_word_byte word ≡ true) (ap (λ found. unwrap_or found []) (sym c.in-Some.ensures))
    (word_at_is_good c.args.words.now c.saturating_sub.result c.len-all.ensures.good)
