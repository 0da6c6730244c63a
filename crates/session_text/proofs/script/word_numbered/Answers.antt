use Rattle.session_text.proofs.WordTexts.{found_is_good}
use Rattle.session_text.proofs.script.word_numbered.Goals as goal

pub returns-clause-good : goal.returns-clause-good
returns-clause-good c =
    found_is_good c.args.words.now c.saturating_sub.result c.get.result c.len-all.ensures.good c.get.ensures
