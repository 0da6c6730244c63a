use Rattle.session_text.proofs.WordTexts.{word_is_text}
use Rattle.session_text.proofs.script.text_of.Goals as goal

pub unreachable-requires : goal.unreachable-requires
unreachable-requires c = absurd (c.in-Err.ensures.cases.0 (word_is_text c.args.word.now c.requires))
