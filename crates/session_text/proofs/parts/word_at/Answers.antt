use Rattle.session_text.proofs.WordParts.{good_word, never_none}
use Rattle.session_text.proofs.parts.word_at.Goals as goal

pub unreachable-requires : goal.unreachable-requires
unreachable-requires c = absurd (never_none c.args.words.now c.args.place c.requires c.in-None.ensures)

pub returns-clause-good : goal.returns-clause-good
returns-clause-good c =
    good_word c.args.words.now c.args.place c.in-Some.word.now c.len-all.ensures.good c.requires c.in-Some.ensures
