use Rattle.text_values.proofs.WordLemmas.{word_there}
use Rattle.text_values.proofs.arguments.word_at.Goals as goal

pub returns-then-place-len-clause-word : goal.returns-then-place-len-clause-word
returns-then-place-len-clause-word c =
    word_there c.args.words.now c.args.place c.get.result c.get.ensures (rw c.len.ensures.value at c.if-place-len.true)
