use Rattle.worked_rows.proofs.Meaning.{nothing-stays_open, words-are_meant}
use Rattle.worked_rows.proofs.words.a_sentence_says_what_its_words_mean.Goals as goal

pub returns : goal.returns
returns c = record { words = words-are_meant; closed = nothing-stays_open }
