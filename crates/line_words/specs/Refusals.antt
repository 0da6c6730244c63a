-- What is told of a line, or of a list of texts, that was refused.
use Rattle.std.specs.Prelude.{ℕ, List, ◌++◌, codes, decimal}
use Rattle.line_words.specs.declared.words.WordsRefusal.{WordsRefusal}
use Rattle.line_words.specs.declared.words.WordsRefusal.TheVariants.{BadWords, BadWord, Memory}

abbrev pub words_message : WordsRefusal → List ℕ
words_message (BadWords place) = codes "bad words at byte " ++ decimal place
words_message (BadWord place) = codes "bad byte in word " ++ decimal place
words_message Memory = codes "out of memory"
