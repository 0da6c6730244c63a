use Rattle.std.proofs.Common.{◌≡◌, ◌++◌, drop, map}
use Rattle.line_words.specs.Words.{words_from, prepend}
use Rattle.line_words.specs.declared.words.Mode.TheVariants.{Between}
use Rattle.line_words.proofs.words.split.Given as goal

abbrev pub invariant-loop-b : goal.invariant-loop-b
invariant-loop-b l =
    map (λ word. word.items) l.words.items ++ prepend l.word.items (words_from l.mode (drop l.b-index l.line)) ≡ words_from Between l.line
