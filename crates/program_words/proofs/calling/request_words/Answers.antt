use Rattle.std.proofs.Common.{Err, map, string_bytes, sym, ap, ◌∙◌, arith}
use Rattle.std.proofs.lemmas.List.{length-map}
use Rattle.line_words.specs.Words.{first_bad_word}
use Rattle.program_words.proofs.Headers.{bad_word, many_words}
use Rattle.program_words.proofs.calling.request_words.Goals as goal

pub returns-then-words-ge-MOST_WORDS : goal.returns-then-words-ge-MOST_WORDS
returns-then-words-ge-MOST_WORDS c = λ user.
    many_words user _ _ (omega (arith, c.if-words-ge-MOST_WORDS.true, length-map c.args.words.now string_bytes))

pub returns-in-Err-BadWord : goal.returns-in-Err-BadWord
returns-in-Err-BadWord c = λ user.
    let same = ap (map string_bytes) c.as_slice.ensures.value ∙ c.in_ok-list.ensures in
    let bad = (c.in-Err-BadWord.ensures.refused c.in-Err-BadWord._place).0 (ap Err c.in-Err-BadWord.field-0-is) in
    bad_word user _ _ (ap first_bad_word (sym same) ∙ bad)
