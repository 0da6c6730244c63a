-- A line without its end.
use Rattle.std.proofs.Common.{◌≡◌, ℕ, ◌-◌, true, None, List, [], ◌∷◌, length, take, sym, ap, ◌∙◌, arith, length-append}
use Rattle.std.proofs.lemmas.List.{take_at}
use Rattle.line_words.specs.Words.{are_words, first_bad, quoted_words, words_in}
use Rattle.line_words.proofs.Quotes.{first_bad-quoted_words, words_in-quoted_words}
use Rattle.state_save.specs.Saved.{line_text}

pub body_of : (words : List (List ℕ)) (line : List ℕ) → line_text words ≡ line → quoted_words words ≡ take (length line - 1) line
unfolding line_text
body_of words line is =
    let n : length (quoted_words words) ≡ length line - 1 = omega (arith, ap length is, length-append (quoted_words words) (10 ∷ [])) in
    sym (take_at (quoted_words words) (10 ∷ []) (length line - 1) n) ∙ ap (take (length line - 1)) is

-- words that were written are read
pub written_good : (words : List (List ℕ)) (body : List ℕ) → are_words words ≡ true → quoted_words words ≡ body → first_bad body ≡ None
written_good words body good is = ap first_bad (sym is) ∙ first_bad-quoted_words words good

pub written_back : (words : List (List ℕ)) (body : List ℕ) → quoted_words words ≡ body → words_in body ≡ words
written_back words body is = ap words_in (sym is) ∙ words_in-quoted_words words
