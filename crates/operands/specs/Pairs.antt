-- What words of the form `KEY=VALUE` say together.
use Rattle.std.specs.Prelude.{ℕ, ◌+◌, List, [], ◌∷◌, take, drop, Option, Some, None, option_map, Result, Ok, Err}
use Rattle.text_values.specs.Arguments.{equals_place}
use Rattle.text_values.specs.declared.word_refusal.WordKind.{WordKind}
use Rattle.text_values.specs.declared.word_refusal.WordKind.TheVariants.{StrayWord}
use Rattle.operands.specs.BadWord.{at_word}
use Rattle.text_values.specs.Steps.{◌>>=◌}
use Rattle.operands.specs.declared.bad_word.BadWord.{BadWord}

-- the key and the value of a word, which its first equals sign parts
unfoldable pub pair_of : List ℕ → Option (List ℕ × List ℕ)
pair_of word = option_map (λ place. (take place word, drop (place + 1) word)) (equals_place word)

-- what a pair says on top of what was said before, or what is wrong with it
abbrev pub Adding : Type 0 → Type 0
Adding S = S → List ℕ → List ℕ → Result S WordKind

abbrev pub pair_added : {S : Type 0} → Adding S → S → Option (List ℕ × List ℕ) → Result S WordKind
pair_added add said None = Err StrayWord
pair_added add said (Some pair) = add said pair.0 pair.1

-- what words from a number on say, on top of what was said before
abbrev pub pairs_say : {S : Type 0} → Adding S → ℕ → S → List (List ℕ) → Result S BadWord
pairs_say add number said [] = Ok said
pairs_say add number said (word ∷ words) =
    at_word number (pair_added add said (pair_of word)) >>= λ more. pairs_say add (number + 1) more words

-- what is said now, where a pair was added in place
abbrev pub now_said : {S U : Type 0} → Result U WordKind → S → Result S WordKind
now_said (Ok done) said = Ok said
now_said (Err kind) said = Err kind
