-- Words are texts.
use Rattle.std.proofs.Common.{◌≡◌, ℕ, ◌<◌, ◌≤◌, Bool, true, false, ◌&&◌, ◌||◌, List, [], ◌∷◌, zero, suc, Option, Some, None, IsTrue, get_or, refl, sym, ap, subst, arith}
use Rattle.std.specs.Prelude.{slice_get, unwrap_or, option_copied}
use Rattle.std.specs.List.{list_all}
use Rattle.std.specs.Str.{IsAscii, IsUtf8}
use Rattle.std.proofs.lemmas.Bool.Decides.{nat_tests}
use Rattle.std.proofs.lemmas.Str.{IsUtf8-from_ascii}
use Rattle.line_words.specs.Words.{is_word_byte, are_words}

byte_is_small : (b : ℕ) → is_word_byte b ≡ true → b < 128
byte_is_small b is = grind (arith, nat_tests)

first : (a b : Bool) → a && b ≡ true → a ≡ true
first true b e = refl
first false b e = absurd (cc)

rest : (a b : Bool) → a && b ≡ true → b ≡ true
rest true b e = e
rest false b e = absurd (cc)

word_is_ascii : (word : List ℕ) → list_all is_word_byte word ≡ true → IsAscii word
word_is_ascii [] all k = omega arith
word_is_ascii (b ∷ word) all zero = byte_is_small b (first _ _ all)
word_is_ascii (b ∷ word) all (suc k) = word_is_ascii word (rest _ _ all) k

pub word_is_text : (word : List ℕ) → IsTrue (list_all is_word_byte word) → IsUtf8 word
word_is_text word all = IsUtf8-from_ascii word (word_is_ascii word all)

-- a word among good ones is good
pub word_at_is_good : (words : List (List ℕ)) (k : ℕ) → are_words words ≡ true
    → list_all is_word_byte (unwrap_or (slice_get words k) []) ≡ true
word_at_is_good [] k all = refl
word_at_is_good (word ∷ words) zero all = first _ _ all
word_at_is_good (word ∷ words) (suc k) all = word_at_is_good words k (rest _ _ all)
