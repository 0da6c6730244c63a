-- Words that a command takes one after the other. The word at place 0 is the command's name, and has number 1.
use Rattle.std.specs.Prelude.{ℕ, ◌+◌, nat_lt, if◌then◌else◌, List, length, slice_get, Option, Some, None, Result, Ok, Err}
use Rattle.std.specs.Borrow.{Bor}
use Rattle.text_values.specs.Steps.{◌>>=◌}
use Rattle.text_values.specs.declared.word_refusal.WordKind.TheVariants.{MissingWord, StrayWord}
use Rattle.operands.specs.BadWord.{bad, at_word, good, given}
use Rattle.operands.specs.declared.bad_word.BadWord.{BadWord}

abbrev pub wanted : ℕ → Option (List ℕ) → Result (List ℕ) BadWord
wanted number None = bad number MissingWord
wanted number (Some word) = Ok word

-- the word at a place, which must be there
unfoldable pub word_at : List (List ℕ) → ℕ → Result (List ℕ) BadWord
word_at words place = wanted (place + 1) (slice_get words place)

-- the value of the word at a place, which must be there
abbrev pub value_at : {A : Type 0} → (List ℕ → Option A) → List (List ℕ) → ℕ → Result A BadWord
value_at read words place = word_at words place >>= λ text. at_word (place + 1) (good (read text))

-- what is asked, where no word is left at a place
unfoldable pub closed_at : {A : Type 0} → List (List ℕ) → ℕ → A → Result A BadWord
closed_at words place asked = if nat_lt place (length words) then bad (place + 1) StrayWord else Ok asked

-- what a word that may be left out gives
abbrev pub maybe : {A : Type 0} → (List ℕ → Option A) → ℕ → Option (List ℕ) → Result (Option A) BadWord
maybe read number None = Ok None
maybe read number (Some word) = at_word number (given Some (good (read word)))

-- the word that is read, where the code has a reference to it
abbrev pub word_read : Result (Bor (List ℕ)) BadWord → Result (List ℕ) BadWord
word_read (Ok word) = Ok word.now
word_read (Err fault) = Err fault
