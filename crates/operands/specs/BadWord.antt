-- Bad words of a command, by their numbers.
use Rattle.std.specs.Prelude.{ℕ, Option, ok_or, Result, Ok, Err}
use Rattle.text_values.specs.WordRefusal.{told}
use Rattle.text_values.specs.declared.word_refusal.WordKind.{WordKind}
use Rattle.text_values.specs.declared.word_refusal.WordKind.TheVariants.{BadValue}
use Rattle.operands.specs.declared.bad_word.BadWord.{BadWord}

abbrev pub bad : {A : Type 0} → ℕ → WordKind → Result A BadWord
bad number kind = Err (record { word = told number; kind = kind })

-- what the word of a number gives, or what is wrong with it
abbrev pub at_word : {A : Type 0} → ℕ → Result A WordKind → Result A BadWord
at_word number (Ok a) = Ok a
at_word number (Err kind) = bad number kind

-- a value that a text has, or else is wrong for
abbrev pub good : {A : Type 0} → Option A → Result A WordKind
good value = ok_or value BadValue

-- the same with another value
abbrev pub given : {A B E : Type 0} → (A → B) → Result A E → Result B E
given f (Ok a) = Ok (f a)
given f (Err e) = Err e
