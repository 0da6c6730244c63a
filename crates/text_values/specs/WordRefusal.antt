-- How faults of words are printed.
use Rattle.std.specs.Prelude.{ℕ, min, List, codes}
use Rattle.text_values.specs.declared.word_refusal.WordKind.{WordKind}
use Rattle.text_values.specs.declared.word_refusal.WordKind.TheVariants.{UnknownCommand, UnknownOption, MissingValue, MissingWord, BadValue, StrayWord, TooLong, NoHashBang}

-- the number of a word or a line as it is told: one that 32 bits don't hold is told as the greatest
abbrev pub told : ℕ → ℕ
told number = min number 4_294_967_295

abbrev pub kind_text : WordKind → List ℕ
kind_text UnknownCommand = codes "UnknownCommand"
kind_text UnknownOption = codes "UnknownOption"
kind_text MissingValue = codes "MissingValue"
kind_text MissingWord = codes "MissingWord"
kind_text BadValue = codes "BadValue"
kind_text StrayWord = codes "StrayWord"
kind_text TooLong = codes "TooLong"
kind_text NoHashBang = codes "NoHashBang"
