-- Texts of amounts of memory.
use Rattle.std.specs.Prelude.{ℕ, ◌+◌, ◌*◌, ◌/◌, nat_le, ◌==◌, if◌then◌else◌, List, [], ◌∷◌, Option, None, Some}
use Rattle.std.specs.Char.{to_ascii_uppercase}
use Rattle.std.specs.Str.{byte}
use Rattle.small_texts.specs.Digits.{number_within, leading_digits, after_digits}
use Rattle.small_texts.specs.Options.{◌>>=◌}

-- so many units in megabytes, by the unit's capital letter: kilobytes round up
abbrev pub by_letter : ℕ → ℕ → Option ℕ
by_letter letter number =
    if letter == byte "K" then Some ((number + 1023) / 1024)
    else (if letter == byte "M" then Some number
    else (if letter == byte "G" then Some (number * 1024)
    else (if letter == byte "T" then Some (number * 1_048_576)
    else None)))

-- the same by what follows the number: nothing, which is megabytes, or one letter in either case
unfoldable pub in_megabytes : ℕ → List ℕ → Option ℕ
in_megabytes number [] = Some number
in_megabytes number (letter ∷ []) = by_letter (to_ascii_uppercase letter) number
in_megabytes number _ = None

-- there are at most 16,777,216
abbrev pub up_to_all : ℕ → Option ℕ
up_to_all megabytes = if nat_le megabytes 16_777_216 then Some megabytes else None

-- the megabytes of a text: one to twelve digits, and maybe a unit; 0 is all memory of each node
unfoldable pub megabytes_of : List ℕ → Option ℕ
megabytes_of text = do
  number ← number_within 12 999_999_999_999 (leading_digits text)
  megabytes ← in_megabytes number (after_digits text)
  up_to_all megabytes
