-- Columns of tables.
use Rattle.std.specs.Prelude.{ℕ, ◌-◌, ◌/◌, ◌%◌, List, ◌++◌, length, replicate, codes, decimal}
use Rattle.std.specs.Str.{byte}
use Rattle.small_texts.specs.Digits.{two_digits}

-- a text of the first column: 20 wide, or as wide as it is
unfoldable pub label : List ℕ → List ℕ
label text = text ++ replicate (20 - length text) (byte " ")

-- a text of another one: a blank, and 12 wide or as wide as it is, on the right
unfoldable pub right : List ℕ → List ℕ
right text = codes " " ++ replicate (12 - length text) (byte " ") ++ text

abbrev pub number_cell : ℕ → List ℕ
number_cell number = right (decimal number)

-- hundredths, with a point before the last two digits
abbrev pub hundredths : ℕ → List ℕ
hundredths number = decimal (number / 100) ++ codes "." ++ two_digits (number % 100)

-- thousandths as percents, with a point before the last digit
abbrev pub permille : ℕ → List ℕ
permille number = decimal (number / 10) ++ codes "." ++ decimal (number % 10) ++ codes "%"
