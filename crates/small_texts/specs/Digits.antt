-- Numbers written in decimal digits.
use Rattle.std.specs.Prelude.{ℕ, ◌+◌, ◌/◌, ◌%◌, Bool, ◌&&◌, nat_lt, nat_le, if◌then◌else◌, List, [], ◌∷◌, length, drop, Option, Some, None}
use Rattle.std.specs.Char.{is_ascii_digit}
use Rattle.std.specs.List.{take_while, prefix_len}
use Rattle.std.specs.Str.{all_ascii_digits}
use Rattle.std.specs.Str.Parse.{digits_value}

-- the text has from one to `most` bytes, and each is a decimal digit
abbrev pub is_number : ℕ → List ℕ → Bool
is_number most text = nat_lt 0 (length text) && nat_le (length text) most && all_ascii_digits text

-- the number that such a text writes, where it is at most `greatest`; no other text writes one
unfoldable pub number_within : ℕ → ℕ → List ℕ → Option ℕ
number_within most greatest text =
    if is_number most text && nat_le (digits_value 10 text) greatest then Some (digits_value 10 text) else None

-- a number below 100 in two digits
abbrev pub two_digits : ℕ → List ℕ
two_digits n = (48 + n / 10) ∷ (48 + n % 10) ∷ []

-- the digits that begin a text
abbrev pub leading_digits : List ℕ → List ℕ
leading_digits text = take_while is_ascii_digit text

-- what follows them
abbrev pub after_digits : List ℕ → List ℕ
after_digits text = drop (prefix_len is_ascii_digit text) text
