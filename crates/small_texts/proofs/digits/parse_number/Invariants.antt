use Rattle.std.proofs.Common.{◌≡◌, ◌≤◌, true, take}
use Rattle.std.specs.Str.{all_ascii_digits}
use Rattle.std.specs.Str.Parse.{digits_value}
use Rattle.small_texts.proofs.digits.parse_number.Given as goal

-- the bytes so far are digits, and the number is the one that they write
abbrev pub invariant-loop-digit : goal.invariant-loop-digit
invariant-loop-digit l =
    (all_ascii_digits (take l.digit-index l.text) ≡ true) × (l.number ≡ digits_value 10 (take l.digit-index l.text)) × (l.number ≤ l.greatest)
