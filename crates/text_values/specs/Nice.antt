-- Nice values.
use Rattle.std.specs.Prelude.{ℕ, ◌==◌, if◌then◌else◌, List, [], ◌∷◌, Option, None, option_map}
use Rattle.std.specs.Str.{byte}
use Rattle.small_texts.specs.Digits.{number_within}
use Rattle.plain_data.specs.declared.nice.Nice.{Nice}
use Rattle.plain_data.specs.declared.nice.Nice.TheVariants.{Lower, Raise}

-- a nice value without its sign
abbrev pub nice_number : List ℕ → Option ℕ
nice_number text = number_within 10 2_147_483_645 text

abbrev pub raised : ℕ → Nice
raised number = if number == 0 then Lower 0 else Raise number

-- a nice value, which a dash makes negative
unfoldable pub nice_in : List ℕ → Option Nice
nice_in [] = None
nice_in (mark ∷ text) =
    if mark == byte "-" then option_map raised (nice_number text) else option_map Lower (nice_number (mark ∷ text))
