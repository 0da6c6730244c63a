-- How a length of time is printed.
use Rattle.std.specs.Prelude.{ℕ, ◌/◌, ◌%◌, nat_lt, if◌then◌else◌, List, ◌++◌, codes}
use Rattle.std.specs.Fmt.{decimal}
use Rattle.small_texts.specs.Digits.{two_digits}

-- `m:ss`
abbrev pub minutes_text : ℕ → List ℕ
minutes_text seconds = decimal (seconds / 60) ++ codes ":" ++ two_digits (seconds % 60)

-- `h:mm:ss`
abbrev pub hours_text : ℕ → List ℕ
hours_text seconds =
    decimal (seconds / 3600) ++ codes ":" ++ two_digits (seconds / 60 % 60) ++ codes ":" ++ two_digits (seconds % 60)

-- `d-hh:mm:ss`
abbrev pub days_text : ℕ → List ℕ
days_text seconds =
    decimal (seconds / 86_400) ++ codes "-" ++ two_digits (seconds / 3600 % 24) ++ codes ":"
    ++ two_digits (seconds / 60 % 60) ++ codes ":" ++ two_digits (seconds % 60)

-- minutes and seconds below an hour, hours before them below a day, else days too
unfoldable pub elapsed_text : ℕ → List ℕ
elapsed_text seconds =
    if nat_lt seconds 3600 then minutes_text seconds
    else (if nat_lt seconds 86_400 then hours_text seconds else days_text seconds)
