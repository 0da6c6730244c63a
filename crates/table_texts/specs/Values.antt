-- Values of single pairs of scontrol's lines.
use Rattle.std.specs.Prelude.{ℕ, List, [], ◌∷◌, Option, Some, None, codes, decimal}
use Rattle.host_lists.specs.Folding.{folded, with_commas}
use Rattle.small_texts.specs.Moment.{moment_text}

-- what stands for nothing
abbrev pub null : List ℕ
null = codes "(null)"

abbrev pub number_or_null : Option ℕ → List ℕ
number_or_null None = null
number_or_null (Some number) = decimal number

abbrev pub moment_or_null : Option ℕ → List ℕ
moment_or_null None = null
moment_or_null (Some second) = moment_text second

-- the folded names of hosts
abbrev pub hosts_or_null : List (List ℕ) → List ℕ
hosts_or_null [] = null
hosts_or_null (name ∷ names) = folded (name ∷ names)

-- names with commas between them
abbrev pub names_or_null : List (List ℕ) → List ℕ
names_or_null [] = null
names_or_null (name ∷ names) = with_commas (name ∷ names)
