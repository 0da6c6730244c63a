-- Names in traces.
use Rattle.std.specs.Prelude.{ℕ, if◌then◌else◌, List, ◌++◌, Option, None, Some, decimal}
use Rattle.small_texts.specs.Name.{is_name}

-- the name that a text is, where it is one
abbrev pub name_in : List ℕ → Option (List ℕ)
name_in text = if is_name text then Some text else None

-- the name of something that has a number: a word and the number behind it
abbrev pub numbered : List ℕ → Option ℕ → Option (List ℕ)
numbered word None = None
numbered word (Some number) = name_in (word ++ decimal number)
