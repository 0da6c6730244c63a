-- The logical lines of a configuration file.
use Rattle.std.specs.Prelude.{ℕ, ◌+◌, ◌-◌, Bool, ◌==◌, if◌then◌else◌, List, [], ◌∷◌, ◌++◌, length, take, slice_index, Option, Some, None}
use Rattle.std.specs.Str.{byte}
use Rattle.small_texts.specs.Fields.{fields_of_rest}
use Rattle.conf_reader.specs.declared.lines.LineText.{LineText}
use Rattle.conf_reader.specs.declared.lines.LineText.TheVariants.{Whole, Joined}

-- a logical line, and the number of its first line in the file, where the first has 1
pub record NumberedLine : Type 0 where
  pub number : ℕ
  pub text : List ℕ

-- whether a byte ends a line
abbrev pub ends_with : ℕ → List ℕ → Bool
ends_with byte line = slice_index line (length line - 1) == byte

-- a line without its last byte
abbrev pub without_last : List ℕ → List ℕ
without_last line = take (length line - 1) line

-- a carriage return at a line's end is dropped
unfoldable pub without_return : List ℕ → List ℕ
without_return line = if ends_with (byte "\r") line then without_last line else line

-- the last line has no line feed behind it, so that a carriage return stays there
abbrev pub without_returns : List (List ℕ) → List (List ℕ)
without_returns [] = []
without_returns (last ∷ []) = last ∷ []
without_returns (line ∷ next ∷ lines) = without_return line ∷ without_returns (next ∷ lines)

-- a piece of a line that ends with a backslash, and the logical line that goes on with it
abbrev pub joined : ℕ → List ℕ → List NumberedLine → List NumberedLine
joined number piece [] = record { number = number; text = piece } ∷ []
joined number piece (line ∷ lines) = record { number = number; text = piece ++ line.text } ∷ lines

-- the logical lines of lines from a number on: one that ends with a backslash is joined with what follows
abbrev pub logical_from : ℕ → List (List ℕ) → List NumberedLine
logical_from number [] = []
logical_from number (line ∷ lines) =
    if ends_with (byte "\\") line then joined number (without_last line) (logical_from (number + 1) lines)
    else record { number = number; text = line } ∷ logical_from (number + 1) lines

-- the logical lines of what is left of a file, and none where nothing is
unfoldable pub lines_of_rest : ℕ → Option (List ℕ) → List NumberedLine
lines_of_rest number rest = logical_from number (without_returns (fields_of_rest (byte "\n") rest))

-- the logical lines of a file
abbrev pub logical_lines : List ℕ → List NumberedLine
logical_lines file = lines_of_rest 1 (Some file)

-- the bytes of a line as the reader gives it
abbrev pub line_bytes : LineText → List ℕ
line_bytes (Whole text) = text.now
line_bytes (Joined text) = text.items

-- how many bytes are left of a file, the line feed before them counted
abbrev pub bytes_left : Option (List ℕ) → ℕ
bytes_left None = 0
bytes_left (Some rest) = 1 + length rest
