-- A format: columns between bytes that stand for themselves. squeue(1), `--format`.
use Rattle.std.specs.Prelude.{ℕ, ◌==◌, Bool, true, false, nat_le, if◌then◌else◌, List, [], ◌∷◌, ◌++◌, drop, map, slice_get, codes, Option, Some, None, option_map}
use Rattle.std.specs.Str.{byte}
use Rattle.small_texts.specs.Digits.{number_within, leading_digits, after_digits}
use Rattle.small_texts.specs.Fields.{fields}
use Rattle.small_texts.specs.Options.{◌>>=◌}
use Rattle.request_data.specs.declared.query.JobColumn.{JobColumn}
use Rattle.request_data.specs.declared.query.JobColumn.TheVariants as column
use Rattle.request_data.specs.declared.query.Piece.{Piece}
use Rattle.request_data.specs.declared.query.Piece.TheVariants.{Plain, Column}

-- the letters of the columns
abbrev pub letters : List (ℕ × JobColumn)
letters =
    (byte "i", column.Id) ∷ (byte "P", column.Partition) ∷ (byte "j", column.JobName) ∷ (byte "u", column.User)
    ∷ (byte "a", column.Account) ∷ (byte "q", column.Qos) ∷ (byte "t", column.Code) ∷ (byte "T", column.State)
    ∷ (byte "M", column.Time) ∷ (byte "D", column.Nodes) ∷ (byte "R", column.Place) ∷ (byte "S", column.Start)
    ∷ (byte "Q", column.Priority) ∷ (byte "l", column.Limit) ∷ (byte "C", column.Cpus) ∷ []

-- the column of a letter, by rows of letters
abbrev pub column_among : List (ℕ × JobColumn) → ℕ → Option JobColumn
column_among [] letter = None
column_among (row ∷ rows) letter = if row.0 == letter then Some row.1 else column_among rows letter

unfoldable pub column_of : ℕ → Option JobColumn
column_of letter = column_among letters letter

-- digits are a width from 1 to 1,024; without digits there is none
unfoldable pub width_of : List ℕ → Option (Option ℕ)
width_of [] = Some None
width_of digits = number_within 10 1024 digits >>= λ width. if nat_le 1 width then Some (Some width) else None

-- bytes that stand for themselves
abbrev pub plain : List ℕ → List Piece
plain bytes = map Plain bytes

-- behind the digits of a width stands the letter of a column
unfoldable pub column_by : Bool → List ℕ → List ℕ → Option (List Piece)
column_by dot digits rest = do
  width ← width_of digits
  letter ← slice_get rest 0
  column ← column_of letter
  Some (Column column width dot ∷ plain (drop 1 rest))

-- behind an optional dot stand the digits of an optional width
abbrev pub column_behind : Bool → List ℕ → Option (List Piece)
column_behind dot text = column_by dot (leading_digits text) (after_digits text)

-- what follows a percent sign, up to the next: a column, and bytes that stand for themselves
unfoldable pub part_in : List ℕ → Option (List Piece)
part_in [] = None
part_in (mark ∷ text) = if mark == byte "." then column_behind true text else column_behind false (mark ∷ text)

-- what stands before the first percent sign, and what follows each
abbrev pub pieces_of : List (List ℕ) → Option (List Piece)
pieces_of [] = Some []
pieces_of (part ∷ parts) = do
  pieces ← part_in part
  later ← pieces_of parts
  Some (pieces ++ later)

abbrev pub format_of : List (List ℕ) → Option (List Piece)
format_of [] = Some []
format_of (first ∷ parts) = option_map (λ pieces. plain first ++ pieces) (pieces_of parts)

-- the pieces of a text
unfoldable pub format_in : List ℕ → Option (List Piece)
format_in text = format_of (fields (byte "%") text)

-- the usual formats: of jobs, and of their expected starts
abbrev pub usual_text : Bool → List ℕ
usual_text false = codes "%.18i %.9P %.8j %.8u %.2t %.10M %.6D %R"
usual_text true = codes "%.18i %.9P %.8j %.8u %.2t %.19S %.6D %R"

abbrev pub or_nothing : Option (List Piece) → List Piece
or_nothing None = []
or_nothing (Some pieces) = pieces

unfoldable pub usual : Bool → List Piece
usual starts = or_nothing (format_in (usual_text starts))
