-- Which texts are names, and which are names of jobs.
use Rattle.std.specs.Prelude.{ℕ, Bool, ◌&&◌, ◌||◌, ◌==◌, List, length}
use Rattle.std.specs.Char.{is_ascii_alphanumeric}
use Rattle.std.specs.Int.{is_in_range}
use Rattle.std.specs.List.{list_all}
use Rattle.std.specs.Str.{byte}

-- a letter, a digit, '_', '-' or '.'
abbrev pub is_name_byte : ℕ → Bool
is_name_byte b = is_ascii_alphanumeric b || (b == byte "_" || b == byte "-" || b == byte ".")

-- a blank, or a byte of ASCII that prints
abbrev pub is_printable : ℕ → Bool
is_printable b = is_in_range 0x20 0x7E b

-- a name has 1 to 64 bytes
unfoldable pub is_name : List ℕ → Bool
is_name text = is_in_range 1 64 (length text) && list_all is_name_byte text

-- a name of a job has 1 to 128 bytes
unfoldable pub is_job_name : List ℕ → Bool
is_job_name text = is_in_range 1 128 (length text) && list_all is_printable text
