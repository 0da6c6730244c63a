-- The files that calls name, and what was read of them.
use Rattle.std.specs.Prelude.{◌≡◌, ℕ, ◌-◌, List, take, slice_get, Option, Some, None, IfSome, IsSomeAnd}
use Rattle.slurm_io.specs.Faults.{CountsOne}
use Rattle.slurm_io.specs.Shelf.{ShelfFile, bytes_named}
use Rattle.session_text.specs.declared.call.Call.{Call}
use Rattle.session_text.specs.declared.call.Script.{Script}
use Rattle.session_text.specs.declared.call.Script.TheVariants.{Named}
use Rattle.session_text.specs.declared.reader.Heard.{Heard}
use Rattle.session_text.specs.declared.reader.Heard.TheVariants.{Asks}

-- the word of a call that names the file of its script
abbrev pub word_of : Script → List (List ℕ) → Option (List ℕ)
word_of (Named number) words = slice_get words (number - 1)
word_of script words = None

-- the file that its script is in, where it names one
abbrev pub script_name : Call → Option (List ℕ)
script_name call = word_of call.script call.words

-- the file that is named in what is heard in a line
abbrev pub file_named : Heard → Option (List ℕ)
file_named (Asks call) = script_name call
file_named heard = None

-- What was read where this file is named, on a shelf that tells these files, by its count of faults before and after:
-- the file, of one that is too long the first 65,537 bytes; nothing where a read failed, as of a file that isn't there;
-- and nothing where none is named.
abbrev pub IsRead : Option (List ShelfFile) → ℕ → ℕ → Option (List ℕ) → Option (List ℕ) → Type 0
IsRead told before after (Some name) (Some text) =
    IfSome told (λ files. IsSomeAnd (bytes_named files name) (λ file. text ≡ take 65_537 file)) × (after ≡ before)
IsRead told before after (Some name) None = CountsOne before after
IsRead told before after None text = (text ≡ None) × (after ≡ before)

-- What is said of what was read alone: it is the file that is named, where the shelf tells its files.
abbrev pub IsFileOf : Option (List ShelfFile) → Option (List ℕ) → Option (List ℕ) → Type 0
IsFileOf told (Some name) (Some text) =
    IfSome told (λ files. IsSomeAnd (bytes_named files name) (λ file. text ≡ take 65_537 file))
IsFileOf told None (Some text) = ⊥
IsFileOf told named None = Unit {0}
