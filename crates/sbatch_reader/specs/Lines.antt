-- What the lines of a script say.
use Rattle.std.specs.Prelude.{ℕ, ◌+◌, Bool, true, false, ◌&&◌, ◌||◌, if◌then◌else◌, List, [], ◌∷◌, ◌++◌, drop, bytes_eq, nat_eq, codes, Option, Some, None, is_some, Err, ok_or}
use Rattle.std.specs.List.{starts_with, list_all}
use Rattle.std.specs.Str.{byte}
use Rattle.small_texts.specs.Fields.{fields}
use Rattle.small_texts.specs.Options.{◌>>=◌}
use Rattle.line_words.specs.Words.{is_blank, before_comment, first_bad, words_in}
use Rattle.text_values.specs.declared.word_refusal.WordKind.TheVariants.{BadValue, NoHashBang}
use Rattle.text_values.specs.Numbers.{number_in}
use Rattle.sbatch_reader.specs.declared.entries.Entry.{Entry}
use Rattle.sbatch_reader.specs.declared.entries.Entry.TheVariants.{Run}
use Rattle.text_values.specs.WordRefusal.{told}
use Rattle.sbatch_reader.specs.Said.{line_says}
use Rattle.sbatch_reader.specs.declared.refusal.Place.TheVariants.{Line}
use Rattle.sbatch_reader.specs.declared.said.Said.{Said}

-- lines are read as long as they are blank or begin with #
abbrev pub is_read : List ℕ → Bool
is_read line = starts_with nat_eq line (codes "#") || list_all is_blank line

abbrev pub begins_blank : List ℕ → Bool
begins_blank [] = false
begins_blank (b ∷ text) = is_blank b

abbrev pub begins_or_ends : List ℕ → Bool
begins_or_ends [] = true
begins_or_ends (b ∷ text) = is_blank b

-- `#SBATCH` and a blank
abbrev pub has_options : List ℕ → Bool
has_options line = starts_with nat_eq line (codes "#SBATCH") && begins_blank (drop 7 line)

-- `#SIM`, alone or with a blank behind it
abbrev pub has_run : List ℕ → Bool
has_run line = starts_with nat_eq line (codes "#SIM") && begins_or_ends (drop 4 line)

-- what stands behind the key of `key=value`, by the fields at =
abbrev pub keyed : List ℕ → List (List ℕ) → Option (List ℕ)
keyed key (name ∷ value ∷ []) = if bytes_eq name key then Some value else None
keyed key _ = None

-- `#SIM run=SECONDS exit=CODE`, by the fields at blanks
unfoldable pub run_of : List (List ℕ) → Option Entry
run_of (mark ∷ run ∷ exit ∷ []) = do
  seconds ← keyed (codes "run") (fields (byte "=") run) >>= number_in 1 2_000_000_000
  code ← keyed (codes "exit") (fields (byte "=") exit) >>= number_in 0 255
  if bytes_eq mark (codes "#SIM") then Some (Run seconds code) else None
run_of _ = None

abbrev pub run_says : ℕ → List ℕ → Said
run_says number line = record { place = Line (told number); what = ok_or (run_of (fields (byte " ") line)) BadValue }

-- the words of a text, where it is a list of words
unfoldable pub split_text : List ℕ → Option (List (List ℕ))
split_text text = if is_some (first_bad text) then None else Some (words_in text)

abbrev pub split_says : ℕ → ℕ → Option (List (List ℕ)) → List Said
split_says now number None = record { place = Line (told number); what = Err BadValue } ∷ []
split_says now number (Some words) = line_says now number words

-- what stands behind `#SBATCH` says, up to a comment
abbrev pub options_say : ℕ → ℕ → List ℕ → List Said
options_say now number text = split_says now number (split_text (before_comment text))

-- what a line says, which is nothing where it is a comment
unfoldable pub one_line_says : ℕ → ℕ → List ℕ → List Said
one_line_says now number line =
    if has_options line then options_say now number (drop 7 line)
    else (if has_run line then run_says number line ∷ [] else [])

-- what lines from a number on say, up to the first that isn't read
abbrev pub lines_say : ℕ → ℕ → List (List ℕ) → List Said
lines_say now number [] = []
lines_say now number (line ∷ lines) =
    if is_read line then one_line_says now number line ++ lines_say now (number + 1) lines else []

-- the first line begins with `#!`
abbrev pub first_says : List ℕ → List Said
first_says line =
    if starts_with nat_eq line (codes "#!") then [] else record { place = Line 1; what = Err NoHashBang } ∷ []

abbrev pub script_lines_say : ℕ → List (List ℕ) → List Said
script_lines_say now [] = []
script_lines_say now (first ∷ lines) = first_says first ++ lines_say now 2 lines

-- what a script says, whose lines end at line feeds
unfoldable pub script_says : ℕ → List ℕ → List Said
script_says now script = script_lines_say now (fields (byte "\n") script)
