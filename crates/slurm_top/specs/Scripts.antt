-- Where what is attached to a command is, and how it is read. It is called a script, also where it is a configuration.
use Rattle.std.specs.Prelude.{◌≡◌, ℕ, ◌+◌, ◌-◌, ◌<◌, ◌≤◌, Bool, true, false, if◌then◌else◌, List, [], ◌++◌, length, slice_get, Option, Some, None, option_map, unwrap_or, IfSome, IsSomeAnd, Vec, Result, Ok, Err, MatchResult}
use Rattle.std.specs.List.{list_any}
use Rattle.std.specs.declared.alloc.Global.{Global}
use Rattle.std.specs.Io.KnownBytes.{Consumes, Keeps, IsAtEnd}
use Rattle.slurm_io.specs.Faults.{CountsOne}
use Rattle.slurm_io.specs.Shelf.{ShelfFile, bytes_named}
use Rattle.slurm_io.specs.Wire.{Wire}
use Rattle.command_words.specs.declared.command.Command.{Command}
use Rattle.command_words.specs.declared.command.Command.TheVariants.{Sbatch, Scontrol}
use Rattle.command_words.specs.Reconfigure.{is_reconfigure}
use Rattle.text_values.specs.Arguments.{Part, valued, lacking}
use Rattle.text_values.specs.WordRefusal.{told}
use Rattle.sbatch_reader.specs.declared.table.FlagOption.{FlagOption}
use Rattle.sbatch_reader.specs.declared.table.ValueOption.{ValueOption}
use Rattle.sbatch_reader.specs.declared.table.ValueOption.TheVariants.{Wrap}
use Rattle.sbatch_reader.specs.Job.{script_word}
use Rattle.sbatch_reader.specs.Said.{command_parts}
use Rattle.slurm_top.specs.declared.refusal.ScriptRefusal.{ScriptRefusal}
use Rattle.slurm_top.specs.declared.refusal.ScriptRefusal.TheVariants.{ReadFault, TooLong, Memory}
use Rattle.slurm_top.specs.declared.refusal.TheConstants.{LONGEST_SCRIPT}
use Rattle.slurm_top.specs.Outside.{Outside}

-- where a script is: nowhere, in a file of a name, or in the input
pub data Place : Type 0 where
  Nowhere : Place
  File : List ℕ → Place
  Input : Place

-- an option that stands for a script
abbrev pub is_wrap_option : ValueOption → Bool
is_wrap_option Wrap = true
is_wrap_option option = false

abbrev pub is_wrap : Part FlagOption ValueOption → Bool
is_wrap (valued number option place text) = is_wrap_option option
is_wrap (lacking number option) = is_wrap_option option
is_wrap part = false

-- whether `--wrap` is among the words of a command
abbrev pub has_wrap : List (List ℕ) → Bool
has_wrap words = list_any is_wrap (command_parts words)

-- the word of a number; words have numbers from 1 on
abbrev pub word_numbered : List (List ℕ) → ℕ → List ℕ
word_numbered words number = unwrap_or (slice_get words (number - 1)) []

-- where the script of sbatch is: in the file that a word of the command names, and else in the input, but with `--wrap`
abbrev pub sbatch_place : List (List ℕ) → Option ℕ → Place
sbatch_place words (Some number) = File (word_numbered words number)
sbatch_place words None = if has_wrap words then Nowhere else Input

-- the number of the word that names the script
abbrev pub told_word : List (List ℕ) → Option ℕ
told_word words = option_map (λ word. told word.0) (script_word words)

-- where what is attached to a command is: the script of sbatch, and the configuration of `scontrol reconfigure`, which is
-- in the input; no other has any
unfoldable pub script_place : Command → List (List ℕ) → Place
script_place Sbatch words = sbatch_place words (told_word words)
script_place Scontrol words = if is_reconfigure words then Input else Nowhere
script_place command words = Nowhere

-- a script is as long as one may be
abbrev pub IsShort : List ℕ → Type 0
IsShort script = length script ≤ LONGEST_SCRIPT

-- a script is longer
abbrev pub IsLong : List ℕ → Type 0
IsLong script = LONGEST_SCRIPT < length script

-- A script was read where it is, and nothing else was.
abbrev pub IsScript : Place → Outside → Outside → Option (List ℕ) → Type 0
IsScript Nowhere old new None = new ≡ old
-- all of a file, where the files are told
IsScript (File name) old new (Some script) =
    IfSome old.files (λ files. bytes_named files name ≡ Some script) × IsShort script × (new ≡ old)
-- all of the input
IsScript Input old new (Some script) =
    Consumes old.wire.left new.wire.left script × IsAtEnd new.wire.left × IsShort script
    × (new ≡ record old { wire = record old.wire { left = new.wire.left } })
IsScript place old new script = ⊥

-- Why no script was read, and what was.
abbrev pub IsRefused : Place → Outside → Outside → ScriptRefusal → Type 0
IsRefused Nowhere old new refusal = ⊥
-- a read of the file failed
IsRefused (File name) old new ReadFault = CountsOne old.faults new.faults × (new ≡ record old { faults = new.faults })
-- the file is longer than a script may be, where the files are told
IsRefused (File name) old new TooLong =
    IfSome old.files (λ files. IsSomeAnd (bytes_named files name) IsLong) × (new ≡ old)
IsRefused (File name) old new Memory = new ≡ old
-- a read of the input failed, behind no more than the longest script
IsRefused Input old new ReadFault =
    ((read : List ℕ) × Consumes old.wire.left new.wire.left read × IsShort read)
    × CountsOne old.wire.reads new.wire.reads
    × (new ≡ record old { wire = record old.wire { left = new.wire.left; reads = new.wire.reads } })
-- one byte more than the longest script has was read
IsRefused Input old new TooLong =
    ((read : List ℕ) × Consumes old.wire.left new.wire.left read × (length read ≡ LONGEST_SCRIPT + 1))
    × (new ≡ record old { wire = record old.wire { left = new.wire.left } })
IsRefused Input old new Memory =
    ((read : List ℕ) × Consumes old.wire.left new.wire.left read)
    × (new ≡ record old { wire = record old.wire { left = new.wire.left } })

-- what became of a script
abbrev pub IsReading : Place → Outside → Outside → Result (Option (Vec ℕ Global)) ScriptRefusal → Type 0
IsReading place old new result =
    MatchResult result (λ script. IsScript place old new (option_map (λ bytes. bytes.items) script)) (IsRefused place old new)

-- A script is told to be longer than one may be: by the shelf, or by the input.
abbrev pub IsToldLong : Place → Outside → Type 0
IsToldLong Nowhere old = ⊥
IsToldLong (File name) old = IsSomeAnd old.files (λ files. IsSomeAnd (bytes_named files name) IsLong)
IsToldLong Input old = IsSomeAnd old.wire.left IsLong

-- A script is longer than one may be, so far as the shelf or the input tells it.
abbrev pub IsLongWhereTold : Place → Outside → Type 0
IsLongWhereTold Nowhere old = ⊥
IsLongWhereTold (File name) old = IfSome old.files (λ files. IsSomeAnd (bytes_named files name) IsLong)
IsLongWhereTold Input old = IfSome old.wire.left IsLong

-- ---- the two ways of reading one

-- what became of a script in a file, of the files that a shelf tells and its count
abbrev pub IsFileRead : Option (List ShelfFile) → List ℕ → ℕ → ℕ → Result (Vec ℕ Global) ScriptRefusal → Type 0
IsFileRead told name before after (Ok script) =
    IfSome told (λ files. bytes_named files name ≡ Some script.items) × IsShort script.items × (after ≡ before)
IsFileRead told name before after (Err ReadFault) = CountsOne before after
IsFileRead told name before after (Err TooLong) =
    IfSome told (λ files. IsSomeAnd (bytes_named files name) IsLong) × (after ≡ before)
IsFileRead told name before after (Err Memory) = after ≡ before

-- one read of the input brought so many bytes, none at its end; or it failed; or memory was wanting for what it brought
abbrev pub Brings : Wire → Wire → List ℕ → List ℕ → ℕ → Result ℕ ScriptRefusal → Type 0
Brings old new bytes bytes' most (Ok count) =
    ((read : List ℕ) × Consumes old.left new.left read × (bytes' ≡ bytes ++ read) × (length read ≡ count))
    × (count ≡ 0 → IsAtEnd new.left) × (count ≤ most) × (new.reads ≡ old.reads)
Brings old new bytes bytes' most (Err ReadFault) =
    Keeps old.left new.left × (bytes' ≡ bytes) × CountsOne old.reads new.reads
Brings old new bytes bytes' most (Err TooLong) = ⊥
Brings old new bytes bytes' most (Err Memory) =
    ((read : List ℕ) × Consumes old.left new.left read) × (new.reads ≡ old.reads)

-- what became of a script in the input
abbrev pub IsInputRead : Wire → Wire → Result (Vec ℕ Global) ScriptRefusal → Type 0
IsInputRead old new (Ok script) =
    Consumes old.left new.left script.items × IsAtEnd new.left × IsShort script.items × (new.reads ≡ old.reads)
IsInputRead old new (Err ReadFault) =
    ((read : List ℕ) × Consumes old.left new.left read × IsShort read) × CountsOne old.reads new.reads
IsInputRead old new (Err TooLong) =
    ((read : List ℕ) × Consumes old.left new.left read × (length read ≡ LONGEST_SCRIPT + 1)) × (new.reads ≡ old.reads)
IsInputRead old new (Err Memory) = ((read : List ℕ) × Consumes old.left new.left read) × (new.reads ≡ old.reads)
