-- What a program tells of a bad file, and the status that it ends with.
use Rattle.std.specs.Prelude.{ℕ, List, ◌++◌, codes, decimal}
use Rattle.assoc_reader.specs.Refusal
use Rattle.text_values.specs.ConfRefusal.{kind_text}
use Rattle.cluster_opening.specs.declared.refusal.BadFile.{BadFile}
use Rattle.cluster_opening.specs.declared.refusal.BadFile.TheVariants.{Conf, Assocs, State}

-- the status of a program that is given such a file
abbrev pub bad_status : BadFile → ℕ
bad_status (Conf line kind) = 3
bad_status (Assocs line kind) = 4
bad_status (State line) = 11

-- which line is bad, and why
abbrev pub bad_text : BadFile → List ℕ
bad_text (Conf line kind) = codes "conf line " ++ decimal line ++ codes ": " ++ kind_text kind
bad_text (Assocs line kind) = codes "assoc line " ++ decimal line ++ codes ": " ++ Refusal.kind_text kind
bad_text (State line) = codes "state line " ++ decimal line
