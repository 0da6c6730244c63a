-- Where a command or its script is wrong.
use Rattle.std.specs.Prelude.{ℕ, List, ◌++◌, codes, decimal}
use Rattle.text_values.specs.declared.word_refusal.WordKind.{WordKind}
use Rattle.text_values.specs.WordRefusal.{kind_text}
use Rattle.sbatch_reader.specs.declared.refusal.Place.{Place}
use Rattle.sbatch_reader.specs.declared.refusal.Place.TheVariants.{Word, Line}
use Rattle.sbatch_reader.specs.declared.refusal.JobRefusal.{JobRefusal}
use Rattle.sbatch_reader.specs.declared.refusal.JobRefusal.TheVariants.{BadWord, BadLine, Memory}

-- the refusal of a word or a line
abbrev pub refusal_at : Place → WordKind → JobRefusal
refusal_at (Word number) kind = BadWord number kind
refusal_at (Line number) kind = BadLine number kind

-- what is told of a job that wasn't read
abbrev pub job_message : JobRefusal → List ℕ
job_message (BadWord word kind) = codes "word " ++ decimal word ++ codes ": " ++ kind_text kind
job_message (BadLine line kind) = codes "line " ++ decimal line ++ codes ": " ++ kind_text kind
job_message Memory = codes "out of memory"
