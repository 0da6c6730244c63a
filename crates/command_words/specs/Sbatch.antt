-- What the words of sbatch and its script want.
use Rattle.std.specs.Prelude.{ℕ, List, Option, Result, Ok, Err}
use Rattle.sbatch_reader.specs.Job.{job_in}
use Rattle.sbatch_reader.specs.declared.refusal.JobRefusal.{JobRefusal}
use Rattle.sbatch_reader.specs.declared.refusal.JobRefusal.TheVariants.{BadWord, BadLine, Memory}
use Rattle.plain_data.specs.declared.job.JobDesc.{JobDesc}
use Rattle.request_data.specs.declared.request.Request.{Request}
use Rattle.request_data.specs.declared.request.Request.TheVariants.{Submit}
use Rattle.text_values.specs.declared.word_refusal.WordKind.TheVariants.{MissingWord}
use Rattle.command_words.specs.declared.fault.WordFault.{WordFault}
use Rattle.command_words.specs.declared.fault.WordFault.TheVariants.{Word, Line}

abbrev pub fault_of : JobRefusal → WordFault
fault_of (BadWord word kind) = Word word kind
fault_of (BadLine line kind) = Line line kind
-- no words want memory by themselves, and none has the number 0
fault_of Memory = Word 0 MissingWord

abbrev pub wanted_by_job : Result JobDesc JobRefusal → Result Request WordFault
wanted_by_job (Ok job) = Ok (Submit job)
wanted_by_job (Err refusal) = Err (fault_of refusal)

-- what words, the first of which is the command's name, and a script want at the moment `now`
unfoldable pub sbatch_by : ℕ → List (List ℕ) → Option (List ℕ) → Result Request WordFault
sbatch_by now words script = wanted_by_job (job_in now words script)
