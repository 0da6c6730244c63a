-- The job that a command and its script ask for.
use Rattle.std.specs.Prelude.{ℕ, Bool, true, false, not, ◌&&◌, ◌||◌, if◌then◌else◌, List, [], ◌∷◌, ◌++◌, fold, Option, Some, None, is_some, Result, Ok, Err}
use Rattle.std.specs.List.{list_any, filter_map}
use Rattle.std.specs.Option.{option_or}
use Rattle.std.specs.Result.{result_ok}
use Rattle.text_values.specs.declared.word_refusal.WordKind.{WordKind}
use Rattle.text_values.specs.declared.word_refusal.WordKind.TheVariants.{BadValue}
use Rattle.plain_data.specs.declared.job.JobDesc.{JobDesc}
use Rattle.sbatch_reader.specs.Entries.{with_entry, no_words}
use Rattle.sbatch_reader.specs.declared.entries.Entry.{Entry}
use Rattle.sbatch_reader.specs.declared.entries.Entry.TheVariants.{Nodes}
use Rattle.sbatch_reader.specs.declared.entries.JobWords.{JobWords}
use Rattle.sbatch_reader.specs.Description.{are_crossed, job_name, named}
use Rattle.sbatch_reader.specs.Lines.{script_says}
use Rattle.sbatch_reader.specs.Refusal.{refusal_at}
use Rattle.sbatch_reader.specs.Said.{command_parts, script_in, command_says}
use Rattle.sbatch_reader.specs.declared.refusal.JobRefusal.{JobRefusal}
use Rattle.sbatch_reader.specs.declared.refusal.Place.{Place}
use Rattle.sbatch_reader.specs.declared.said.Said.{Said}

abbrev pub says_script : ℕ → Option (List ℕ) → List Said
says_script now None = []
says_script now (Some script) = script_says now script

-- the number and the text of the word that names the script
abbrev pub script_word : List (List ℕ) → Option (ℕ × List ℕ)
script_word words = script_in (command_parts words)

-- all that a command says, the script before the words
unfoldable pub all_said : ℕ → List (List ℕ) → Option (List ℕ) → List Said
all_said now words script =
    says_script now script ++ command_says now (is_some script || is_some (script_word words)) words

-- what is good of what is said, together, the last of a kind counting
abbrev pub words_of : JobWords → List Said → JobWords
words_of words said = fold with_entry words (filter_map (λ (s : Said). result_ok s.what) said)

abbrev pub is_nodes : Result Entry WordKind → Bool
is_nodes (Ok (Nodes range)) = true
is_nodes what = false

abbrev pub says_nodes : List Said → Bool
says_nodes said = list_any (λ (s : Said). is_nodes s.what) said

-- whether something good is at fault all the same: the last number of nodes, where its most is below the least
abbrev pub is_crossed : Bool → Said → List Said → Bool
is_crossed crossed said later = crossed && is_nodes said.what && not (says_nodes later)

abbrev pub fault_of : Bool → Place → Result Entry WordKind → Option JobRefusal
fault_of crossed place (Ok entry) = if crossed then Some (refusal_at place BadValue) else None
fault_of crossed place (Err kind) = Some (refusal_at place kind)

-- the first fault of what is said; `crossed` tells whether the most nodes are below the least
abbrev pub first_fault : Bool → List Said → Option JobRefusal
first_fault crossed [] = None
first_fault crossed (said ∷ later) =
    option_or (fault_of (is_crossed crossed said later) said.place said.what) (first_fault crossed later)

abbrev pub unless_refused : {X : Type 0} → Option JobRefusal → Result X JobRefusal → Result X JobRefusal
unless_refused None good = good
unless_refused (Some refusal) good = Err refusal

abbrev pub job_by : List Said → Option (ℕ × List ℕ) → Result JobDesc JobRefusal
job_by said script =
    let words = words_of no_words said in
    unless_refused (first_fault (are_crossed words) said) (named words (job_name words script))

-- the job that a command and its script ask for at the moment `now`, or the first place at which they are wrong
unfoldable pub job_in : ℕ → List (List ℕ) → Option (List ℕ) → Result JobDesc JobRefusal
job_in now words script = job_by (all_said now words script) (script_word words)
