-- The job that options describe.
use Rattle.std.specs.Prelude.{ℕ, ◌*◌, max, nat_lt, Bool, false, if◌then◌else◌, List, [], ◌∷◌, length, codes, Option, Some, None, option_map, unwrap_or, Result, Ok, Err}
use Rattle.std.specs.Str.{byte}
use Rattle.small_texts.specs.Fields.{fields}
use Rattle.small_texts.specs.Name.{is_job_name}
use Rattle.plain_data.specs.declared.job.JobDesc.{JobDesc}
use Rattle.text_values.specs.declared.word_refusal.WordKind.TheVariants.{BadValue}
use Rattle.sbatch_reader.specs.declared.entries.JobWords.{JobWords}
use Rattle.sbatch_reader.specs.declared.values.NodeRange.{NodeRange}
use Rattle.text_values.specs.WordRefusal.{told}
use Rattle.sbatch_reader.specs.Refusal.{refusal_at}
use Rattle.sbatch_reader.specs.declared.refusal.JobRefusal.{JobRefusal}
use Rattle.sbatch_reader.specs.declared.refusal.Place.TheVariants.{Word}

-- how many nodes are asked for, at least
abbrev pub least_asked : Option NodeRange → ℕ
least_asked None = 1
least_asked (Some range) = range.least

-- required nodes raise that to their number
unfoldable pub least_nodes : JobWords → ℕ
least_nodes words = max (least_asked words.nodes) (length words.required)

abbrev pub is_below : Option NodeRange → ℕ → Bool
is_below None least = false
is_below (Some range) least = nat_lt range.most least

-- whether there are to be fewer nodes at most than at least
unfoldable pub are_crossed : JobWords → Bool
are_crossed words = is_below words.nodes (least_nodes words)

-- without a number of tasks there are those of the least nodes, one on each where nothing is said
unfoldable pub all_tasks : JobWords → ℕ
all_tasks words = unwrap_or words.tasks (unwrap_or words.tasks_per_node 1 * least_nodes words)

-- whether there are fewer tasks than nodes, so that there are only as many nodes
abbrev pub are_few : JobWords → Bool
are_few words = nat_lt (all_tasks words) (least_nodes words)

abbrev pub min_nodes : JobWords → ℕ
min_nodes words = if are_few words then all_tasks words else least_nodes words

abbrev pub max_nodes : JobWords → Option ℕ
max_nodes words = option_map (λ range. if are_few words then all_tasks words else range.most) words.nodes

abbrev pub last_of : List ℕ → List (List ℕ) → List ℕ
last_of part [] = part
last_of part (next ∷ parts) = last_of next parts

-- what follows the last slash of a path
unfoldable pub last_part : List ℕ → List ℕ
last_part path = last_of [] (fields (byte "/") path)

-- the name of a job that has none of its own, by the word that names the script
abbrev pub usual_name : Bool → Option (ℕ × List ℕ) → Result (List ℕ) JobRefusal
usual_name wrap (Some word) =
    if is_job_name (last_part word.1) then Ok (last_part word.1) else Err (refusal_at (Word (told word.0)) BadValue)
usual_name wrap None = Ok (if wrap then codes "wrap" else codes "sbatch")

-- a name of its own comes first
abbrev pub own_or : Option (List ℕ) → Result (List ℕ) JobRefusal → Result (List ℕ) JobRefusal
own_or None usual = usual
own_or (Some name) usual = Ok name

abbrev pub job_name : JobWords → Option (ℕ × List ℕ) → Result (List ℕ) JobRefusal
job_name words script = own_or words.name (usual_name words.wrap script)

-- the job of a name
unfoldable pub job_of : JobWords → List ℕ → JobDesc
job_of words name = record {
  name = name;
  account = words.account;
  partition = words.partition;
  qos = words.qos;
  reservation = words.reservation;
  tasks = all_tasks words;
  cpus_per_task = words.cpus_per_task;
  tasks_per_node = words.tasks_per_node;
  min_nodes = min_nodes words;
  max_nodes = max_nodes words;
  mem_ask = words.mem_ask;
  exclusive = words.exclusive;
  limit = words.limit;
  begin = words.begin;
  nice = words.nice;
  held = words.held;
  requeue = words.requeue;
  features = words.features;
  required = words.required;
  excluded = words.excluded;
  array = words.array;
  dependency = words.dependency;
  run = words.run;
  exit = words.exit;
  parsable = words.parsable;
}

abbrev pub named : JobWords → Result (List ℕ) JobRefusal → Result JobDesc JobRefusal
named words (Ok name) = Ok (job_of words name)
named words (Err refusal) = Err refusal
