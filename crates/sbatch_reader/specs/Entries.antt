-- What options say of a job.
use Rattle.std.specs.Prelude.{ℕ, Bool, true, false, ◌&&◌, nat_lt, if◌then◌else◌, List, [], length, Option, Some, None, option_map, Result, Err, ok_or}
use Rattle.sbatch_reader.specs.Array.{array_in}
use Rattle.sbatch_reader.specs.Dependency.{dependency_in}
use Rattle.sbatch_reader.specs.Features.{features_in}
use Rattle.plain_data.specs.Limits.{limit_of}
use Rattle.small_texts.specs.Moment.{moment_of}
use Rattle.text_values.specs.Names.{name_in}
use Rattle.text_values.specs.Nice.{nice_in}
use Rattle.text_values.specs.Nodes.{few_nodes_in}
use Rattle.text_values.specs.Numbers.{number_in}
use Rattle.sbatch_reader.specs.Values.{job_name_in, node_range_in, mem_per_node, mem_per_cpu}
use Rattle.plain_data.specs.declared.nice.Nice.TheVariants.{Lower}
use Rattle.text_values.specs.declared.word_refusal.WordKind.{WordKind}
use Rattle.text_values.specs.declared.word_refusal.WordKind.TheVariants.{BadValue, TooLong}
use Rattle.sbatch_reader.specs.declared.table.FlagOption.{FlagOption}
use Rattle.sbatch_reader.specs.declared.table.FlagOption.TheVariants as flag
use Rattle.sbatch_reader.specs.declared.table.ValueOption.{ValueOption}
use Rattle.sbatch_reader.specs.declared.table.ValueOption.TheVariants as option
use Rattle.sbatch_reader.specs.declared.entries.Entry.{Entry}
use Rattle.sbatch_reader.specs.declared.entries.Entry.TheVariants.{Account, Partition, Qos, Reservation, OwnName, Tasks, CpusPerTask, TasksPerNode, Nodes, Mem, Exclusive, TimeLimit, Begin, NiceValue, Hold, Parsable, Requeue, Features, Required, Excluded, Array, Dependency, Wrap, Run, WithoutEffect}
use Rattle.sbatch_reader.specs.declared.entries.JobWords.{JobWords}

-- an option without a value; the usual nice value is 100
abbrev pub flag_entry : FlagOption → Entry
flag_entry flag.Exclusive = Exclusive
flag_entry flag.Hold = Hold
flag_entry flag.Parsable = Parsable
flag_entry flag.Requeue = Requeue true
flag_entry flag.NoRequeue = Requeue false
flag_entry flag.Nice = NiceValue (Lower 100)
flag_entry flag.WithoutEffect = WithoutEffect

-- an option and its value, read at the moment `now`
unfoldable pub value_entry : ℕ → ValueOption → List ℕ → Option Entry
value_entry now option.Account text = option_map Account (name_in text)
value_entry now option.Partition text = option_map Partition (name_in text)
value_entry now option.Qos text = option_map Qos (name_in text)
value_entry now option.Reservation text = option_map Reservation (name_in text)
value_entry now option.JobName text = option_map OwnName (job_name_in text)
value_entry now option.Tasks text = option_map Tasks (number_in 1 1_048_576 text)
value_entry now option.CpusPerTask text = option_map CpusPerTask (number_in 1 1024 text)
value_entry now option.TasksPerNode text = option_map TasksPerNode (number_in 1 1024 text)
value_entry now option.Nodes text = option_map Nodes (node_range_in text)
value_entry now option.Mem text = option_map Mem (mem_per_node text)
value_entry now option.MemPerCpu text = option_map Mem (mem_per_cpu text)
value_entry now option.Limit text = option_map TimeLimit (limit_of text)
value_entry now option.Begin text = option_map Begin (moment_of text now)
value_entry now option.Nice text = option_map NiceValue (nice_in text)
value_entry now option.Features text = option_map Features (features_in text)
value_entry now option.Required text = option_map Required (few_nodes_in text)
value_entry now option.Excluded text = option_map Excluded (few_nodes_in text)
value_entry now option.Array text = option_map Array (array_in text)
value_entry now option.Dependency text = option_map Dependency (dependency_in text)
value_entry now option.Wrap text = Some Wrap
value_entry now option.WithoutEffect text = Some WithoutEffect

-- whether an option takes any text
abbrev pub takes_text : ValueOption → Bool
takes_text option.Wrap = true
takes_text option.WithoutEffect = true
takes_text option = false

-- what an option and its value say; a text has 1,024 bytes at most
unfoldable pub entry_in : ℕ → ValueOption → List ℕ → Result Entry WordKind
entry_in now option text =
    if takes_text option && nat_lt 1024 (length text) then Err TooLong else ok_or (value_entry now option text) BadValue

-- an entry takes the place of an earlier one of its kind
unfoldable pub with_entry : JobWords → Entry → JobWords
with_entry words (Account name) = record words { account = Some name }
with_entry words (Partition name) = record words { partition = Some name }
with_entry words (Qos name) = record words { qos = Some name }
with_entry words (Reservation name) = record words { reservation = Some name }
with_entry words (OwnName name) = record words { name = Some name }
with_entry words (Tasks n) = record words { tasks = Some n }
with_entry words (CpusPerTask n) = record words { cpus_per_task = n }
with_entry words (TasksPerNode n) = record words { tasks_per_node = Some n }
with_entry words (Nodes range) = record words { nodes = Some range }
with_entry words (Mem ask) = record words { mem_ask = Some ask }
with_entry words Exclusive = record words { exclusive = true }
with_entry words (TimeLimit limit) = record words { limit = Some limit }
with_entry words (Begin moment) = record words { begin = Some moment }
with_entry words (NiceValue nice) = record words { nice = nice }
with_entry words Hold = record words { held = true }
with_entry words Parsable = record words { parsable = true }
with_entry words (Requeue requeue) = record words { requeue = Some requeue }
with_entry words (Features features) = record words { features = Some features }
with_entry words (Required names) = record words { required = names }
with_entry words (Excluded names) = record words { excluded = names }
with_entry words (Array array) = record words { array = Some array }
with_entry words (Dependency dependency) = record words { dependency = Some dependency }
with_entry words Wrap = record words { wrap = true }
with_entry words (Run seconds exit) = record words { run = seconds; exit = exit }
with_entry words WithoutEffect = words

-- a job of which nothing is said: one processor for each task, and a script that takes 60 seconds and exits with 0
unfoldable pub no_words : JobWords
no_words = record {
  name = None;
  account = None;
  partition = None;
  qos = None;
  reservation = None;
  tasks = None;
  cpus_per_task = 1;
  tasks_per_node = None;
  nodes = None;
  mem_ask = None;
  exclusive = false;
  limit = None;
  begin = None;
  nice = Lower 0;
  held = false;
  requeue = None;
  features = None;
  required = [];
  excluded = [];
  array = None;
  dependency = None;
  wrap = false;
  run = 60;
  exit = 0;
  parsable = false;
}
