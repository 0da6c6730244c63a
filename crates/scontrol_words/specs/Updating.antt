-- What the words of `scontrol update` ask.
use Rattle.std.specs.Prelude.{ℕ, ◌+◌, Bool, ◌||◌, if◌then◌else◌, List, [], ◌∷◌, length, drop, Option, Some, None, is_some, Result, Ok, Err}
use Rattle.std.specs.Option.{option_or}
use Rattle.text_values.specs.Steps.{◌>>=◌}
use Rattle.operands.specs.BadWord.{bad, good, given}
use Rattle.operands.specs.Pairs.{pair_of, pairs_say}
use Rattle.operands.specs.Targets.{target_by}
use Rattle.text_values.specs.Names.{name_in}
use Rattle.operands.specs.declared.bad_word.BadWord.{BadWord}
use Rattle.text_values.specs.declared.word_refusal.WordKind.{WordKind}
use Rattle.text_values.specs.declared.word_refusal.WordKind.TheVariants.{UnknownOption, MissingWord, BadValue}
use Rattle.text_values.specs.Nice.{nice_in}
use Rattle.text_values.specs.Nodes.{few_nodes_in}
use Rattle.plain_data.specs.Limits.{limit_of}
use Rattle.plain_data.specs.declared.conf.PartState.{PartState}
use Rattle.request_data.specs.declared.request.NodeOrder.{NodeOrder}
use Rattle.request_data.specs.declared.request.Request.{Request}
use Rattle.request_data.specs.declared.request.Request.TheVariants.{UpdateJob, UpdateNode, UpdatePartition}
use Rattle.request_data.specs.declared.target.Target.{Target}
use Rattle.scontrol_words.specs.Keys.{scontrol_key}
use Rattle.text_values.specs.States.{part_state}
use Rattle.scontrol_words.specs.Values.{node_order, unless_long}
use Rattle.scontrol_words.specs.declared.keys.Key.{Key}
use Rattle.scontrol_words.specs.declared.keys.Key.TheVariants.{JobId, TimeLimit, Nice, NodeName, PartitionName, State, Reason}
use Rattle.scontrol_words.specs.declared.updating.Form.{Form}
use Rattle.scontrol_words.specs.declared.updating.Form.TheVariants.{Job, Node, Partition}
use Rattle.scontrol_words.specs.declared.job_update.JobUpdate.{JobUpdate}
use Rattle.scontrol_words.specs.declared.node_update.NodeUpdate.{NodeUpdate}
use Rattle.scontrol_words.specs.declared.partition_update.PartitionUpdate.{PartitionUpdate}
use Rattle.scontrol_words.specs.declared.unnamed_update.UnnamedUpdate.{UnnamedUpdate}

-- what is named, where nothing was named before
abbrev pub once : {A S : Type 0} → Option A → Result S WordKind → Result S WordKind
once None named = named
once (Some earlier) named = Err UnknownOption

-- a job's update: one target, and then what changes
abbrev pub job_key : JobUpdate → List ℕ → Option Key → Result JobUpdate WordKind
job_key said value (Some JobId) =
    once said.target (given (λ target. record said { target = Some target }) (good (target_by value)))
job_key said value (Some TimeLimit) = given (λ limit. record said { limit = Some limit }) (good (limit_of value))
job_key said value (Some Nice) = given (λ nice. record said { nice = Some nice }) (good (nice_in value))
job_key said value key = Err UnknownOption

abbrev pub job_adding : JobUpdate → List ℕ → List ℕ → Result JobUpdate WordKind
job_adding said key value = job_key said value (scontrol_key key)

-- a node's update: its names, and what becomes of it; why is kept nowhere
abbrev pub node_key : NodeUpdate → List ℕ → Option Key → Result NodeUpdate WordKind
node_key said value (Some NodeName) =
    once said.nodes (given (λ nodes. record said { nodes = Some nodes }) (good (few_nodes_in value)))
node_key said value (Some State) = given (λ state. record said { state = Some state }) (good (node_order value))
node_key said value (Some Reason) = unless_long value said
node_key said value key = Err UnknownOption

abbrev pub node_adding : NodeUpdate → List ℕ → List ℕ → Result NodeUpdate WordKind
node_adding said key value = node_key said value (scontrol_key key)

-- a partition's update: its name and its state
abbrev pub partition_key : PartitionUpdate → List ℕ → Option Key → Result PartitionUpdate WordKind
partition_key said value (Some PartitionName) =
    once said.name (given (λ name. record said { name = Some name }) (good (name_in value)))
partition_key said value (Some State) = given (λ state. record said { state = Some state }) (good (part_state value))
partition_key said value key = Err UnknownOption

abbrev pub partition_adding : PartitionUpdate → List ℕ → List ℕ → Result PartitionUpdate WordKind
partition_adding said key value = partition_key said value (scontrol_key key)

abbrev pub if_good : {S : Type 0} → Bool → S → Result S WordKind
if_good is_good said = if is_good then Ok said else Err BadValue

-- An update that names nothing: each key of some form is known, and a value is good where it is in some form that has
-- its key.
abbrev pub unnamed_key : UnnamedUpdate → List ℕ → Option Key → Result UnnamedUpdate WordKind
unnamed_key said value (Some TimeLimit) = if_good (is_some (limit_of value)) said
unnamed_key said value (Some Nice) = if_good (is_some (nice_in value)) said
unnamed_key said value (Some State) = if_good (is_some (node_order value) || is_some (part_state value)) said
unnamed_key said value (Some Reason) = unless_long value said
unnamed_key said value key = Err UnknownOption

abbrev pub unnamed_adding : UnnamedUpdate → List ℕ → List ℕ → Result UnnamedUpdate WordKind
unnamed_adding said key value = unnamed_key said value (scontrol_key key)

-- the form in which a key names something
abbrev pub form_of : Option Key → Option Form
form_of (Some JobId) = Some Job
form_of (Some NodeName) = Some Node
form_of (Some PartitionName) = Some Partition
form_of key = None

abbrev pub form_of_pair : Option (List ℕ × List ℕ) → Option Form
form_of_pair None = None
form_of_pair (Some pair) = form_of (scontrol_key pair.0)

-- the form of an update: that of the first key that names something
abbrev pub form_in : List (List ℕ) → Option Form
form_in [] = None
form_in (word ∷ words) = option_or (form_of_pair (pair_of word)) (form_in words)

-- what is said when all is said, `end` being the number after the last word
abbrev pub job_said : ℕ → JobUpdate → Option Target → Result Request BadWord
job_said end said None = bad end MissingWord
job_said end said (Some target) = Ok (UpdateJob target said.limit said.nice)

abbrev pub node_said : ℕ → Option (List (List ℕ)) → Option NodeOrder → Result Request BadWord
node_said end (Some nodes) (Some state) = Ok (UpdateNode nodes state)
node_said end nodes state = bad end MissingWord

abbrev pub partition_said : ℕ → Option (List ℕ) → Option PartState → Result Request BadWord
partition_said end (Some name) (Some state) = Ok (UpdatePartition name state)
partition_said end name state = bad end MissingWord

-- the number after the last word
abbrev pub after_last : List (List ℕ) → ℕ
after_last words = length words + 1

unfoldable pub job_update_by : List (List ℕ) → Result Request BadWord
job_update_by words =
    pairs_say job_adding 3 (record { target = None; limit = None; nice = None }) (drop 2 words)
    >>= λ said. job_said (after_last words) said said.target

unfoldable pub node_update_by : List (List ℕ) → Result Request BadWord
node_update_by words =
    pairs_say node_adding 3 (record { nodes = None; state = None }) (drop 2 words)
    >>= λ said. node_said (after_last words) said.nodes said.state

unfoldable pub partition_update_by : List (List ℕ) → Result Request BadWord
partition_update_by words =
    pairs_say partition_adding 3 (record { name = None; state = None }) (drop 2 words)
    >>= λ said. partition_said (after_last words) said.name said.state

unfoldable pub unnamed_update_by : List (List ℕ) → Result Request BadWord
unnamed_update_by words =
    pairs_say unnamed_adding 3 (record {}) (drop 2 words) >>= λ said. bad (after_last words) MissingWord

abbrev pub update_in : Option Form → List (List ℕ) → Result Request BadWord
update_in None words = unnamed_update_by words
update_in (Some Job) words = job_update_by words
update_in (Some Node) words = node_update_by words
update_in (Some Partition) words = partition_update_by words

-- what words ask of which the first two are `scontrol update`
unfoldable pub update_by : List (List ℕ) → Result Request BadWord
update_by words = update_in (form_in (drop 2 words)) words
