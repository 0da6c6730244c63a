-- How the values of a saved state are written: each value has one text.
use Rattle.std.specs.Prelude.{ℕ, Bool, if◌then◌else◌, Option, Some, None, List, [], ◌∷◌, ◌++◌, map, flat_map, codes, decimal}
use Rattle.std.specs.Str.{byte}
use Rattle.plain_data.specs.declared.conf.PartState.{PartState}
use Rattle.plain_data.specs.declared.conf.PartState.TheVariants as part
use Rattle.plain_data.specs.declared.dependency.DepSpec.{DepSpec}
use Rattle.plain_data.specs.declared.features.FeatureExpr.{FeatureExpr}
use Rattle.plain_data.specs.declared.limit.Limit.{Limit}
use Rattle.plain_data.specs.declared.limit.Limit.TheVariants.{Minutes, Unlimited}
use Rattle.plain_data.specs.declared.mem_ask.MemAsk.{MemAsk}
use Rattle.plain_data.specs.declared.mem_ask.MemAsk.TheVariants as memory
use Rattle.plain_data.specs.declared.nice.Nice.{Nice}
use Rattle.plain_data.specs.declared.nice.Nice.TheVariants.{Lower, Raise}
use Rattle.request_data.specs.declared.report.Heard.{Heard}
use Rattle.request_data.specs.declared.state.Final.{Final}
use Rattle.request_data.specs.declared.state.Final.TheVariants.{Completed, Cancelled, Failed, Timeout, NodeFail, Requeue}
use Rattle.request_data.specs.declared.state.HeldBy.{HeldBy}
use Rattle.request_data.specs.declared.state.HeldBy.TheVariants.{Nobody, User, Admin}
use Rattle.request_data.specs.declared.state.JobState.{JobState}
use Rattle.request_data.specs.declared.state.JobState.TheVariants.{Pending, Running, Completing, Ended}
use Rattle.reply_data.specs.declared.view.NamedPart.{NamedPart}
use Rattle.node_state.specs.declared.record.DownBy.{DownBy}
use Rattle.node_state.specs.declared.record.DownBy.TheVariants as down
use Rattle.table_texts.specs.Dependency.{item_text}
use Rattle.table_texts.specs.Ranges.{ranges_text}
use Rattle.saved_data.specs.declared.parts.SavedShare.{SavedShare}

-- what is absent is the empty word
abbrev pub optional : {X : Type 0} → (X → List ℕ) → Option X → List ℕ
optional text None = []
optional text (Some x) = text x

-- texts with a mark between them
abbrev pub joined : ℕ → List (List ℕ) → List ℕ
joined mark [] = []
joined mark (text ∷ texts) = text ++ flat_map (λ t. mark ∷ t) texts

abbrev pub listed : {X : Type 0} → (X → List ℕ) → List X → List ℕ
listed text xs = joined (byte ",") (map text xs)

abbrev pub name_text : List ℕ → List ℕ
name_text name = name

abbrev pub truth_text : Bool → List ℕ
truth_text truth = if truth then codes "yes" else codes "no"

-- two numbers with a dot between them, and three
abbrev pub pair_text : ℕ → ℕ → List ℕ
pair_text boot number = decimal boot ++ codes "." ++ decimal number

abbrev pub heard_text : Heard → List ℕ
heard_text heard = pair_text heard.boot heard.number ++ codes "." ++ decimal heard.moment

abbrev pub part_state_text : PartState → List ℕ
part_state_text part.Up = codes "up"
part_state_text part.Down = codes "down"
part_state_text part.Drain = codes "drain"
part_state_text part.Inactive = codes "inactive"

abbrev pub down_text : DownBy → List ℕ
down_text down.No = codes "no"
down_text down.Silent = codes "silent"
down_text down.Set = codes "set"

abbrev pub held_text : HeldBy → List ℕ
held_text Nobody = codes "no"
held_text User = codes "user"
held_text Admin = codes "admin"

abbrev pub final_text : Final → List ℕ
final_text Completed = codes "completed"
final_text Cancelled = codes "cancelled"
final_text Failed = codes "failed"
final_text Timeout = codes "timeout"
final_text NodeFail = codes "nodefail"
final_text Requeue = codes "requeue"

abbrev pub state_text : JobState → List ℕ
state_text Pending = codes "pending"
state_text Running = codes "running"
state_text (Completing final) = codes "completing-" ++ final_text final
state_text (Ended final) = codes "ended-" ++ final_text final

-- in minutes
abbrev pub limit_text : Limit → List ℕ
limit_text (Minutes minutes) = decimal minutes
limit_text Unlimited = codes "UNLIMITED"

-- in megabytes
abbrev pub mem_text : MemAsk → List ℕ
mem_text memory.All = codes "all"
mem_text (memory.PerNode mem) = codes "node:" ++ decimal mem
mem_text (memory.PerCpu mem) = codes "cpu:" ++ decimal mem

abbrev pub nice_text : Nice → List ℕ
nice_text (Lower number) = decimal number
nice_text (Raise number) = codes "-" ++ decimal number

-- names that are wanted together
abbrev pub together_text : List (List ℕ) → List ℕ
together_text names = joined (byte "&") (map name_text names)

-- `a&b|c`, as `--constraint` of sbatch(1) takes it
abbrev pub features_text : FeatureExpr → List ℕ
features_text features = joined (byte "|") (map together_text features.alternatives)

-- what stands between two items: one of them is enough, or all are needed
abbrev pub mark_of : Bool → ℕ
mark_of any = if any then byte "?" else byte ","

-- as `--dependency` of sbatch(1) takes it
abbrev pub dependency_text : DepSpec → List ℕ
dependency_text dependency = joined (mark_of dependency.any) (map item_text dependency.items)

-- `NODE:RANGES:MB`
abbrev pub part_text : NamedPart → List ℕ
part_text part = part.node ++ codes ":" ++ ranges_text part.cpus ++ codes ":" ++ decimal part.mem

abbrev pub parts_text : List NamedPart → List ℕ
parts_text parts = joined (byte ";") (map part_text parts)

-- `NODE:TASKS:CPUS:MB`
abbrev pub share_text : SavedShare → List ℕ
share_text share =
    share.node ++ codes ":" ++ decimal share.tasks ++ codes ":" ++ decimal share.cpus ++ codes ":" ++ decimal share.mem

abbrev pub shares_text : List SavedShare → List ℕ
shares_text shares = joined (byte ";") (map share_text shares)
