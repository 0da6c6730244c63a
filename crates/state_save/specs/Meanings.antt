-- What a word is read as. Other words than those that are written may be read too: of the proof alone.
use Rattle.std.specs.Prelude.{ℕ, ◌+◌, ◌-◌, ◌&&◌, Bool, true, false, nat_le, nat_lt, if◌then◌else◌, Option, Some, None, option_map, option_and_then, List, [], ◌∷◌, ◌++◌, bytes_eq, codes, length}
use Rattle.std.specs.List.{range_with_len}
use Rattle.std.specs.Str.{byte}
use Rattle.small_texts.specs.Digits.{number_within}
use Rattle.small_texts.specs.Fields.{fields}
use Rattle.small_texts.specs.Name.{is_job_name}
use Rattle.small_texts.specs.Options.{◌>>=◌}
use Rattle.plain_data.specs.declared.conf.PartState.{PartState}
use Rattle.plain_data.specs.declared.conf.PartState.TheVariants as part
use Rattle.plain_data.specs.declared.limit.Limit.{Limit}
use Rattle.plain_data.specs.declared.limit.Limit.TheVariants.{Minutes, Unlimited}
use Rattle.plain_data.specs.declared.mem_ask.MemAsk.{MemAsk}
use Rattle.plain_data.specs.declared.mem_ask.MemAsk.TheVariants as memory
use Rattle.request_data.specs.declared.report.Heard.{Heard}
use Rattle.request_data.specs.declared.state.Final.{Final}
use Rattle.request_data.specs.declared.state.Final.TheVariants.{Completed, Cancelled, Failed, Timeout, NodeFail, Requeue}
use Rattle.request_data.specs.declared.state.HeldBy.{HeldBy}
use Rattle.request_data.specs.declared.state.HeldBy.TheVariants.{Nobody, User, Admin}
use Rattle.request_data.specs.declared.state.JobState.{JobState}
use Rattle.request_data.specs.declared.state.JobState.TheVariants.{Pending, Running, Completing, Ended}
use Rattle.reply_data.specs.declared.view.NamedPart.{NamedPart}
use Rattle.node_state.specs.declared.record.DownBy.{DownBy}
use Rattle.node_state.specs.declared.record.DownBy.TheVariants as down
use Rattle.saved_data.specs.declared.parts.SavedShare.{SavedShare}
use Rattle.state_save.specs.declared.pairs.Pair.{Pair}
use Rattle.state_save.specs.declared.ranges.Run.{Run}
use Rattle.text_values.specs.Lists.{parts_in}
use Rattle.text_values.specs.Names.{name_in}
use Rattle.state_save.specs.Fitting.{each_once}

-- what is absent is the empty word
abbrev pub optional_in : {X : Type 0} → (List ℕ → Option X) → List ℕ → Option (Option X)
optional_in meaning [] = Some None
optional_in meaning (b ∷ text) = option_map Some (meaning (b ∷ text))

-- what stands between marks; nothing is the empty list
abbrev pub list_in : {X : Type 0} → (List ℕ → Option X) → ℕ → List ℕ → Option (List X)
list_in meaning mark [] = Some []
list_in meaning mark (b ∷ text) = parts_in meaning mark (b ∷ text)

abbrev pub u32_in : List ℕ → Option ℕ
u32_in text = number_within 20 4_294_967_295 text

abbrev pub u64_in : List ℕ → Option ℕ
u64_in text = number_within 20 18_446_744_073_709_551_615 text

unfoldable pub ranged_in : ℕ → ℕ → List ℕ → Option ℕ
ranged_in least most text = do
  number ← number_within 20 most text
  if nat_le least number then Some number else None

abbrev pub job_name_in : List ℕ → Option (List ℕ)
job_name_in text = if is_job_name text then Some text else None

-- names of nodes, each once, 1,024 at most
unfoldable pub hosts_in : List ℕ → Option (List (List ℕ))
hosts_in text = do
  names ← list_in name_in (byte ",") text
  if nat_le (length names) 1024 && each_once names then Some names else None

unfoldable pub truth_in : List ℕ → Option Bool
truth_in word =
    if bytes_eq word (codes "yes") then Some true else (if bytes_eq word (codes "no") then Some false else None)

unfoldable pub part_state_in : List ℕ → Option PartState
part_state_in word =
    if bytes_eq word (codes "up") then Some part.Up
    else (if bytes_eq word (codes "down") then Some part.Down
    else (if bytes_eq word (codes "drain") then Some part.Drain
    else (if bytes_eq word (codes "inactive") then Some part.Inactive
    else None)))

unfoldable pub down_in : List ℕ → Option DownBy
down_in word =
    if bytes_eq word (codes "no") then Some down.No
    else (if bytes_eq word (codes "silent") then Some down.Silent
    else (if bytes_eq word (codes "set") then Some down.Set
    else None))

unfoldable pub held_in : List ℕ → Option HeldBy
held_in word =
    if bytes_eq word (codes "no") then Some Nobody
    else (if bytes_eq word (codes "user") then Some User
    else (if bytes_eq word (codes "admin") then Some Admin
    else None))

unfoldable pub final_in : List ℕ → Option Final
final_in word =
    if bytes_eq word (codes "completed") then Some Completed
    else (if bytes_eq word (codes "cancelled") then Some Cancelled
    else (if bytes_eq word (codes "failed") then Some Failed
    else (if bytes_eq word (codes "timeout") then Some Timeout
    else (if bytes_eq word (codes "nodefail") then Some NodeFail
    else (if bytes_eq word (codes "requeue") then Some Requeue
    else None)))))

unfoldable pub plain_state_in : List ℕ → Option JobState
plain_state_in word =
    if bytes_eq word (codes "pending") then Some Pending
    else (if bytes_eq word (codes "running") then Some Running else None)

unfoldable pub final_state_in : List ℕ → List ℕ → Option JobState
final_state_in word last = do
  final ← final_in last
  if bytes_eq word (codes "completing") then Some (Completing final)
      else (if bytes_eq word (codes "ended") then Some (Ended final) else None)

-- a state by the fields at a dash
unfoldable pub state_of : List (List ℕ) → Option JobState
state_of (state ∷ []) = plain_state_in state
state_of (state ∷ final ∷ []) = final_state_in state final
state_of _ = None

abbrev pub state_in : List ℕ → Option JobState
state_in word = state_of (fields (byte "-") word)

unfoldable pub limit_in : List ℕ → Option Limit
limit_in word =
    if bytes_eq word (codes "UNLIMITED") then Some Unlimited else option_map Minutes (ranged_in 1 52_560_000 word)

unfoldable pub mem_behind : List ℕ → List ℕ → Option MemAsk
mem_behind kind number = do
  mem ← ranged_in 1 16_777_216 number
  if bytes_eq kind (codes "node") then Some (memory.PerNode mem)
      else (if bytes_eq kind (codes "cpu") then Some (memory.PerCpu mem) else None)

-- memory by the fields at a colon
unfoldable pub mem_of : List (List ℕ) → Option MemAsk
mem_of (all ∷ []) = if bytes_eq all (codes "all") then Some memory.All else None
mem_of (kind ∷ number ∷ []) = mem_behind kind number
mem_of _ = None

abbrev pub mem_in : List ℕ → Option MemAsk
mem_in word = mem_of (fields (byte ":") word)

-- a pair by the fields at a dot
unfoldable pub pair_of : List (List ℕ) → Option Pair
pair_of (boot ∷ number ∷ []) = do
  b ← u64_in boot
  n ← u64_in number
  Some (record { boot = b; number = n })
pair_of _ = None

abbrev pub pair_in : List ℕ → Option Pair
pair_in word = pair_of (fields (byte ".") word)

unfoldable pub heard_of : List (List ℕ) → Option Heard
heard_of (boot ∷ number ∷ moment ∷ []) = do
  b ← u64_in boot
  n ← u64_in number
  m ← u64_in moment
  Some (record { boot = b; number = n; moment = m })
heard_of _ = None

abbrev pub heard_in : List ℕ → Option Heard
heard_in word = heard_of (fields (byte ".") word)

-- tasks, processors and megabytes
unfoldable pub amounts_of : List (List ℕ) → Option (ℕ × ℕ × ℕ)
amounts_of (tasks ∷ cpus ∷ mem ∷ []) = do
  t ← u32_in tasks
  c ← u32_in cpus
  m ← u64_in mem
  Some (t, c, m)
amounts_of _ = None

abbrev pub amounts_in : List ℕ → Option (ℕ × ℕ × ℕ)
amounts_in text = amounts_of (fields (byte ":") text)

unfoldable pub share_with : List ℕ → Option (ℕ × ℕ × ℕ) → Option SavedShare
share_with name amounts = do
  a ← amounts
  node ← name_in name
  Some (record { node = node; tasks = a.0; cpus = a.1; mem = a.2 })

-- a share by the fields at a colon
abbrev pub share_of : List (List ℕ) → Option SavedShare
share_of [] = None
share_of (name ∷ amounts) = share_with name (amounts_of amounts)

abbrev pub share_in : List ℕ → Option SavedShare
share_in word = share_of (fields (byte ":") word)

-- a run by the fields at a dash
unfoldable pub run_of : List (List ℕ) → Option Run
run_of (number ∷ []) = do
  n ← u32_in number
  Some (record { first = n; last = n })
run_of (first ∷ last ∷ []) = do
  from ← u32_in first
  to ← u32_in last
  Some (record { first = from; last = to })
run_of _ = None

abbrev pub run_in : List ℕ → Option Run
run_in text = run_of (fields (byte "-") text)

-- a run of processors goes up, from a number on
abbrev pub is_run_from : ℕ → Run → Bool
is_run_from least run = nat_le least run.first && (nat_le run.first run.last && nat_lt run.last 1024)

-- the numbers of a run
abbrev pub numbers_of : Run → List ℕ
numbers_of run = range_with_len run.first (run.last + 1 - run.first)

-- the numbers of runs that rise, from a number on
abbrev pub rising_from : ℕ → List Run → Option (List ℕ)
rising_from least [] = Some []
rising_from least (run ∷ runs) =
    if is_run_from least run then option_map (λ more. numbers_of run ++ more) (rising_from (run.last + 1) runs) else None

abbrev pub runs_in : List ℕ → Option (List Run)
runs_in text = list_in run_in (byte ",") text

abbrev pub cpus_in : List ℕ → Option (List ℕ)
cpus_in text = option_and_then (rising_from 0) (runs_in text)

unfoldable pub part_with : List ℕ → List ℕ → List ℕ → Option NamedPart
part_with name cpus mem = do
  m ← u64_in mem
  c ← cpus_in cpus
  node ← name_in name
  Some (record { node = node; cpus = c; mem = m })

-- a part by the fields at a colon
unfoldable pub part_of : List (List ℕ) → Option NamedPart
part_of (name ∷ cpus ∷ mem ∷ []) = part_with name cpus mem
part_of _ = None

abbrev pub part_in : List ℕ → Option NamedPart
part_in word = part_of (fields (byte ":") word)
