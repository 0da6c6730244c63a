-- What is handed in for the jobs of a trace, or why one is left out.
use Rattle.std.specs.Prelude.{ℕ, ◌+◌, ◌==◌, ◌&&◌, max, min, Bool, true, false, nat_le, nat_lt, nat_eq, ◌||◌, if◌then◌else◌, List, [], ◌∷◌, ◌++◌, Option, None, Some, option_map, unwrap_or, ok_or, Result, Ok, Err, codes}
use Rattle.std.specs.Int.{div_ceil}
use Rattle.std.specs.Option.{option_or}
use Rattle.plain_data.specs.declared.job.JobDesc.{JobDesc}
use Rattle.plain_data.specs.declared.mem_ask.MemAsk.{MemAsk}
use Rattle.plain_data.specs.declared.mem_ask.MemAsk.TheVariants as ask
use Rattle.plain_data.specs.declared.nice.Nice.TheVariants.{Lower}
use Rattle.trace_text.specs.declared.job.Outcome.{Outcome}
use Rattle.trace_text.specs.declared.job.Outcome.TheVariants.{Cancelled, Failed}
use Rattle.trace_text.specs.declared.job.TraceJob.{TraceJob}
use Rattle.trace_text.specs.declared.job.TraceMemory.{TraceMemory}
use Rattle.trace_text.specs.declared.job.TraceMemory.TheVariants.{PerProcessor, PerNode, InAll}
use Rattle.trace_text.specs.declared.job.TraceNeeds.{TraceNeeds}
use Rattle.trace_text.specs.declared.job.TraceTimes.{TraceTimes}
use Rattle.trace_text.specs.Steps.{◌>>=◌}
use Rattle.trace_text.specs.declared.submission.LeftOut.{LeftOut}
use Rattle.trace_text.specs.declared.submission.LeftOut.TheVariants.{NoSubmit, NoUser, NoRun, OutOfRange}
use Rattle.trace_text.specs.declared.submission.LeftOutJob.{LeftOutJob}
use Rattle.trace_text.specs.declared.submission.Sizes.{Sizes}
use Rattle.trace_text.specs.declared.submission.Submission.{Submission}
use Rattle.trace_text.specs.declared.submission.TakenNames.{TakenNames}

-- a number that is in range
abbrev pub within : ℕ → ℕ → Result ℕ LeftOut
within most number = if nat_le number most then Ok number else Err OutOfRange

unfoldable pub moment_of : TraceTimes → Result ℕ LeftOut
moment_of times = ok_or times.submit NoSubmit >>= within 250_000_000_000

abbrev pub is_cancelled : Option Outcome → Bool
is_cancelled (Some Cancelled) = true
is_cancelled outcome = false

-- a job that was cancelled within its first second never ran; others run for a second at least
abbrev pub run_for : Bool → ℕ → Result ℕ LeftOut
run_for cancelled run =
    if cancelled && run == 0 then Err NoRun
    else (if nat_le run 2_000_000_000 then Ok (max run 1) else Err OutOfRange)

unfoldable pub run_of : TraceTimes → Option Outcome → Result ℕ LeftOut
run_of times outcome = ok_or times.run NoRun >>= run_for (is_cancelled outcome)

-- a task for each processor, or for each node where the trace tells no processors
unfoldable pub tasks_of : TraceNeeds → Result ℕ LeftOut
tasks_of needs = within 1_048_576 (max (unwrap_or (option_or needs.processors needs.nodes) 1) 1)

-- no more nodes than tasks
unfoldable pub nodes_of : TraceNeeds → ℕ → Result ℕ LeftOut
nodes_of needs tasks = within 1024 (min (max (unwrap_or needs.nodes 1) 1) tasks)

-- so many megabytes; 0 asks for none
abbrev pub asked_memory : ℕ → Result (Option ℕ) LeftOut
asked_memory megabytes =
    if megabytes == 0 then Ok None else (within 16_777_216 megabytes >>= λ amount. Ok (Some amount))

-- memory of the whole job is shared by its tasks
unfoldable pub memory_of : Option TraceMemory → ℕ → Result (Option MemAsk) LeftOut
memory_of None tasks = Ok None
memory_of (Some (PerProcessor amount)) tasks = asked_memory amount >>= λ asked. Ok (option_map (λ n. ask.PerCpu n) asked)
memory_of (Some (PerNode amount)) tasks = asked_memory amount >>= λ asked. Ok (option_map (λ n. ask.PerNode n) asked)
memory_of (Some (InAll amount)) tasks =
    asked_memory (div_ceil amount tasks) >>= λ asked. Ok (option_map (λ n. ask.PerCpu n) asked)

unfoldable pub sizes_of : TraceJob → Result Sizes LeftOut
sizes_of job = do
  moment ← moment_of job.times
  run ← run_of job.times job.outcome
  tasks ← tasks_of job.needs
  nodes ← nodes_of job.needs tasks
  memory ← memory_of job.needs.memory tasks
  Ok (record { moment = moment; run = run; tasks = tasks; nodes = nodes; mem_ask = memory })

-- a name, where names of its kind count
abbrev pub kept : Bool → Option (List ℕ) → Option (List ℕ)
kept counts name = if counts then name else None

-- the exit code of a job that failed is 1
abbrev pub exit_of : Option Outcome → ℕ
exit_of (Some Failed) = 1
exit_of outcome = 0

unfoldable pub desc_with : TakenNames → TraceJob → Sizes → JobDesc
desc_with taken job sizes = record {
  name = codes "trace";
  account = kept taken.account job.names.account;
  partition = kept taken.partition job.names.partition;
  qos = kept taken.qos job.names.qos;
  reservation = None;
  tasks = sizes.tasks;
  cpus_per_task = 1;
  tasks_per_node = None;
  min_nodes = sizes.nodes;
  max_nodes = None;
  mem_ask = sizes.mem_ask;
  exclusive = false;
  limit = job.needs.limit;
  begin = None;
  nice = Lower 0;
  held = false;
  requeue = None;
  features = None;
  required = [];
  excluded = [];
  array = None;
  dependency = None;
  run = sizes.run;
  exit = exit_of job.outcome;
  parsable = false;
}

-- what is handed in for the job at a place of a trace, or why it is left out
unfoldable pub submission_of : TakenNames → ℕ → TraceJob → Result Submission LeftOut
submission_of taken place job = do
  sizes ← sizes_of job
  user ← ok_or job.names.user NoUser
  Ok (record { place = place; moment = sizes.moment; user = user; desc = desc_with taken job sizes })

-- a submission goes before those of later moments, and at its moment before those of later places
abbrev pub goes_before : Submission → Submission → Bool
goes_before one other =
    nat_lt one.moment other.moment || (nat_eq one.moment other.moment && nat_lt one.place other.place)

abbrev pub handed : Result Submission LeftOut → List Submission
handed (Ok submission) = submission ∷ []
handed (Err reason) = []

abbrev pub left : ℕ → Result Submission LeftOut → List LeftOutJob
left place (Ok submission) = []
left place (Err reason) = record { place = place; reason = reason } ∷ []

-- what is handed in for the jobs from a place of a trace on, in the order of the trace
unfoldable pub all_handed : TakenNames → ℕ → List TraceJob → List Submission
all_handed taken place [] = []
all_handed taken place (job ∷ jobs) =
    handed (submission_of taken place job) ++ all_handed taken (place + 1) jobs

-- and which of them are left out
unfoldable pub all_left : TakenNames → ℕ → List TraceJob → List LeftOutJob
all_left taken place [] = []
all_left taken place (job ∷ jobs) =
    left place (submission_of taken place job) ++ all_left taken (place + 1) jobs
