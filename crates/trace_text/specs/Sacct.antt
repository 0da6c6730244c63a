-- What a line of `sacct -P -n` says, of thirteen fields: JobID, User, Account, Partition, QOS, Submit, Start, End,
-- Timelimit, ReqNodes, ReqCPUS, ReqMem and State.
use Rattle.std.specs.Prelude.{ℕ, ◌-◌, ◌==◌, ◌||◌, Bool, if◌then◌else◌, List, [], length, Option, None, Some, Result, Ok, Err}
use Rattle.std.specs.Str.{bytes_eq, byte}
use Rattle.small_texts.specs.Fields.{fields}
use Rattle.small_texts.specs.Name.{is_name}
use Rattle.trace_text.specs.Fields.{field}
use Rattle.trace_text.specs.Jobs.{job_with}
use Rattle.trace_text.specs.Names.{name_in}
use Rattle.trace_text.specs.SacctValues.{count_in, front_of, id_in, is_no_job, limit_in, memory_in, moment_in, outcome_in}
use Rattle.trace_text.specs.Steps.{◌>>=◌, at_field}
use Rattle.trace_text.specs.declared.sacct_line.TheConstants.{JOB_ID, USER, ACCOUNT, PARTITION, QOS, SUBMIT, START, END, LIMIT, NODES, PROCESSORS, MEMORY, STATE}
use Rattle.trace_text.specs.declared.fault.LineFault.{LineFault}
use Rattle.trace_text.specs.declared.fault.LineFault.TheVariants.{FieldCount, Field}
use Rattle.trace_text.specs.declared.job.Facts.{Facts}
use Rattle.trace_text.specs.declared.job.TraceJob.{TraceJob}
use Rattle.trace_text.specs.declared.job.TraceNames.{TraceNames}
use Rattle.trace_text.specs.declared.job.TraceNeeds.{TraceNeeds}
use Rattle.trace_text.specs.declared.job.TraceTimes.{TraceTimes}

-- a name, or nothing
abbrev pub fits_name : ℕ → List ℕ → Result (Unit {0}) LineFault
fits_name place text = if bytes_eq text [] || is_name text then Ok tt else Err (Field place)

-- of several partitions that a job may have the first counts
abbrev pub partition_in : List (List ℕ) → List ℕ
partition_in parts = front_of (byte ",") (field parts PARTITION)

unfoldable pub names_fit : List (List ℕ) → Result (Unit {0}) LineFault
names_fit parts = do
  user ← fits_name USER (field parts USER)
  account ← fits_name ACCOUNT (field parts ACCOUNT)
  partition ← fits_name PARTITION (partition_in parts)
  fits_name QOS (field parts QOS)

abbrev pub names_of : List (List ℕ) → TraceNames
names_of parts = record {
  user = name_in (field parts USER);
  account = name_in (field parts ACCOUNT);
  partition = name_in (partition_in parts);
  qos = name_in (field parts QOS);
}

-- how long it took from a start to an end, where both are told
abbrev pub between : Option ℕ → Option ℕ → Option ℕ
between (Some start) (Some end) = Some (end - start)
between (Some start) None = None
between None end = None

unfoldable pub times_in : List (List ℕ) → Result TraceTimes LineFault
times_in parts = do
  submit ← at_field SUBMIT (moment_in (field parts SUBMIT))
  start ← at_field START (moment_in (field parts START))
  end ← at_field END (moment_in (field parts END))
  Ok (record { submit = submit; start = start; end = end; run = between start end })

unfoldable pub needs_in : List (List ℕ) → Result TraceNeeds LineFault
needs_in parts = do
  limit ← at_field LIMIT (limit_in (field parts LIMIT))
  nodes ← at_field NODES (count_in (field parts NODES))
  processors ← at_field PROCESSORS (count_in (field parts PROCESSORS))
  memory ← at_field MEMORY (memory_in (field parts MEMORY))
  Ok (record { limit = limit; nodes = nodes; processors = processors; memory = memory })

unfoldable pub facts_in : List (List ℕ) → Result Facts LineFault
facts_in parts = do
  id ← at_field JOB_ID (id_in (field parts JOB_ID))
  named ← names_fit parts
  times ← times_in parts
  needs ← needs_in parts
  outcome ← at_field STATE (outcome_in (field parts STATE))
  Ok (record { id = id; times = times; needs = needs; outcome = outcome })

-- a step of a job is passed over
unfoldable pub sacct_fields : List (List ℕ) → Result (Option TraceJob) LineFault
sacct_fields parts =
    if length parts == 13
    then (if is_no_job (field parts JOB_ID) then Ok None
    else (facts_in parts >>= λ facts. Ok (Some (job_with facts (names_of parts)))))
    else Err FieldCount

-- the job that a line tells of, if it tells of one
unfoldable pub sacct_line : List ℕ → Result (Option TraceJob) LineFault
sacct_line line = if bytes_eq line [] then Ok None else sacct_fields (fields (byte "|") line)
