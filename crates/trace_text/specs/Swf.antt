-- What a line of a Standard Workload Format file says: eighteen fields, which are numbers.
use Rattle.std.specs.Prelude.{ℕ, ◌+◌, ◌==◌, Bool, true, if◌then◌else◌, List, [], ◌∷◌, length, Option, None, Some, Result, Ok, Err, codes}
use Rattle.std.specs.Option.{option_or}
use Rattle.std.specs.Str.{byte}
use Rattle.small_texts.specs.Digits.{number_within}
use Rattle.trace_text.specs.Fields.{field, words}
use Rattle.trace_text.specs.Jobs.{job_with}
use Rattle.trace_text.specs.Names.{numbered}
use Rattle.trace_text.specs.Steps.{◌>>=◌, at_field}
use Rattle.trace_text.specs.SwfValues.{limit_of_seconds, memory_of, number_in, status_in}
use Rattle.trace_text.specs.declared.swf_line.TheConstants.{JOB_NUMBER, SUBMIT_TIME, WAIT_TIME, RUN_TIME, ALLOCATED, REQUESTED, REQUESTED_TIME, REQUESTED_MEMORY, STATUS, USER_ID, GROUP_ID, QUEUE, PARTITION_NUMBER}
use Rattle.trace_text.specs.declared.fault.LineFault.{LineFault}
use Rattle.trace_text.specs.declared.fault.LineFault.TheVariants.{FieldCount}
use Rattle.trace_text.specs.declared.job.Facts.{Facts}
use Rattle.trace_text.specs.declared.job.Outcome.{Outcome}
use Rattle.trace_text.specs.declared.job.TraceId.TheVariants.{Job}
use Rattle.trace_text.specs.declared.job.TraceJob.{TraceJob}
use Rattle.trace_text.specs.declared.job.TraceNames.{TraceNames}
use Rattle.trace_text.specs.declared.job.TraceNeeds.{TraceNeeds}
use Rattle.trace_text.specs.declared.job.TraceTimes.{TraceTimes}
use Rattle.trace_text.specs.declared.swf_line.NumberedNames.{NumberedNames}
use Rattle.trace_text.specs.declared.swf_line.SwfFacts.{SwfFacts}
use Rattle.trace_text.specs.declared.swf_values.SwfStatus.{SwfStatus}
use Rattle.trace_text.specs.declared.swf_values.SwfStatus.TheVariants.{Whole, Part}

-- the sum of two numbers that are known
abbrev pub sum_of : Option ℕ → Option ℕ → Option ℕ
sum_of (Some a) (Some b) = Some (a + b)
sum_of (Some a) None = None
sum_of None b = None

-- a job starts behind its wait, and ends behind its run
abbrev pub times_of : Option ℕ → Option ℕ → Option ℕ → TraceTimes
times_of submit wait run =
    record { submit = submit; start = sum_of submit wait; end = sum_of (sum_of submit wait) run; run = run }

abbrev pub seconds_in : List ℕ → Option (Option ℕ)
seconds_in word = number_in 12 250_000_000_000 word

abbrev pub count_in : List ℕ → Option (Option ℕ)
count_in word = number_in 9 999_999_999 word

unfoldable pub swf_times : List (List ℕ) → Result TraceTimes LineFault
swf_times parts = do
  submit ← at_field SUBMIT_TIME (seconds_in (field parts SUBMIT_TIME))
  wait ← at_field WAIT_TIME (seconds_in (field parts WAIT_TIME))
  run ← at_field RUN_TIME (seconds_in (field parts RUN_TIME))
  Ok (times_of submit wait run)

-- the processors that were asked for count, or else those that it got
unfoldable pub swf_needs : List (List ℕ) → Result TraceNeeds LineFault
swf_needs parts = do
  allocated ← at_field ALLOCATED (count_in (field parts ALLOCATED))
  requested ← at_field REQUESTED (count_in (field parts REQUESTED))
  seconds ← at_field REQUESTED_TIME (number_in 10 3_153_600_000 (field parts REQUESTED_TIME))
  kilobytes ← at_field REQUESTED_MEMORY (number_in 12 999_999_999_999 (field parts REQUESTED_MEMORY))
  Ok (record {
    limit = limit_of_seconds seconds;
    nodes = None;
    processors = option_or requested allocated;
    memory = memory_of kilobytes;
  })

unfoldable pub swf_names : List (List ℕ) → Result NumberedNames LineFault
swf_names parts = do
  user ← at_field USER_ID (count_in (field parts USER_ID))
  group ← at_field GROUP_ID (count_in (field parts GROUP_ID))
  queue ← at_field QUEUE (count_in (field parts QUEUE))
  partition ← at_field PARTITION_NUMBER (count_in (field parts PARTITION_NUMBER))
  Ok (record { user = user; group = group; queue = queue; partition = partition })

unfoldable pub swf_facts : List (List ℕ) → Result SwfFacts LineFault
swf_facts parts = do
  number ← at_field JOB_NUMBER (number_within 10 4_294_967_295 (field parts JOB_NUMBER))
  times ← swf_times parts
  needs ← swf_needs parts
  status ← at_field STATUS (status_in (field parts STATUS))
  names ← swf_names parts
  Ok (record { number = number; times = times; needs = needs; status = status; names = names })

-- users, groups, queues and partitions have numbers; a group is an account, a queue a quality of service
abbrev pub names_of_numbers : NumberedNames → TraceNames
names_of_numbers numbers = record {
  user = numbered (codes "user") numbers.user;
  account = numbered (codes "group") numbers.group;
  partition = numbered (codes "partition") numbers.partition;
  qos = numbered (codes "queue") numbers.queue;
}

abbrev pub facts_of : SwfFacts → Option Outcome → Facts
facts_of said outcome = record { id = Job said.number; times = said.times; needs = said.needs; outcome = outcome }

-- a part of a job is passed over
abbrev pub job_by : SwfStatus → SwfFacts → Option TraceJob
job_by Part said = None
job_by (Whole outcome) said = Some (job_with (facts_of said outcome) (names_of_numbers said.names))

-- no words, or a remark behind a semicolon
abbrev pub is_remark : List ℕ → Bool
is_remark [] = true
is_remark (b ∷ word) = b == byte ";"

unfoldable pub swf_words : List (List ℕ) → Result (Option TraceJob) LineFault
swf_words parts =
    if is_remark (field parts JOB_NUMBER) then Ok None
    else (if length parts == 18 then (swf_facts parts >>= λ said. Ok (job_by said.status said))
    else Err FieldCount)

-- the job that a line tells of, if it tells of one
unfoldable pub swf_line : List ℕ → Result (Option TraceJob) LineFault
swf_line line = swf_words (words line)
