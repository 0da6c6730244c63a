-- What single fields of sacct's lines say.
use Rattle.std.specs.Prelude.{ℕ, ◌+◌, ◌-◌, ◌*◌, ◌/◌, ◌==◌, ◌||◌, ◌&&◌, Bool, true, false, nat_eq, nat_lt, if◌then◌else◌, List, [], ◌∷◌, length, take, slice_get, Option, None, Some, option_map, unwrap_or, codes}
use Rattle.std.specs.Char.{is_ascii_digit, to_ascii_uppercase}
use Rattle.std.specs.List.{list_any, starts_with, ends_with}
use Rattle.std.specs.Option.{option_or}
use Rattle.std.specs.Str.{bytes_eq, byte}
use Rattle.small_texts.specs.Digits.{number_within, leading_digits, after_digits}
use Rattle.small_texts.specs.Fields.{fields}
use Rattle.small_texts.specs.Moment.{moment_of}
use Rattle.small_texts.specs.Options.{◌>>=◌}
use Rattle.plain_data.specs.declared.limit.Limit.{Limit}
use Rattle.plain_data.specs.Limits.{limit_of}
use Rattle.trace_text.specs.declared.job.Outcome.{Outcome}
use Rattle.trace_text.specs.declared.job.Outcome.TheVariants.{Completed, Failed, Cancelled, TimedOut, Unfinished}
use Rattle.trace_text.specs.declared.job.TraceId.{TraceId}
use Rattle.trace_text.specs.declared.job.TraceId.TheVariants.{Job, Task, WaitingTasks, Component}
use Rattle.trace_text.specs.declared.job.TraceMemory.{TraceMemory}
use Rattle.trace_text.specs.declared.job.TraceMemory.TheVariants.{PerProcessor, PerNode, InAll}

-- what stands before the first of such bytes
abbrev pub front_of : ℕ → List ℕ → List ℕ
front_of mark text = unwrap_or (slice_get (fields mark text) 0) []

-- a step of a job, or the head of the columns
unfoldable pub is_no_job : List ℕ → Bool
is_no_job id = list_any (λ b. b == byte ".") id || bytes_eq id (codes "JobID")

-- behind the number of a job: nothing; `_` and the number of a task, or `_[..]` for tasks that wait; `+` and a place
unfoldable pub task_of : ℕ → List ℕ → Option TraceId
task_of array text =
    if starts_with nat_eq text (codes "[") && ends_with nat_eq text (codes "]") then Some (WaitingTasks array)
    else option_map (λ task. Task array task) (number_within 10 4_294_967_295 text)

unfoldable pub id_behind : ℕ → List ℕ → Option TraceId
id_behind job [] = Some (Job job)
id_behind job (b ∷ rest) =
    if b == byte "_" then task_of job rest
    else (if b == byte "+" then option_map (λ place. Component job place) (number_within 10 4_294_967_295 rest) else None)

unfoldable pub id_in : List ℕ → Option TraceId
id_in text = do
  job ← number_within 10 4_294_967_295 (leading_digits text)
  id_behind job (after_digits text)

abbrev pub begins_with_digit : List ℕ → Bool
begins_with_digit [] = false
begins_with_digit (b ∷ rest) = is_ascii_digit b

-- seconds since 1970, or a date and a time of day
unfoldable pub civil_in : List ℕ → Option ℕ
civil_in text = if begins_with_digit text then moment_of text 0 else None

unfoldable pub known_moment : List ℕ → Option ℕ
known_moment text = option_or (number_within 12 250_000_000_000 text) (civil_in text)

-- the moment of a text, where it tells one
abbrev pub is_untold : List ℕ → Bool
is_untold text = bytes_eq text [] || bytes_eq text (codes "Unknown") || bytes_eq text (codes "None")

unfoldable pub moment_in : List ℕ → Option (Option ℕ)
moment_in text = if is_untold text then Some None else (known_moment text >>= λ moment. Some (Some moment))

-- a time limit, which may be that of the partition
abbrev pub is_partitions : List ℕ → Bool
is_partitions text = bytes_eq text [] || bytes_eq text (codes "Partition_Limit")

unfoldable pub limit_in : List ℕ → Option (Option Limit)
limit_in text =
    if is_partitions text then Some None
    else (limit_of text >>= λ limit. Some (Some limit))

-- how many nodes or processors
unfoldable pub count_in : List ℕ → Option (Option ℕ)
count_in text =
    if bytes_eq text [] then Some None else (number_within 9 999_999_999 text >>= λ count. Some (Some count))

-- so many hundredths of a unit in megabytes, by the unit's capital letter, rounded up
abbrev pub by_letter : ℕ → ℕ → Option ℕ
by_letter letter hundredths =
    if letter == byte "K" then Some ((hundredths + 102_399) / 102_400)
    else (if letter == byte "M" then Some ((hundredths + 99) / 100)
    else (if letter == byte "G" then Some ((hundredths * 1024 + 99) / 100)
    else (if letter == byte "T" then Some ((hundredths * 1_048_576 + 99) / 100)
    else None)))

-- the same by what follows the number: nothing, which is megabytes, or one letter in either case
unfoldable pub in_unit : ℕ → List ℕ → Option ℕ
in_unit hundredths [] = by_letter (byte "M") hundredths
in_unit hundredths (letter ∷ []) = by_letter (to_ascii_uppercase letter) hundredths
in_unit hundredths _ = None

-- one or two digits behind a point
unfoldable pub hundredths_in : List ℕ → Option ℕ
hundredths_in text = do
  number ← number_within 2 99 text
  Some (if length text == 1 then 10 * number else number)

-- what follows the whole number of units: a point and digits, or none, and the unit
unfoldable pub behind_whole : ℕ → List ℕ → Option ℕ
behind_whole whole [] = in_unit (100 * whole) []
behind_whole whole (b ∷ rest) =
    if b == byte "."
    then (hundredths_in (leading_digits rest) >>= λ part. in_unit (100 * whole + part) (after_digits rest))
    else in_unit (100 * whole) (b ∷ rest)

unfoldable pub megabytes_in : List ℕ → Option ℕ
megabytes_in text = do
  whole ← number_within 9 999_999_999 (leading_digits text)
  behind_whole whole (after_digits text)

-- all but the last byte
abbrev pub but_last : List ℕ → List ℕ
but_last text = take (length text - 1) text

-- for each processor behind a `c`, for each node behind an `n`, else for the job
unfoldable pub known_memory : List ℕ → Option TraceMemory
known_memory text =
    if ends_with nat_eq text (codes "c") then option_map (λ amount. PerProcessor amount) (megabytes_in (but_last text))
    else (if ends_with nat_eq text (codes "n") then option_map (λ amount. PerNode amount) (megabytes_in (but_last text))
    else option_map (λ amount. InAll amount) (megabytes_in text))

unfoldable pub memory_in : List ℕ → Option (Option TraceMemory)
memory_in text = if bytes_eq text [] then Some None else (known_memory text >>= λ memory. Some (Some memory))

-- states of jobs that failed, and of those that haven't ended
unfoldable pub is_failed : List ℕ → Bool
is_failed word =
    bytes_eq word (codes "FAILED") || bytes_eq word (codes "OUT_OF_MEMORY") || bytes_eq word (codes "NODE_FAIL")
    || bytes_eq word (codes "BOOT_FAIL") || bytes_eq word (codes "LAUNCH_FAILED") || bytes_eq word (codes "PREEMPTED")
    || bytes_eq word (codes "DEADLINE") || bytes_eq word (codes "REVOKED")

unfoldable pub is_unfinished : List ℕ → Bool
is_unfinished word =
    bytes_eq word (codes "PENDING") || bytes_eq word (codes "RUNNING") || bytes_eq word (codes "SUSPENDED")
    || bytes_eq word (codes "REQUEUED") || bytes_eq word (codes "RESIZING") || bytes_eq word (codes "COMPLETING")
    || bytes_eq word (codes "CONFIGURING")

unfoldable pub outcome_named : List ℕ → Option Outcome
outcome_named word =
    if bytes_eq word (codes "COMPLETED") then Some Completed
    else (if bytes_eq word (codes "CANCELLED") then Some Cancelled
    else (if bytes_eq word (codes "TIMEOUT") then Some TimedOut
    else (if is_failed word then Some Failed
    else (if is_unfinished word then Some Unfinished
    else None))))

-- the first word of a state; behind it may stand who cancelled the job
unfoldable pub outcome_in : List ℕ → Option (Option Outcome)
outcome_in text =
    if bytes_eq text [] then Some None
    else (outcome_named (front_of (byte " ") text) >>= λ outcome. Some (Some outcome))
