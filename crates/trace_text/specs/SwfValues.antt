-- What single fields of a Standard Workload Format file say.
use Rattle.std.specs.Prelude.{ℕ, ◌+◌, ◌/◌, ◌==◌, nat_lt, if◌then◌else◌, List, Option, None, Some, codes}
use Rattle.std.specs.Str.{bytes_eq}
use Rattle.small_texts.specs.Digits.{number_within}
use Rattle.small_texts.specs.Options.{◌>>=◌}
use Rattle.plain_data.specs.declared.limit.Limit.{Limit}
use Rattle.plain_data.specs.declared.limit.Limit.TheVariants.{Minutes}
use Rattle.trace_text.specs.declared.job.Outcome.{Outcome}
use Rattle.trace_text.specs.declared.job.Outcome.TheVariants.{Completed, Failed, Cancelled}
use Rattle.trace_text.specs.declared.job.TraceMemory.{TraceMemory}
use Rattle.trace_text.specs.declared.job.TraceMemory.TheVariants.{PerProcessor}
use Rattle.trace_text.specs.declared.swf_values.SwfStatus.{SwfStatus}
use Rattle.trace_text.specs.declared.swf_values.SwfStatus.TheVariants.{Whole, Part}

-- -1 is unknown
abbrev pub known_within : ℕ → ℕ → List ℕ → Option (Option ℕ)
known_within most greatest word = number_within most greatest word >>= λ number. Some (Some number)

unfoldable pub number_in : ℕ → ℕ → List ℕ → Option (Option ℕ)
number_in most greatest word = if bytes_eq word (codes "-1") then Some None else known_within most greatest word

-- so many seconds as a time limit, in whole minutes, rounded up; 0 seconds tell none
unfoldable pub limit_of_seconds : Option ℕ → Option Limit
limit_of_seconds None = None
limit_of_seconds (Some seconds) = if nat_lt 0 seconds then Some (Minutes ((seconds + 59) / 60)) else None

-- kilobytes of each processor in megabytes, rounded up
unfoldable pub memory_of : Option ℕ → Option TraceMemory
memory_of None = None
memory_of (Some kilobytes) = Some (PerProcessor ((kilobytes + 1023) / 1024))

-- the number of a status: 2, 3 and 4 are parts of a job that another line tells of
unfoldable pub status_of : Option ℕ → SwfStatus
status_of None = Whole None
status_of (Some number) =
    if number == 0 then Whole (Some Failed)
    else (if number == 1 then Whole (Some Completed)
    else (if number == 5 then Whole (Some Cancelled)
    else Part))

unfoldable pub status_in : List ℕ → Option SwfStatus
status_in word = number_in 1 5 word >>= λ number. Some (status_of number)
