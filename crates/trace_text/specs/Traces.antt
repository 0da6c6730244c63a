-- The jobs of a trace.
use Rattle.std.specs.Prelude.{ℕ, ◌+◌, List, [], ◌∷◌, ◌++◌, Option, None, Some, Result, Ok, Err, option_to_list}
use Rattle.std.specs.Str.{byte}
use Rattle.small_texts.specs.Fields.{fields}
use Rattle.trace_text.specs.Sacct.{sacct_line}
use Rattle.trace_text.specs.Steps.{◌>>=◌}
use Rattle.trace_text.specs.Swf.{swf_line}
use Rattle.trace_text.specs.declared.fault.BadLine.{BadLine}
use Rattle.trace_text.specs.declared.fault.LineFault.{LineFault}
use Rattle.trace_text.specs.declared.job.TraceJob.{TraceJob}
use Rattle.trace_text.specs.declared.traces.TraceKind.{TraceKind}
use Rattle.trace_text.specs.declared.traces.TraceKind.TheVariants.{Swf, Sacct}

-- what a line says, by the kind of its trace
unfoldable pub line_said : TraceKind → List ℕ → Result (Option TraceJob) LineFault
line_said Swf line = swf_line line
line_said Sacct line = sacct_line line

-- a fault with the number of its line
abbrev pub at_line : {A : Type 0} → ℕ → Result A LineFault → Result A BadLine
at_line number (Ok said) = Ok said
at_line number (Err fault) = Err (record { line = number; fault = fault })

-- jobs behind others
abbrev pub behind : List TraceJob → Result (List TraceJob) BadLine → Result (List TraceJob) BadLine
behind jobs (Ok others) = Ok (jobs ++ others)
behind jobs (Err bad) = Err bad

-- the jobs of lines from a number on, up to the first bad one
unfoldable pub jobs_in : TraceKind → ℕ → List (List ℕ) → Result (List TraceJob) BadLine
jobs_in kind number [] = Ok []
jobs_in kind number (line ∷ lines) =
    at_line number (line_said kind line) >>= λ job. behind (option_to_list job) (jobs_in kind (number + 1) lines)

-- what is wrong with a line, and its job
abbrev pub fault_in : Result (Option TraceJob) LineFault → Option LineFault
fault_in (Ok job) = None
fault_in (Err fault) = Some fault

abbrev pub jobs_said : Result (Option TraceJob) LineFault → List TraceJob
jobs_said (Ok job) = option_to_list job
jobs_said (Err fault) = []

-- the jobs of a text, or its first bad line
unfoldable pub trace_in : TraceKind → List ℕ → Result (List TraceJob) BadLine
trace_in kind text = jobs_in kind 1 (fields (byte "\n") text)
