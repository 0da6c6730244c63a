-- The lines of a trace, one after the other: the jobs that were read, and what the rest of the lines gives behind them.
use Rattle.std.proofs.Common.{◌≡◌, ℕ, ◌+◌, List, [], ◌∷◌, ◌++◌, length, Option, None, Some, Result, Ok, Err, refl, ap, sym, append_assoc}
use Rattle.std.proofs.lemmas.List.{append-nil}
use Rattle.std.specs.Prelude.{option_to_list}
use Rattle.trace_text.specs.Steps.{◌>>=◌}
use Rattle.trace_text.specs.Traces.{at_line, behind, fault_in, jobs_in, jobs_said, line_said}
use Rattle.trace_text.specs.declared.fault.BadLine.{BadLine}
use Rattle.trace_text.specs.declared.fault.LineFault.{LineFault}
use Rattle.trace_text.specs.declared.job.TraceJob.{TraceJob}
use Rattle.trace_text.specs.declared.traces.TraceKind.{TraceKind}

-- how many bytes are left, the end of the line before them counted
abbrev pub text_left : Option (List ℕ) → ℕ
text_left None = 0
text_left (Some text) = 1 + length text

-- what lines from a number on give, behind what was read before
unfoldable pub jobs_behind : List TraceJob → TraceKind → ℕ → List (List ℕ) → Result (List TraceJob) BadLine
jobs_behind jobs kind number lines = behind jobs (jobs_in kind number lines)

behind_none : (read : Result (List TraceJob) BadLine) → behind [] read ≡ read
behind_none (Ok jobs) = refl
behind_none (Err bad) = refl

behind_both : (a b : List TraceJob) (read : Result (List TraceJob) BadLine) → behind a (behind b read) ≡ behind (a ++ b) read
behind_both a b (Ok jobs) = ap Ok (sym (append_assoc a b jobs))
behind_both a b (Err bad) = refl

step_more : (said : Result (Option TraceJob) LineFault) (jobs : List TraceJob) (number : ℕ) (rest : Result (List TraceJob) BadLine) → fault_in said ≡ None → behind jobs (at_line number said >>= λ job. behind (option_to_list job) rest) ≡ behind (jobs ++ jobs_said said) rest
step_more (Ok job) jobs number rest e = behind_both jobs (option_to_list job) rest
step_more (Err fault) jobs number rest e = cc

step_bad : (said : Result (Option TraceJob) LineFault) (jobs : List TraceJob) (number : ℕ) (rest : Result (List TraceJob) BadLine) (fault : LineFault) → fault_in said ≡ Some fault → behind jobs (at_line number said >>= λ job. behind (option_to_list job) rest) ≡ Err (record { line = number; fault = fault })
step_bad (Ok job) jobs number rest fault e = cc
step_bad (Err other) jobs number rest fault e =
    let same : other ≡ fault = cc in ap (λ f. Err (record { line = number; fault = f })) same

pub jobs_behind-none : (kind : TraceKind) (number : ℕ) (lines : List (List ℕ)) → jobs_behind [] kind number lines ≡ jobs_in kind number lines
unfolding jobs_behind
jobs_behind-none kind number lines = behind_none (jobs_in kind number lines)

pub jobs_behind-end : (jobs : List TraceJob) (kind : TraceKind) (number : ℕ) → jobs_behind jobs kind number [] ≡ Ok jobs
unfolding jobs_behind jobs_in
jobs_behind-end jobs kind number = ap Ok (append-nil jobs)

pub jobs_behind-more : (jobs : List TraceJob) (kind : TraceKind) (number : ℕ) (line : List ℕ) (lines : List (List ℕ)) → fault_in (line_said kind line) ≡ None → jobs_behind jobs kind number (line ∷ lines) ≡ jobs_behind (jobs ++ jobs_said (line_said kind line)) kind (number + 1) lines
unfolding jobs_behind jobs_in
jobs_behind-more jobs kind number line lines e = step_more (line_said kind line) jobs number (jobs_in kind (number + 1) lines) e

pub jobs_behind-bad : (jobs : List TraceJob) (kind : TraceKind) (number : ℕ) (line : List ℕ) (lines : List (List ℕ)) (fault : LineFault) → fault_in (line_said kind line) ≡ Some fault → jobs_behind jobs kind number (line ∷ lines) ≡ Err (record { line = number; fault = fault })
unfolding jobs_behind jobs_in
jobs_behind-bad jobs kind number line lines fault e = step_bad (line_said kind line) jobs number (jobs_in kind (number + 1) lines) fault e

pub ruleset line_steps = (jobs_behind-none, jobs_behind-end, jobs_behind-more, jobs_behind-bad)
