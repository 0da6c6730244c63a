-- The times of the jobs that ran, and what is counted of them.
use Rattle.std.specs.Prelude.{ℕ, ◌+◌, ◌-◌, ◌*◌, ◌/◌, min, max, List, [], ◌∷◌, fold, filter_map, Option, Some, None}
use Rattle.replay_report.specs.Numbers.{stopped}
use Rattle.replay_report.specs.declared.outcome.Fate.{Fate}
use Rattle.replay_report.specs.declared.outcome.Fate.TheVariants.{Ran}
use Rattle.replay_report.specs.declared.outcome.JobOutcome.{JobOutcome}
use Rattle.replay_report.specs.declared.spans.Reach.{Reach}
use Rattle.replay_report.specs.declared.spans.Span.{Span}

abbrev pub span_with : Fate → Option ℕ → ℕ → Option Span
span_with (Ran run) (Some submit) processors =
    Some (record { submit = submit; start = run.start; end = run.end; processors = processors })
span_with (Ran run) None processors = None
span_with fate submit processors = None

-- the times of a job, where it ran
unfoldable pub span_of : JobOutcome → Option Span
span_of outcome = span_with outcome.fate outcome.times.submit outcome.processors

abbrev pub spans_in : List JobOutcome → List Span
spans_in outcomes = filter_map span_of outcomes

abbrev pub wait_of : Span → ℕ
wait_of span = span.start - span.submit

abbrev pub run_of : Span → ℕ
run_of span = span.end - span.start

-- The bounded slowdown in hundredths, rounded down: wait and run over the run, which counts as 10 seconds at least. It is
-- 1 at least.
unfoldable pub slowdown_of : Span → ℕ
slowdown_of span = max (stopped (stopped (wait_of span + run_of span) * 100) / max (run_of span) 10) 100

-- processor-seconds
abbrev pub used_of : Span → ℕ
used_of span = stopped (span.processors * run_of span)

-- those from one second to before another
abbrev pub used_between : ℕ → ℕ → Span → ℕ
used_between from until span = stopped (span.processors * (min span.end until - max span.start from))

-- the first submission and the last end
abbrev pub reach_of : List Span → Option Reach
reach_of [] = None
reach_of (one ∷ others) = Some (record {
  first = fold (λ first (span : Span). min first span.submit) one.submit others;
  last = fold (λ last (span : Span). max last span.end) one.end others;
})
