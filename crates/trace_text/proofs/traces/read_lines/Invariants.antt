use Rattle.std.proofs.Common.{◌≡◌, ◌+◌, ◌≤◌, length}
use Rattle.std.specs.Option.{option_copied}
use Rattle.small_texts.specs.Fields.{fields, fields_of_rest}
use Rattle.trace_text.specs.Traces.{jobs_in}
use Rattle.trace_text.proofs.LineSteps.{jobs_behind, text_left}
use Rattle.trace_text.proofs.traces.read_lines.Given as goal

abbrev pub decreases-loop-rest : goal.decreases-loop-rest
decreases-loop-rest l = text_left (option_copied l.rest)

abbrev pub invariant-loop-rest : goal.invariant-loop-rest
invariant-loop-rest l =
    (jobs_behind l.jobs.items l.kind l.number (fields_of_rest 10 (option_copied l.rest)) ≡ jobs_in l.kind 1 (fields 10 l.text))
    × (l.number + text_left (option_copied l.rest) ≤ 2 + length l.text)
