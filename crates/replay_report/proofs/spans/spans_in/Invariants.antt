use Rattle.std.proofs.Common.{◌≡◌, filter_map, take}
use Rattle.replay_report.specs.Spans.{span_of}
use Rattle.replay_report.proofs.spans.spans_in.Given as goal

abbrev pub invariant-loop-outcome : goal.invariant-loop-outcome
invariant-loop-outcome l = l.spans.items ≡ filter_map span_of (take l.outcome-index l.outcomes)
