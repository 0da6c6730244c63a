use Rattle.replay_report.proofs.HoursLemmas.{IsAdding}
use Rattle.replay_report.proofs.hours.add_span.Given as goal

abbrev pub invariant-loop-hour : goal.invariant-loop-hour
invariant-loop-hour l = IsAdding l.first l.span l.low l.hour l.initial.hours l.hours
