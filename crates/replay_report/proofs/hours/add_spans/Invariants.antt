use Rattle.std.proofs.Common.{[], take}
use Rattle.replay_report.specs.Hours.{CountsHours}
use Rattle.replay_report.proofs.hours.add_spans.Given as goal

abbrev pub invariant-loop-span : goal.invariant-loop-span
invariant-loop-span l =
    CountsHours l.first [] l.initial.hours → CountsHours l.first (take l.span-index l.spans) l.hours
