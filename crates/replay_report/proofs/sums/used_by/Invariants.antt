use Rattle.std.proofs.Common.{◌≡◌, take, sum_by}
use Rattle.replay_report.specs.Numbers.{stopped}
use Rattle.replay_report.specs.Spans.{used_of}
use Rattle.replay_report.proofs.sums.used_by.Given as goal

abbrev pub invariant-loop-span : goal.invariant-loop-span
invariant-loop-span l = l.used ≡ stopped (sum_by used_of (take l.span-index l.spans))
