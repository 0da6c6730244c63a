use Rattle.std.proofs.Common.{◌≡◌, take, sum}
use Rattle.replay_report.specs.Numbers.{stopped}
use Rattle.replay_report.proofs.spreads.total.Given as goal

abbrev pub invariant-loop-number : goal.invariant-loop-number
invariant-loop-number l = l.total ≡ stopped (sum (take l.number-index l.numbers))
