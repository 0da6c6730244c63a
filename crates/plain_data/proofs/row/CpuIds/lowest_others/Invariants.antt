use Rattle.plain_data.proofs.Lowest.{AreLowest}
use Rattle.plain_data.proofs.row.CpuIds.lowest_others.Given as goal

abbrev pub invariant-loop-number : goal.invariant-loop-number
invariant-loop-number l = AreLowest l.self l.number l.count l.wanted l.lowest
