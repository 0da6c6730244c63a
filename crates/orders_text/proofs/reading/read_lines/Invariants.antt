use Rattle.std.proofs.Common.{◌-◌, length}
use Rattle.orders_text.proofs.Going.{Going}
use Rattle.orders_text.proofs.reading.read_lines.Given as goal

abbrev pub invariant-loop-at : goal.invariant-loop-at
invariant-loop-at l = Going l.text l.at l.number l.draft

abbrev pub decreases-loop-at : goal.decreases-loop-at
decreases-loop-at l = length l.text - l.at
