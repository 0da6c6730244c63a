use Rattle.std.proofs.Common.{◌-◌, length}
use Rattle.block_frame.specs.Looking.{IsUnderWay}
use Rattle.block_frame.proofs.looking.look_at_lines.Given as goal

abbrev pub invariant-loop-searched : goal.invariant-loop-searched
invariant-loop-searched l = IsUnderWay l.text l.lines

abbrev pub decreases-loop-searched : goal.decreases-loop-searched
decreases-loop-searched l = length l.text - l.lines.at
