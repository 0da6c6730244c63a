use Rattle.std.proofs.Common.{map, string_bytes}
use Rattle.table_lines.specs.Tables.{AreTold}
use Rattle.table_lines.proofs.table.answers.Given as goal

-- the lines so far
abbrev pub invariant-loop-line : goal.invariant-loop-line
invariant-loop-line g l = AreTold (map (λ line. line.now) l.yielded) (string_bytes l.out)
