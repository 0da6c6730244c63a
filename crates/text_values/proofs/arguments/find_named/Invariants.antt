use Rattle.std.proofs.Common.{◌≡◌, drop}
use Rattle.text_values.specs.Arguments.{named, rows}
use Rattle.text_values.proofs.arguments.find_named.Given as goal

abbrev pub invariant-loop-long : goal.invariant-loop-long
invariant-loop-long g l = named (rows (drop l.long-index l.table)) l.name ≡ named (rows l.table) l.name
