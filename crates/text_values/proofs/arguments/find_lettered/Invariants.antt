use Rattle.std.proofs.Common.{◌≡◌, drop}
use Rattle.text_values.specs.Arguments.{lettered, rows}
use Rattle.text_values.proofs.arguments.find_lettered.Given as goal

abbrev pub invariant-loop-own : goal.invariant-loop-own
invariant-loop-own g l = lettered (rows (drop l.own-index l.table)) l.letter ≡ lettered (rows l.table) l.letter
