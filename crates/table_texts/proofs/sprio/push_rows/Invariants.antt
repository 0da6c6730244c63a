use Rattle.std.proofs.Common.{◌≡◌, ◌++◌, take, flat_map}
use Rattle.table_texts.specs.Sprio.{sprio_row}
use Rattle.table_texts.proofs.sprio.push_rows.Given as goal

abbrev pub invariant-loop-row : goal.invariant-loop-row
invariant-loop-row l = l.out.items ≡ l.initial.out.items ++ flat_map sprio_row (take l.row-index l.rows)
