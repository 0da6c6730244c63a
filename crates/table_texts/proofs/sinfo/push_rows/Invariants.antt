use Rattle.std.proofs.Common.{◌≡◌, ◌++◌, take, flat_map}
use Rattle.table_texts.specs.Sinfo.{sinfo_row}
use Rattle.table_texts.proofs.sinfo.push_rows.Given as goal

abbrev pub invariant-loop-row : goal.invariant-loop-row
invariant-loop-row l = l.out.items ≡ l.initial.out.items ++ flat_map sinfo_row (take l.row-index l.rows)
