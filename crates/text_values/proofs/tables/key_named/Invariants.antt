use Rattle.std.proofs.Common.{◌≡◌, drop, map}
use Rattle.text_values.specs.Tables.{key_named}
use Rattle.text_values.proofs.tables.key_named.Given as goal

abbrev pub invariant-loop-name : goal.invariant-loop-name
invariant-loop-name g l =
    key_named (map (λ row. (row.0.now, row.1)) (drop l.name-index l.table)) l.text ≡ key_named (map (λ row. (row.0.now, row.1)) l.table) l.text
