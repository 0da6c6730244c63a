use Rattle.std.proofs.Common.{◌≡◌, drop, map}
use Rattle.assoc_reader.specs.Keys.{named}
use Rattle.assoc_reader.proofs.keys.named.Given as goal

abbrev pub invariant-loop-name : goal.invariant-loop-name
invariant-loop-name g l =
    named (map (λ row. (row.0.now, row.1)) (drop l.name-index l.table)) l.text ≡ named (map (λ row. (row.0.now, row.1)) l.table) l.text
