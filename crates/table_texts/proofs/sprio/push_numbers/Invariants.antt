use Rattle.std.proofs.Common.{◌≡◌, ◌++◌, take, flat_map}
use Rattle.table_texts.specs.Sprio.{number_cell}
use Rattle.table_texts.proofs.sprio.push_numbers.Given as goal

abbrev pub invariant-loop-number : goal.invariant-loop-number
invariant-loop-number l =
    l.out.items ≡ l.initial.out.items ++ flat_map number_cell (take l.number-index l.numbers)
