use Rattle.std.proofs.Common.{◌≡◌, map, take, Some}
use Rattle.small_texts.specs.Digits.{number_within}
use Rattle.table_lines.proofs.fields.narrow_numbers.Given as goal

-- the numbers of the parts so far
abbrev pub invariant-loop-part : goal.invariant-loop-part
invariant-loop-part l =
    map Some l.numbers.items
    ≡ map (λ part. number_within 20 4294967295 part) (map (λ part. part.now) (take l.part-index l.part-items))
