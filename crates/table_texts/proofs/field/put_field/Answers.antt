use Rattle.std.proofs.Common.{arith, length, take, ◌+◌, ◌-◌}
use Rattle.table_texts.proofs.Filled.{field-left, field-right}
use Rattle.table_texts.proofs.field.put_field.Goals as goal
use Rattle.table_texts.proofs.field.put_field.Goals.{then-dot, else-dot}

pub returns : goal.returns
returns c =
    let blanks = c.args.blanks.now in
    let text = c.args.text.now in
    let n = c.min.result in
    let from = c.if-dot.from in
    elim c.if-dot.branch [
      | then-dot w ↦ field-right blanks text c.copy_from_slice.new.self c.args.dot n from (from + length (take n text) - from)
          c.requires c.min.ensures w.if-dot.true w.from-is c.copy_from_slice.ensures.after (omega arith)
      | else-dot w ↦ field-left blanks text c.copy_from_slice.new.self c.args.dot n from (from + length (take n text) - from)
          c.requires c.min.ensures w.if-dot.false w.from-is c.copy_from_slice.ensures.after (omega arith)
    ]
