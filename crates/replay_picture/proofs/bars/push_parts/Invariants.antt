use Rattle.std.proofs.Common.{◌≡◌, ◌++◌, drop}
use Rattle.replay_picture.specs.Bars.{parts_text}
use Rattle.replay_picture.proofs.bars.push_parts.Given as goal

abbrev pub invariant-loop-part : goal.invariant-loop-part
invariant-loop-part l =
    l.out.items ++ parts_text l.row l.period l.bars l.lanes (drop l.part-index l.parts)
    ≡ l.fn.out.items ++ parts_text l.row l.period l.bars l.fn.lanes l.parts
