use Rattle.std.proofs.Common.{◌≡◌, ◌++◌, take, flat_map}
use Rattle.table_texts.specs.ShowJob.{later_part}
use Rattle.table_texts.proofs.show_job.push_later_parts.Given as goal

abbrev pub invariant-loop-part : goal.invariant-loop-part
invariant-loop-part l = l.out.items ≡ l.initial.out.items ++ flat_map later_part (take l.part-index l.parts)
