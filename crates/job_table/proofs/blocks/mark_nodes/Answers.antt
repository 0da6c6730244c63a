use Rattle.std.proofs.Common.{arith}
use Rattle.job_table.specs.Blocks.{mark_of}
use Rattle.job_table.proofs.Marks.{mark-kept, mark-next}
use Rattle.job_table.proofs.blocks.mark_nodes.Goals as goal

pub loop-part-preserved : goal.loop-part-preserved
loop-part-preserved c =
    let held = c.loop-part.invariant in
    let part = c.part-item.result in
    record {
      marked = mark-next c.args.parts.now c.loop-part.part-index part c.loop-part.marks c.insert.new.self (omega arith)
          c.part-item.is c.insert.ensures.added held.marked;
      stays = λ number has. mark-kept (mark_of part.node) c.loop-part.marks c.insert.new.self c.insert.ensures.added number
          (held.stays number has);
    }

pub returns-clause-marked : goal.returns-clause-marked
returns-clause-marked c = λ k d inside. c.loop-part.invariant.marked k d (omega arith) (omega (arith, inside))
