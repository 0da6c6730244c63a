use Rattle.std.proofs.Common.{arith}
use Rattle.job_table.proofs.Marks.{marked-missing, marked-more}
use Rattle.job_table.proofs.blocks.mark_at.Goals as goal

pub returns-then-block-len : goal.returns-then-block-len
returns-then-block-len c =
    marked-more c.args.blocks.now.items c.args.jobs.now c.args.place c.index_mut.result.now c.mark.new.block
    c.index-jobs-place.result (omega arith) c.index_mut.ensures.value c.requires.there c.index-jobs-place.is
    c.mark.ensures.shown c.mark.ensures.stays c.requires.others

pub returns-else-block-len : goal.returns-else-block-len
returns-else-block-len c =
    marked-missing c.args.blocks.now.items c.args.jobs.now c.args.place (omega arith) c.requires.others
