use Rattle.std.proofs.Common.{◌≡◌, ◌-◌, length}
use Rattle.block_frame.specs.Grammar.{longest_block}
use Rattle.ctl_session.specs.Reading.{TakesNone, WritesStay}
use Rattle.ctl_session.proofs.reading.next_whole.Given as goal

-- what was read so far is pending
abbrev pub invariant-loop-block : goal.invariant-loop-block
invariant-loop-block g l = record {
  takes : TakesNone (g.L.Link.wire l.initial.link) (g.L.Link.wire l.link) l.initial.blocks l.blocks;
  reads : (g.L.Link.wire l.link).reads ≡ (g.L.Link.wire l.initial.link).reads;
  writes : WritesStay (g.L.Link.wire l.initial.link) (g.L.Link.wire l.link);
  room : length l.buffer ≡ length l.initial.buffer;
}

-- less than a whole block is short
abbrev pub decreases-loop-block : goal.decreases-loop-block
decreases-loop-block g l = longest_block - length l.blocks.pending
