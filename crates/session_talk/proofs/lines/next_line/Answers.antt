use Rattle.std.proofs.Common.{◌∙◌}
use Rattle.session_talk.proofs.Longer.{read_more, one_line, whole_line, some_read}
use Rattle.session_talk.proofs.lines.next_line.Goals as goal

pub returns-in-Whole : goal.returns-in-Whole
returns-in-Whole g c =
    let left = g.S.Source.left in
    let so_far = c.loop-source.invariant in (
      whole_line (left c.args.source.now) (left c.loop-source.source) (left c.read_on.new.source) c.args.pending.now.items
          c.loop-source.line.items c.read_on.new.line.items c.read_on.new.pending.items
          c.without_return-in-Whole.result.items so_far.read so_far.one_line c.in-Whole.ensures.0
          c.without_return-in-Whole.ensures,
      c.in-Whole.ensures.1 ∙ so_far.faults,
    )

pub loop-source-preserved : goal.loop-source-preserved
loop-source-preserved g c =
    let left = g.S.Source.left in
    let so_far = c.loop-source.invariant in
    let brought = c.in-More.ensures.0 in
    let cut = brought.3 in
    record {
      read = read_more (left c.args.source.now) (left c.loop-source.source) (left c.read_on.new.source)
          c.args.pending.now.items c.loop-source.line.items brought.0 c.read_on.new.line.items so_far.read brought.1 cut.2;
      one_line = one_line c.loop-source.line.items brought.0 c.read_on.new.line.items so_far.one_line cut.0 cut.2;
      pending = cut.1;
      faults = c.in-More.ensures.1 ∙ so_far.faults;
    }

pub returns-in-Memory : goal.returns-in-Memory
returns-in-Memory g c =
    let left = g.S.Source.left in
    let so_far = c.loop-source.invariant in (
      some_read (left c.args.source.now) (left c.loop-source.source) (left c.read_on.new.source) c.args.pending.now.items
          c.loop-source.line.items so_far.read c.in-Memory.ensures.0,
      c.in-Memory.ensures.1 ∙ so_far.faults,
    )
