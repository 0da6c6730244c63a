use Rattle.std.proofs.Common.{◌++◌, take, ap, ◌∙◌, arith, length-take}
use Rattle.block_frame.specs.State.{BlocksState}
use Rattle.ctl_session.proofs.reading.read_more.Goals as goal

pub returns-in-Ok-feed-clause-brings : goal.returns-in-Ok-feed-clause-brings
returns-in-Ok-feed-clause-brings g c =
    let fed = c.in-Ok-feed.ensures.ok in (
      record {
        read = take c.in-Ok.count c.read_some.new.into;
        consumed = c.in-Ok.ensures.bytes.0;
        pending = ap (λ (b : BlocksState). b.pending) fed ∙ ap
            (λ l. c.args.blocks.now.pending ++ l) c.split_at.ensures.front;
        form = ap (λ (b : BlocksState). b.form) fed;
        place = ap (λ (b : BlocksState). b.place) fed;
      },
      omega (arith, length-take c.in-Ok.count c.read_some.new.into, c.in-Ok.ensures.bound, c.in-Ok.count-test),
      c.in-Ok.ensures.faults,
    )
