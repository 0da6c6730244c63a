use Rattle.std.proofs.Common.{◌++◌, take, ap, ◌∙◌, arith, length-take}
use Rattle.slurm_client.proofs.reading.read_more.Goals as goal

pub returns-in-Ok-extend_from_slice-clause-brings : goal.returns-in-Ok-extend_from_slice-clause-brings
returns-in-Ok-extend_from_slice-clause-brings g c = (
  record {
    read = take c.in-Ok.count c.read_some.new.into;
    consumed = c.in-Ok.ensures.bytes.0;
    gained = c.in-Ok-extend_from_slice.ensures.items ∙ ap (λ l. c.args.bytes.now.items ++ l) c.split_at.ensures.front;
  },
  omega (arith, length-take c.in-Ok.count c.read_some.new.into, c.in-Ok.ensures.bound, c.in-Ok.count-test),
  omega (arith, length-take c.in-Ok.count c.read_some.new.into, c.in-Ok.ensures.bound),
  c.in-Ok.ensures.faults,
)
