use Rattle.std.proofs.Common.{refl}
use Rattle.trace_text.specs.Handing.{desc_with}
use Rattle.trace_text.proofs.desc.desc_with.Goals as goal

pub returns : goal.returns
unfolding desc_with
returns c = rw (
  c.in_ok-name.ensures,
  c.in_ok-account.ensures,
  c.in_ok-partition.ensures,
  c.in_ok-qos.ensures,
  c.new.ensures,
  c.new-2.ensures,
  c.from_vec.ensures,
  c.new-3.ensures.items,
  c.from_vec-2.ensures,
  c.new-4.ensures.items,
  c.exit_of.ensures,
) refl
