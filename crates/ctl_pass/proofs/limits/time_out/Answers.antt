use Rattle.std.proofs.Common.{rules}
use Rattle.ctl_pass.proofs.limits.time_out.Goals as goal

pub loop-place-preserved : goal.loop-place-preserved
loop-place-preserved c = record {
  records = search rules;
  charges = c.who_leaves_is_charged.ensures.on c.args.now _ _ _ c.loop-place.invariant.charges c.time_one_out.ensures.charges;
}
