use Rattle.std.proofs.Common.{◌+◌, ◌-◌, ◌/◌, ◌<◌, length, arith}
use Rattle.resource_profile.specs.declared.ends.End.{End}
use Rattle.resource_profile.proofs.Rising.{before-middle, after-middle}
use Rattle.resource_profile.proofs.ends.passed.Goals as goal

pub loop-low-preserved-then-ends-middle : goal.loop-low-preserved-then-ends-middle
loop-low-preserved-then-ends-middle c =
    let middle = c.loop-low.low + (c.loop-low.high - c.loop-low.low) / 2 in
    let within : middle < length c.args.ends.now = omega (arith, c.loop-low.invariant.bound) in
    record {
      order = omega arith;
      bound = c.loop-low.invariant.bound;
      before = before-middle (λ (end : End). end.moment) c.args.ends.now middle c.args.moment _ c.requires.rising within c.if-ends-middle.true;
      after = c.loop-low.invariant.after;
    }

pub loop-low-preserved : goal.loop-low-preserved
loop-low-preserved c =
    let middle = c.loop-low.low + (c.loop-low.high - c.loop-low.low) / 2 in
    record {
      order = omega arith;
      bound = omega (arith, c.loop-low.invariant.bound);
      before = c.loop-low.invariant.before;
      after = after-middle (λ (end : End). end.moment) c.args.ends.now middle c.args.moment _ c.requires.rising c.if-ends-middle.false;
    }
