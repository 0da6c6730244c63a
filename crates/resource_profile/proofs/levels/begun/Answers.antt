use Rattle.std.proofs.Common.{◌+◌, ◌-◌, ◌/◌, ◌<◌, length, arith}
use Rattle.resource_profile.specs.declared.levels.Level.{Level}
use Rattle.resource_profile.proofs.Rising.{before-middle, after-middle}
use Rattle.resource_profile.proofs.levels.begun.Goals as goal

pub loop-low-preserved-then-levels-middle : goal.loop-low-preserved-then-levels-middle
loop-low-preserved-then-levels-middle c =
    let middle = c.loop-low.low + (c.loop-low.high - c.loop-low.low) / 2 in
    let within : middle < length c.args.levels.now = omega (arith, c.loop-low.invariant.bound) in
    record {
      some = omega arith;
      order = omega arith;
      bound = c.loop-low.invariant.bound;
      before = before-middle (λ (one : Level). one.from) c.args.levels.now middle c.args.moment _ c.requires.rising within c.if-levels-middle.true;
      after = c.loop-low.invariant.after;
    }

pub loop-low-preserved : goal.loop-low-preserved
loop-low-preserved c =
    let middle = c.loop-low.low + (c.loop-low.high - c.loop-low.low) / 2 in
    record {
      some = c.loop-low.invariant.some;
      order = omega arith;
      bound = omega (arith, c.loop-low.invariant.bound);
      before = c.loop-low.invariant.before;
      after = after-middle (λ (one : Level). one.from) c.args.levels.now middle c.args.moment _ c.requires.rising c.if-levels-middle.false;
    }
