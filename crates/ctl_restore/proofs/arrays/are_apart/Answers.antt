use Rattle.std.proofs.Common.{refl, arith}
use Rattle.saved_data.specs.declared.parts.SavedArray.{SavedArray}
use Rattle.ctl_restore.proofs.Finding.{rises}
use Rattle.ctl_restore.proofs.arrays.are_apart.Goals as goal

pub returns : goal.returns
returns c = (
  λ yes. rises (λ (one : SavedArray). one.id) c.args.arrays.now
      (λ k d inside. c.loop-place.invariant.rises k d (omega (arith, inside, c.loop-place-test.false))),
  λ all. refl,
)
