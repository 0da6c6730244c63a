use Rattle.std.proofs.Common.{refl, ℕ, arith}
use Rattle.ctl_restore.proofs.Finding.{rises}
use Rattle.ctl_restore.proofs.arrays.are_rising.Goals as goal

pub returns : goal.returns
returns c = (
  λ yes. rises (λ (one : ℕ). one) c.args.numbers.now
      (λ k d inside. c.loop-place.invariant.rises k d (omega (arith, inside, c.loop-place-test.false))),
  λ all. refl,
)
