use Rattle.std.proofs.Common.{subst}
use Rattle.turn_lock.specs.Passes.{IsKnown}
use Rattle.turn_lock.proofs.Passing.{known}
use Rattle.turn_lock.proofs.pass.Pass.number.Goals as goal

pub returns-clause-known : goal.returns-clause-known
returns-clause-known g c = subst (IsKnown g.B.Kept.bearer) c.self.view_is (known g.B.Kept.bearer _ _ _ _ _ c.self.invariant)
