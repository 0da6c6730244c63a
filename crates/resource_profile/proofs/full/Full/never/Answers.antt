use Rattle.std.proofs.Common.{arith}
use Rattle.resource_profile.proofs.full.Full.never.Goals as goal

pub returns : goal.returns
returns c = λ free moment low high. absurd (omega (arith, high))
