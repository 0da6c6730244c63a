use Rattle.std.proofs.Common.{length}
use Rattle.run_limits.proofs.order.+part.Given as goal

abbrev pub decreases-part : goal.decreases-part
decreases-part l = length l.one.now
