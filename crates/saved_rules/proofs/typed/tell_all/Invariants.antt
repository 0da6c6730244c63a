use Rattle.std.proofs.Common.{All, take}
use Rattle.saved_rules.proofs.typed.tell_all.Given as goal

abbrev pub invariant-loop-value : goal.invariant-loop-value
invariant-loop-value g l = All g.T.Typed.typed (take l.value-index l.values)
