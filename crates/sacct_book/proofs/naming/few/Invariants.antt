use Rattle.std.proofs.Common.{◌≡◌, take}
use Rattle.sacct_book.proofs.naming.few.Given as goal

abbrev pub invariant-loop-target : goal.invariant-loop-target
invariant-loop-target l = l.few.items ≡ take l.target-index l.targets
