use Rattle.std.proofs.Common.{◌≡◌, map, take}
use Rattle.sacct_book.specs.Naming.{target_of}
use Rattle.sacct_book.proofs.naming.targets_of.Given as goal

abbrev pub invariant-loop-one : goal.invariant-loop-one
invariant-loop-one l = l.targets.items ≡ map target_of (take l.one-index l.done)
