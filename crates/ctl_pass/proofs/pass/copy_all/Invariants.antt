use Rattle.std.proofs.Common.{◌≡◌, take}
use Rattle.ctl_pass.proofs.pass.copy_all.Given as goal

-- the first placements are copied
abbrev pub invariant-loop-placed : goal.invariant-loop-placed
invariant-loop-placed l = l.copies.items ≡ take l.placed-index l.placements
