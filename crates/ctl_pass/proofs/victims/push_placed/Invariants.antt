use Rattle.std.proofs.Common.{◌≡◌, ◌++◌, take}
use Rattle.ctl_pass.specs.Preempting.{placed_holds}
use Rattle.ctl_pass.proofs.victims.push_placed.Given as goal

-- what the shares so far hold is added
abbrev pub invariant-loop-share : goal.invariant-loop-share
invariant-loop-share l = l.holds.items ≡ l.initial.holds.items ++ take l.share-index (placed_holds l.limit l.placed)
