use Rattle.std.proofs.Common.{◌≡◌, ◌++◌, take}
use Rattle.ctl_pass.specs.Limits.{holds_of_job}
use Rattle.ctl_pass.proofs.base.push_holds.Given as goal

-- what the parts so far hold is added
abbrev pub invariant-loop-part : goal.invariant-loop-part
invariant-loop-part l = l.holds.items ≡ l.initial.holds.items ++ take l.part-index (holds_of_job l.now l.job)
