use Rattle.std.proofs.Common.{◌≡◌, map, take}
use Rattle.ctl_pass.specs.declared.preemptable.Preemptable.{Preemptable}
use Rattle.ctl_pass.specs.Limits.{holds_of_job}
use Rattle.ctl_pass.proofs.victims.holds_of_each.Given as goal

-- what those so far hold
abbrev pub invariant-loop-one : goal.invariant-loop-one
invariant-loop-one l =
    l.all.items ≡ map (λ (one : Preemptable). holds_of_job l.now one.job.now) (take l.one-index l.going)
