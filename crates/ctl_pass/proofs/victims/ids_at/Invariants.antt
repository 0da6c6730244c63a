use Rattle.std.proofs.Common.{◌≡◌, map, take}
use Rattle.ctl_pass.specs.declared.preemptable.Preemptable.{Preemptable}
use Rattle.ctl_pass.specs.Preempting
use Rattle.ctl_pass.proofs.victims.ids_at.Given as goal

-- the numbers for the places so far
abbrev pub invariant-loop-place : goal.invariant-loop-place
invariant-loop-place l =
    l.ids.items ≡ Preempting.ids_at (map (λ (one : Preemptable). one.job.now) l.going) (take l.place-index l.places)
