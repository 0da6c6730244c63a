use Rattle.std.proofs.Common.{◌≡◌, drop, map}
use Rattle.ctl_state.specs.Refusals.{first_refusal}
use Rattle.ctl_state.specs.State.{state_of}
use Rattle.ctl_jobs.specs.Changing.{target_refusal}
use Rattle.ctl_jobs.proofs.refusals.refusal_of.Given as goal

abbrev pub invariant-loop-target : goal.invariant-loop-target
invariant-loop-target l =
    first_refusal (map (target_refusal (state_of l.cluster) l.user l.action) l.targets) ≡ first_refusal
    (map (target_refusal (state_of l.cluster) l.user l.action) (drop l.target-index l.targets))
