-- None stands at the places so far.
use Rattle.std.proofs.Common.{◌≡◌, map, drop}
use Rattle.run_limits.specs.Accounts.{limits_at}
use Rattle.run_limits.specs.Limits.{nearest}
use Rattle.run_limits.proofs.reasons.most_jobs.Given as goal

abbrev pub invariant-loop-place : goal.invariant-loop-place
invariant-loop-place l =
    nearest (map (λ place. (limits_at l.assocs.records place).max_jobs) (drop l.place-index l.places))
    ≡ nearest (map (λ place. (limits_at l.assocs.records place).max_jobs) l.places)
