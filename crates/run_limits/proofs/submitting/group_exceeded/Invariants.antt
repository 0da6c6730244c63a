-- None is exceeded at the places so far.
use Rattle.std.proofs.Common.{◌≡◌, ◌+◌, map, drop}
use Rattle.reply_data.specs.declared.refusal.Which.TheVariants.{AssocGrpSubmitJobs}
use Rattle.run_limits.specs.Accounts.{limits_at}
use Rattle.run_limits.specs.declared.counted.Group.TheVariants.{Below}
use Rattle.run_limits.specs.Submitting.{exceeded, first_refusal}
use Rattle.run_limits.proofs.submitting.group_exceeded.Given as goal

abbrev pub invariant-loop-place : goal.invariant-loop-place
invariant-loop-place g l =
    first_refusal (map (λ place. exceeded AssocGrpSubmitJobs (limits_at l.assocs.records place).grp_submit
    (g.C.CountsJobs.jobs_of l.counter (Below place) + l.new)) (drop l.place-index l.places))
    ≡ first_refusal (map (λ place. exceeded AssocGrpSubmitJobs (limits_at l.assocs.records place).grp_submit
    (g.C.CountsJobs.jobs_of l.counter (Below place) + l.new)) l.places)
