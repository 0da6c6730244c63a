-- The first limit that is reached.
use Rattle.std.proofs.Common.{◌≡◌, ℕ, ◌+◌, Bool, true, false, if◌then◌else◌, List, [], ◌∷◌, ◌++◌, Option, Some, None, refl, ap, ◌∙◌}
use Rattle.std.specs.List.{list_any}
use Rattle.std.specs.Option.{option_or}
use Rattle.request_data.specs.declared.state.Reason.{Reason}
use Rattle.request_data.specs.declared.state.Reason.TheVariants.{JobArrayTaskLimit, AssocGrpJobsLimit, AssocGrpCpuLimit, AssocMaxJobsLimit}
use Rattle.run_limits.specs.Accounts.{above, qos_limits_at}
use Rattle.run_limits.specs.declared.counted.Counted.{Counted}
use Rattle.run_limits.specs.declared.counted.Group.TheVariants.{Below, InQos, OfUser}
use Rattle.run_limits.specs.Limits.{Beside, first_reason, is_above, is_full, counts_in, most_jobs, has_jobs_too_many, has_cpus_too_many, assoc_limits_reached, qos_limits_reached, limits_reached}

-- the first of some reasons and others
first-append : (some others : List (Option Reason)) → first_reason (some ++ others)
    ≡ option_or (first_reason some) (first_reason others)
first-append [] others = refl
first-append (None ∷ some) others = first-append some others
first-append (Some reason ∷ some) others = refl

-- the first limit of the association and of those above it, where this is known of each
pub assoc_first : (beside : Beside) (job : Counted) (jobs cpus own : Bool)
    → list_any (has_jobs_too_many beside) (above beside.assocs job.assoc) ≡ jobs
    → list_any (has_cpus_too_many beside job.cpus) (above beside.assocs job.assoc) ≡ cpus
    → is_above (most_jobs beside job.assoc) ((counts_in beside (Below job.assoc)).jobs + 1) ≡ own
    → first_reason (assoc_limits_reached beside job)
    ≡ (if jobs then Some AssocGrpJobsLimit else if cpus then Some AssocGrpCpuLimit else if own then Some AssocMaxJobsLimit else None)
assoc_first beside job jobs cpus own is_jobs is_cpus is_own = rw (is_jobs, is_cpus, is_own) (at jobs cpus own) where
  at : (a b c : Bool) → first_reason ((if a then Some AssocGrpJobsLimit else None) ∷
      (if b then Some AssocGrpCpuLimit else None) ∷ (if c then Some AssocMaxJobsLimit else None) ∷ [])
      ≡ (if a then Some AssocGrpJobsLimit else if b then Some AssocGrpCpuLimit else if c then Some AssocMaxJobsLimit else None)
  at true b c = refl
  at false true c = refl
  at false false true = refl
  at false false false = refl

-- the first limit of all
pub all_first : (beside : Beside) (job : Counted) (most : Option ℕ) (full : Bool) (reached : Option Reason)
    → is_full beside job.array most ≡ full → first_reason (assoc_limits_reached beside job) ≡ reached
    → first_reason (limits_reached beside job most)
    ≡ (if full then Some JobArrayTaskLimit else option_or reached
    (first_reason (qos_limits_reached (qos_limits_at beside.qos job.qos) (counts_in beside (InQos job.qos))
    (counts_in beside (OfUser job.assoc job.qos)) job.cpus)))
unfolding limits_reached
all_first beside job most full reached is_full_so is_reached =
    let others : List (Option Reason) = qos_limits_reached (qos_limits_at beside.qos job.qos) (counts_in beside
    (InQos job.qos)) (counts_in beside (OfUser job.assoc job.qos)) job.cpus in
    at full others is_full_so where
      at : (b : Bool) (others : List (Option Reason)) → is_full beside job.array most ≡ b
          → first_reason ((if is_full beside job.array most then Some JobArrayTaskLimit else None) ∷
          (assoc_limits_reached beside job ++ others))
          ≡ (if b then Some JobArrayTaskLimit else option_or reached (first_reason others))
      at true others so = rw so refl
      at false others so = rw so (first-append (assoc_limits_reached beside job) others
          ∙ ap (λ first. option_or first (first_reason others)) is_reached)
