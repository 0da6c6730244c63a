-- What a tally tells.
use Rattle.std.proofs.Common.{◌≡◌, ℕ, Bool, true, false, ◌&&◌, nat_eq, List, [], ◌∷◌, ◌++◌, Option, Some, None, refl, ap, sym, ◌∙◌, ◌+◌, arith}
use Rattle.std.proofs.Math.Path.{fun_ext}
use Rattle.std.proofs.lemmas.Bool.Decides.{nat_tests}
use Rattle.std.specs.List.{list_any}
use Rattle.std.specs.HashMap.{get}
use Rattle.run_limits.specs.declared.record.AssocRecord.{AssocRecord}
use Rattle.run_limits.specs.declared.record.QosRecord.{QosRecord}
use Rattle.run_limits.specs.Accounts.{limits_at, above, are_of_one_user, is_same_number, user_number}
use Rattle.run_limits.specs.declared.counted.Counted.{Counted}
use Rattle.run_limits.specs.declared.counted.Counts.{Counts}
use Rattle.run_limits.specs.declared.counted.Group.{Group}
use Rattle.run_limits.specs.declared.counted.Group.TheVariants.{Array, Below, InQos, OfUser}
use Rattle.run_limits.specs.declared.tally.Tally.{Tally}
use Rattle.run_limits.specs.Counting.{counts_of, is_in, is_number}
use Rattle.run_limits.specs.Limits.{is_above, has_jobs_too_many, has_cpus_too_many}
use Rattle.run_limits.specs.Tallies.{Shows, HaveSameSums, told, told_of_user, kept, with_job_if, is_same_pair}
use Rattle.run_limits.proofs.Counts.{counts-more, counts-same}

-- nothing is told of any group
pub nothing_told : (assocs : List AssocRecord) (tally : Tally) → tally.arrays.entries ≡ [] → tally.below.entries
    ≡ [] → tally.qos.entries ≡ [] → tally.users.entries ≡ []
    → Shows assocs tally []
unfolding Shows told counts_of
nothing_told assocs tally arrays below qos users (Array array) = rw arrays refl
nothing_told assocs tally arrays below qos users (Below place) = rw below refl
nothing_told assocs tally arrays below qos users (InQos place) = rw qos refl
nothing_told assocs tally arrays below qos users (OfUser assoc place) = at (user_number assocs assoc) where
  at : (user : Option ℕ) → told_of_user tally user place ≡ record { jobs = 0; cpus = 0 }
  at None = refl
  at (Some user) = rw users refl

-- one job more is told of each group that it is of
pub told_more : (assocs : List AssocRecord) (old new : Tally) (job : Counted) → ((one other : ℕ)
    → are_of_one_user assocs one other ≡ is_same_number (user_number assocs one) (user_number assocs other))
    → ((array : ℕ) → kept (get nat_eq new.arrays array)
    ≡ with_job_if (is_number array job.array) job.cpus (kept (get nat_eq old.arrays array)))
    → ((place : ℕ) → kept (get nat_eq new.below place)
    ≡ with_job_if (list_any (nat_eq place) (above assocs job.assoc)) job.cpus (kept (get nat_eq old.below place)))
    → ((qos : ℕ) → kept (get nat_eq new.qos qos)
    ≡ with_job_if (nat_eq job.qos qos) job.cpus (kept (get nat_eq old.qos qos)))
    → ((user qos : ℕ) → kept (get is_same_pair new.users (user, qos))
    ≡ with_job_if (is_number user (user_number assocs job.assoc) && nat_eq job.qos qos) job.cpus (kept
    (get is_same_pair old.users (user, qos))))
    → (group : Group) → told assocs new group ≡ with_job_if (is_in assocs group job) job.cpus (told assocs old group)
unfolding told is_in
told_more assocs old new job numbers arrays below qos users (Array array) = arrays array
told_more assocs old new job numbers arrays below qos users (Below place) = below place
told_more assocs old new job numbers arrays below qos users (InQos place) = qos place
told_more assocs old new job numbers arrays below qos users (OfUser assoc place) =
    rw (numbers assoc job.assoc) (at (user_number assocs assoc) (user_number assocs job.assoc)
    (λ user. users user place)) where
      none : (b : Bool) → kept None ≡ with_job_if (b && false) job.cpus (kept None)
      none true = refl
      none false = refl

      never : (b : Bool) (counts : Counts) → counts ≡ with_job_if (b && false) job.cpus counts
      never true counts = refl
      never false counts = refl

      turned : (b : Bool) (n m : ℕ) → (nat_eq n m && b) ≡ (b && nat_eq m n)
      turned true n m = grind (arith, nat_tests)
      turned false n m = grind (arith, nat_tests)

      at : (one other : Option ℕ) → ((user : ℕ) → kept (get is_same_pair new.users (user, place))
          ≡ with_job_if (is_number user other && nat_eq job.qos place) job.cpus (kept (get is_same_pair old.users
          (user, place))))
          → told_of_user new one place ≡ with_job_if (nat_eq job.qos place && is_same_number one other) job.cpus
          (told_of_user old one place)
      at None other counts = none (nat_eq job.qos place)
      at (Some user) None counts = counts user
          ∙ never (nat_eq job.qos place) (kept (get is_same_pair old.users (user, place)))
      at (Some user) (Some other) counts = counts user
          ∙ ap (λ same. with_job_if same job.cpus (kept (get is_same_pair old.users (user, place)))) (turned
          (nat_eq job.qos place) other user)

-- the tally shows one job more
pub shows_more : (assocs : List AssocRecord) (old new : Tally) (job : Counted) (jobs : List Counted)
    → ((group : Group) → told assocs new group ≡ with_job_if (is_in assocs group job) job.cpus (told assocs old group))
    → Shows assocs old jobs → Shows assocs new (jobs ++ job ∷ [])
unfolding Shows
shows_more assocs old new job jobs more shows group =
    more group ∙ ap (with_job_if (is_in assocs group job) job.cpus) (shows group)
    ∙ sym (counts-more (is_in assocs group) jobs job)

-- what has the same sums is shown as well
pub shows_same : (assocs : List AssocRecord) (tally : Tally) (some others : List Counted) → HaveSameSums some others
    → Shows assocs tally some → Shows assocs tally others
unfolding Shows
shows_same assocs tally some others same shows group = shows group ∙ counts-same (is_in assocs group) some others same

-- what the tally tells decides whether the job is one too many, or has too many processors, at one of some places
pub jobs_told : (assocs : List AssocRecord) (qos : List QosRecord) (tally : Tally) (holding : List Counted)
    (places : List ℕ) → Shows assocs tally holding
    → list_any (λ place. is_above (limits_at assocs place).grp_jobs ((told assocs tally (Below place)).jobs + 1)) places
    ≡ list_any (has_jobs_too_many (record { assocs = assocs; qos = qos; holding = holding })) places
unfolding Shows
jobs_told assocs qos tally holding places shows =
    ap (λ (counts : Group → Counts). list_any (λ place. is_above (limits_at assocs place).grp_jobs ((counts
    (Below place)).jobs + 1)) places) (fun_ext shows)

pub cpus_told : (assocs : List AssocRecord) (qos : List QosRecord) (tally : Tally) (holding : List Counted)
    (places : List ℕ) (cpus : ℕ) → Shows assocs tally holding
    → list_any (λ place. is_above (limits_at assocs place).grp_cpus ((told assocs tally
    (Below place)).cpus + cpus)) places
    ≡ list_any (has_cpus_too_many (record { assocs = assocs; qos = qos; holding = holding }) cpus) places
unfolding Shows
cpus_told assocs qos tally holding places cpus shows =
    ap (λ (counts : Group → Counts). list_any (λ place. is_above (limits_at assocs place).grp_cpus ((counts
    (Below place)).cpus + cpus)) places) (fun_ext shows)

-- what it tells of a group
pub group_told : (assocs : List AssocRecord) (tally : Tally) (holding : List Counted) (group : Group)
    → Shows assocs tally holding
    → told assocs tally group ≡ counts_of (is_in assocs group) holding
unfolding Shows
group_told assocs tally holding group shows = shows group
