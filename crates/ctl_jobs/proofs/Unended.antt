-- Jobs that haven't ended, counted one by one and as limits count them.
use Rattle.std.proofs.Common.{◌≡◌, ℕ, ◌+◌, Bool, true, false, ◌&&◌, not, cond, List, [], ◌∷◌, map, filter, length, take, get_or, ◌<◌, ◌≤◌, sum_by, refl, ◌∙◌, ap, arith, inl, inr, true≢false}
use Rattle.std.specs.Prelude.{count_by}
use Rattle.std.proofs.lemmas.Bool.{cases_Bool}
use Rattle.std.proofs.lemmas.List.Sums.{count_by-le-length, sum_by-cons, sum_by_more_le_part}
use Rattle.job_table.specs.declared.record.JobRecord.{JobRecord}
use Rattle.job_table.specs.declared.unended.Unended.{Unended}
use Rattle.job_table.specs.JobStates.{is_ended}
use Rattle.job_table.specs.Tallies.{ShowsUnended}
use Rattle.run_limits.specs.declared.record.AssocRecord.{AssocRecord}
use Rattle.run_limits.specs.declared.counted.Counted.{Counted}
use Rattle.run_limits.specs.declared.counted.Group.{Group}
use Rattle.run_limits.specs.declared.counted.Group.TheVariants.{Array, Below, InQos, OfUser}
use Rattle.run_limits.specs.Counting.{counts_of, is_in}
use Rattle.ctl_state.specs.Counted.{counted_of}
use Rattle.ctl_jobs.specs.Submission.{jobs_unended, unended}
use Rattle.ctl_jobs.specs.Tallied.{counted_by, is_array}

abbrev one : (Counted → Bool) → Counted → ℕ
one test job = cond (test job) 1 0

abbrev here : (Counted → Bool) → JobRecord → ℕ
here test job = cond (not (is_ended job.state) && test (counted_of job)) 1 0

abbrev left : List JobRecord → List Counted
left jobs = map counted_of (filter (λ (job : JobRecord). not (is_ended job.state)) jobs)

counted-left : (test : Counted → Bool) (jobs : List JobRecord)
    → sum_by (here test) jobs ≡ sum_by (one test) (left jobs)
counted-left test [] = refl
counted-left test (job ∷ jobs) = elim (cases_Bool (is_ended job.state)) [
  | inl ended ↦
      let first : here test job ≡ 0 = rw ended refl in
      let rest : left (job ∷ jobs) ≡ left jobs = rw ended refl in
      omega (
        arith,
        sum_by-cons (here test) job jobs,
        first,
        counted-left test jobs,
        ap (sum_by (one test)) rest,
      )
  | inr on ↦
      let first : here test job ≡ one test (counted_of job) = rw on refl in
      let rest : left (job ∷ jobs) ≡ counted_of job ∷ left jobs = rw on refl in
      omega (
        arith,
        sum_by-cons (here test) job jobs,
        first,
        counted-left test jobs,
        ap (sum_by (one test)) rest,
        sum_by-cons (one test) (counted_of job) (left jobs),
      )
]

pub unended-counted : (assocs : List AssocRecord) (jobs : List JobRecord) (group : Group)
    → jobs_unended assocs jobs group ≡ (counts_of (is_in assocs group) (unended jobs)).jobs
unfolding jobs_unended unended counts_of
unended-counted assocs jobs group = counted-left (is_in assocs group) jobs

-- Tallies of the associations and the qualities of service count the same, of each group but an array's.
abbrev pub by_pair : List AssocRecord → Group → Unended → ℕ
by_pair assocs group tally = cond (is_in assocs group (counted_by tally.assoc tally.qos)) tally.count 0

pair-alike : (assocs : List AssocRecord) (group : Group) (job : JobRecord) → is_array group ≡ false
    → is_in assocs group (counted_by job.assoc job.qos) ≡ is_in assocs group (counted_of job)
unfolding is_in
pair-alike assocs (Array array) job none = absurd (true≢false none)
pair-alike assocs (Below place) job none = refl
pair-alike assocs (InQos qos) job none = refl
pair-alike assocs (OfUser assoc qos) job none = refl

count-alike : (p q : JobRecord → Bool) (jobs : List JobRecord) → ((job : JobRecord) → p job ≡ q job)
    → count_by p jobs ≡ count_by q jobs
count-alike p q [] same = refl
count-alike p q (job ∷ jobs) same =
    omega (
      arith,
      count-alike p q jobs same,
      sum_by-cons (λ (each : JobRecord). cond (p each) 1 0) job jobs,
      sum_by-cons (λ (each : JobRecord). cond (q each) 1 0) job jobs,
      ap {B = ℕ} (λ b. cond b 1 0) (same job),
    )

pub tallies-counted : (assocs : List AssocRecord) (group : Group) (tallies : List Unended) (jobs : List JobRecord)
    → is_array group ≡ false → ShowsUnended tallies jobs
    → sum_by (by_pair assocs group) tallies ≡ jobs_unended assocs jobs group
unfolding jobs_unended
tallies-counted assocs group tallies jobs none shows =
    shows (λ assoc qos. is_in assocs group (counted_by assoc qos))
    ∙ count-alike (λ job. not (is_ended job.state) && is_in assocs group (counted_by job.assoc job.qos))
    (λ job. not (is_ended job.state) && is_in assocs group (counted_of job)) jobs
    (λ job. ap (λ b. not (is_ended job.state) && b) (pair-alike assocs group job none))

-- they count no more than there are jobs
pub tallies-few : (tallies : List Unended) (jobs : List JobRecord) → ShowsUnended tallies jobs
    → sum_by (λ (tally : Unended). tally.count) tallies ≤ length jobs
tallies-few tallies jobs shows =
    omega (
      arith,
      shows (λ assoc qos. true),
      count_by-le-length (λ (job : JobRecord). not (is_ended job.state) && true) jobs,
    )

-- what is summed up of a group so far, and one tally more
by_pair-least : (assocs : List AssocRecord) (group : Group) (tally : Unended) → by_pair assocs group tally ≤ tally.count
by_pair-least assocs group tally = least (is_in assocs group (counted_by tally.assoc tally.qos)) tally.count
  where
    least : (b : Bool) (n : ℕ) → cond b n 0 ≤ n
    least true n = omega arith
    least false n = omega arith

pub pairs-fit : (assocs : List AssocRecord) (group : Group) (tallies : List Unended) (i : ℕ) (none : Unended)
    → i < length tallies
    → sum_by (by_pair assocs group) (take i tallies) + (get_or tallies i none).count
    ≤ sum_by (λ (tally : Unended). tally.count) tallies
pairs-fit assocs group tallies i none inside =
    sum_by_more_le_part (by_pair assocs group) (λ (tally : Unended). tally.count) tallies i none inside
    (by_pair-least assocs group)
