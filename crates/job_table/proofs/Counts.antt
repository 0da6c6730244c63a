-- What tallies count, and how many jobs haven't ended.
use Rattle.std.proofs.Common.{◌≡◌, ℕ, zero, suc, ◌+◌, ◌<◌, ◌≤◌, Bool, true, false, not, cond, List, [], ◌∷◌, ◌++◌, length, map, take, filter, get_or, slice_get, sum_by, Option, None, Some, refl, sym, ap, ◌∙◌, arith, true≢false}
use Rattle.std.specs.Prelude.{count_by}
use Rattle.std.proofs.lemmas.Option.{slice_get_within}
use Rattle.std.proofs.lemmas.List.{append_assoc, take_more}
use Rattle.std.proofs.lemmas.List.Sums.{count_by-le-length, length-filter, sum_by-append, sum_by-cons}
use Rattle.request_data.specs.declared.state.JobState.{JobState}
use Rattle.request_data.specs.declared.state.JobState.TheVariants.{Pending, Running, Completing, Ended}
use Rattle.job_table.specs.declared.awaited.Awaited.{Awaited}
use Rattle.job_table.specs.declared.record.JobRecord.{JobRecord}
use Rattle.job_table.specs.Awaiting.{has_gone}
use Rattle.job_table.specs.declared.unended.Tallies.{Tallies}
use Rattle.job_table.specs.Tallies.{IsTallied, OneChanges, counted, is_unended, one_if, passes}
use Rattle.job_table.specs.Walks.{map_at}
use Rattle.job_table.proofs.Marks.{same-one}

-- what one more job counts
pub tallied-more : (old new : Tallies) (were jobs : List JobRecord) (i : ℕ) (job : JobRecord) → i < length jobs
    → job ≡ get_or jobs i job → new.known ≡ old.known
    → ((test : ℕ → ℕ → Bool)
    → sum_by (counted test) new.list.items ≡ sum_by (counted test) old.list.items + one_if (is_unended test job))
    → IsTallied old (were ++ take i jobs) → IsTallied new (were ++ take (i + 1) jobs)
tallied-more old new were jobs i job inside is known more tallied = λ known_now test.
    let p = is_unended test in
    let one : JobRecord → ℕ = λ each. one_if (p each) in
    let split : were ++ take (i + 1) jobs ≡ (were ++ take i jobs) ++ job ∷ [] =
    ap (λ rest. were ++ rest)
    (take_more jobs i job inside ∙ ap (λ each. take i jobs ++ each ∷ []) (sym is))
    ∙ sym (append_assoc were (take i jobs) (job ∷ [])) in
    omega (
      arith,
      more test,
      tallied (sym known ∙ known_now) test,
      ap (count_by p) split,
      sum_by-append one (were ++ take i jobs) (job ∷ []),
      sum_by-cons one job [],
    )

-- a job that becomes another
pub count-at : (p : JobRecord → Bool) (place : ℕ) (f : JobRecord → JobRecord) (jobs : List JobRecord) (job : JobRecord)
    → slice_get jobs place ≡ Some job
    → count_by p (map_at place f jobs) + one_if (p job) ≡ count_by p jobs + one_if (p (f job))
count-at p place f [] job there = absurd (omega (arith, slice_get_within {A = JobRecord} [] place job there))
count-at p zero f (one ∷ jobs) job there =
    let same : one ≡ job = same-one there in
    omega (
      arith,
      sum_by-cons (λ each. one_if (p each)) (f one) jobs,
      sum_by-cons (λ each. one_if (p each)) one jobs,
      ap (λ each. one_if (p each)) same,
      ap (λ each. one_if (p (f each))) same,
    )
count-at p (suc place) f (one ∷ jobs) job there =
    omega (
      arith,
      count-at p place f jobs job there,
      sum_by-cons (λ each. one_if (p each)) one jobs,
      sum_by-cons (λ each. one_if (p each)) one (map_at place f jobs),
    )

pub one-changes : (before after : Option (ℕ × ℕ)) (place : ℕ) (f : JobRecord → JobRecord) (jobs : List JobRecord)
    (job : JobRecord)
    → slice_get jobs place ≡ Some job → ((test : ℕ → ℕ → Bool) → passes test before ≡ is_unended test job)
    → ((test : ℕ → ℕ → Bool) → passes test after ≡ is_unended test (f job))
    → OneChanges before after jobs (map_at place f jobs)
one-changes before after place f jobs job there was is = λ test.
    omega (
      arith,
      count-at (is_unended test) place f jobs job there,
      ap one_if (was test),
      ap one_if (is test),
    )

-- jobs that stay whose they are, and go on as they did
pub count-same : (p : JobRecord → Bool) (f : JobRecord → JobRecord) (jobs : List JobRecord)
    → ((job : JobRecord) → p (f job) ≡ p job) → count_by p (map f jobs) ≡ count_by p jobs
count-same p f [] same = refl
count-same p f (job ∷ jobs) same =
    omega (
      arith,
      count-same p f jobs same,
      sum_by-cons (λ each. one_if (p each)) (f job) (map f jobs),
      sum_by-cons (λ each. one_if (p each)) job jobs,
      ap one_if (same job),
    )

pub tallied-map : (tallies : Tallies) (f : JobRecord → JobRecord) (jobs : List JobRecord)
    → ((test : ℕ → ℕ → Bool) (job : JobRecord) → is_unended test (f job) ≡ is_unended test job)
    → IsTallied tallies jobs → IsTallied tallies (map f jobs)
tallied-map tallies f jobs same tallied = λ known test.
    tallied known test ∙ sym (count-same (is_unended test) f jobs (same test))

-- jobs of which only ended ones go
count-kept : (p keep : JobRecord → Bool) (jobs : List JobRecord)
    → ((job : JobRecord) → keep job ≡ false → p job ≡ false) → count_by p (filter keep jobs) ≡ count_by p jobs
count-kept p keep [] ended = refl
count-kept p keep (job ∷ jobs) ended = by (keep job) refl (count-kept p keep jobs ended)
  where
    by : (b : Bool) → keep job ≡ b → count_by p (filter keep jobs) ≡ count_by p jobs
        → count_by p (cond b (job ∷ filter keep jobs) (filter keep jobs)) ≡ count_by p (job ∷ jobs)
    by true is rest =
        omega (
          arith,
          rest,
          sum_by-cons (λ each. one_if (p each)) job (filter keep jobs),
          sum_by-cons (λ each. one_if (p each)) job jobs,
        )
    by false is rest =
        omega (arith, rest, sum_by-cons (λ each. one_if (p each)) job jobs, ap one_if (ended job is))

pub gone-ended : (age now : ℕ) (awaited : Awaited) (test : ℕ → ℕ → Bool) (job : JobRecord)
    → not (has_gone age now awaited job) ≡ false → is_unended test job ≡ false
gone-ended age now awaited test job goes = by job.state refl
  where
    by : (state : JobState) → job.state ≡ state → is_unended test job ≡ false
    by (Ended final) is = rw is refl
    by Pending is = absurd (true≢false (rw is at goes))
    by Running is = absurd (true≢false (rw is at goes))
    by (Completing final) is = absurd (true≢false (rw is at goes))

pub tallied-kept : (tallies : Tallies) (keep : JobRecord → Bool) (jobs : List JobRecord)
    → ((test : ℕ → ℕ → Bool) (job : JobRecord) → keep job ≡ false → is_unended test job ≡ false)
    → IsTallied tallies jobs → IsTallied tallies (filter keep jobs)
tallied-kept tallies keep jobs ended tallied = λ known test.
    tallied known test ∙ sym (count-kept (is_unended test) keep jobs (ended test))

-- where as many stay as there were, all do
pub all-kept : {X : Type 0} (keep : X → Bool) (xs : List X) → length xs ≤ length (filter keep xs) → filter keep xs ≡ xs
all-kept keep [] many = refl
all-kept keep (x ∷ xs) many = by (keep x) many (λ enough. all-kept keep xs enough)
  where
    few : length (filter keep xs) ≤ length xs
    few = omega (arith, length-filter keep xs, count_by-le-length keep xs)

    by : (b : Bool) → length (x ∷ xs) ≤ length (cond b (x ∷ filter keep xs) (filter keep xs))
        → (length xs ≤ length (filter keep xs) → filter keep xs ≡ xs)
        → cond b (x ∷ filter keep xs) (filter keep xs) ≡ x ∷ xs
    by true enough rest = ap (λ later. x ∷ later) (rest (omega (arith, enough)))
    by false enough rest = absurd (omega (arith, enough, few))
