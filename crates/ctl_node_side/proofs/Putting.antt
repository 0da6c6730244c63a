-- Jobs that are put back, each in the place of the one with its number.
use Rattle.std.proofs.Common.{ℕ, suc, ◌≡◌, ◌<◌, ◌∙◌, Bool, false, List, [], ◌∷◌, map, All, refl, ap, arith, inl, inr}
use Rattle.std.specs.List.{filter}
use Rattle.std.proofs.lemmas.Bool.{cases_Bool, cond-false, cond-true, cond_both, eq-eqb, ne_eqb}
use Rattle.std.proofs.lemmas.List.Elements.{All-cons, All-head, All-nil, All-tail}
use Rattle.job_table.specs.declared.record.JobRecord.{JobRecord}
use Rattle.job_table.specs.Table.{HaveRisingIds, has_id, put_back_if}
use Rattle.ctl_node_side.specs.Keeping.{put_all}

-- the job is behind a number
abbrev IsBehind : ℕ → JobRecord → Type 0
IsBehind id job = id < job.id

-- one that is put back among jobs behind it changes none of them, nor does one behind a job change that one
put-others : (one : JobRecord) (jobs : List JobRecord) → All (IsBehind one.id) jobs
    → map (put_back_if one) jobs ≡ jobs
put-others one [] behind = refl
put-others one (job ∷ jobs) behind =
    let other : has_id one.id job ≡ false =
    ne_eqb job.id one.id (λ is. omega (arith, is, All-head (IsBehind one.id) job jobs behind)) in
    let here : put_back_if one job ≡ job = cond-false (has_id one.id job) one job other in
    let rest = put-others one jobs (All-tail (IsBehind one.id) job jobs behind) in
    cc

put-past : (kept : List JobRecord) (job : JobRecord) (jobs : List JobRecord) → All (IsBehind job.id) kept
    → put_all kept (job ∷ jobs) ≡ job ∷ put_all kept jobs
put-past [] job jobs behind = refl
put-past (one ∷ kept) job jobs behind =
    let other : has_id one.id job ≡ false =
    ne_eqb job.id one.id (λ is. omega (arith, is, All-head (IsBehind job.id) one kept behind)) in
    let here : put_back_if one job ≡ job = cond-false (has_id one.id job) one job other in
    ap (λ first. put_all kept (first ∷ map (put_back_if one) jobs)) here
    ∙ put-past kept job (map (put_back_if one) jobs) (All-tail (IsBehind job.id) one kept behind)

-- jobs that are kept, or become others with their numbers, stay behind a number
filter-behind : (id : ℕ) (keep : JobRecord → Bool) (jobs : List JobRecord) → All (IsBehind id) jobs
    → All (IsBehind id) (filter keep jobs)
filter-behind id keep [] behind = All-nil (IsBehind id)
filter-behind id keep (job ∷ jobs) behind =
    let rest = filter-behind id keep jobs (All-tail (IsBehind id) job jobs behind) in
    cond_both (keep job) (job ∷ filter keep jobs) (filter keep jobs) (All (IsBehind id))
    (λ h. All-cons (IsBehind id) job (filter keep jobs) (All-head (IsBehind id) job jobs behind) rest) (λ h. rest)

map-behind : (id : ℕ) (change : JobRecord → JobRecord) → ((job : JobRecord) → (change job).id ≡ job.id)
    → (jobs : List JobRecord) → All (IsBehind id) jobs → All (IsBehind id) (map change jobs)
map-behind id change same [] behind = All-nil (IsBehind id)
map-behind id change same (job ∷ jobs) behind =
    All-cons (IsBehind id) (change job) (map change jobs)
    (omega (arith, same job, All-head (IsBehind id) job jobs behind))
    (map-behind id change same jobs (All-tail (IsBehind id) job jobs behind))

-- those that may change are put back, and the others stay
pub all_back : (change : JobRecord → JobRecord) (turns : JobRecord → Bool)
    → ((job : JobRecord) → turns job ≡ false → change job ≡ job) → ((job : JobRecord) → (change job).id ≡ job.id)
    → (jobs : List JobRecord) → HaveRisingIds jobs → put_all (filter turns jobs) (map change jobs) ≡ jobs
all_back change turns stays same [] rising = refl
all_back change turns stays same (job ∷ jobs) rising =
    let behind : All (IsBehind job.id) jobs = λ k d below. rising 0 (suc k) d (omega arith) (omega (arith, below)) in
    let later : HaveRisingIds jobs = λ i j d before within.
    rising (suc i) (suc j) d (omega (arith, before)) (omega (arith, within)) in
    let rest = all_back change turns stays same jobs later in
    let kept = filter turns jobs in
    let past : put_all kept (job ∷ map change jobs) ≡ job ∷ jobs =
    put-past kept job (map change jobs) (filter-behind job.id turns jobs behind) ∙ ap (λ jobs. job ∷ jobs) rest in
    elim (cases_Bool (turns job)) [
      | inl may ↦
          let first : put_back_if job (change job) ≡ job =
          cond-true (has_id job.id (change job)) job (change job) (eq-eqb (change job).id job.id (same job)) in
          let others = put-others job (map change jobs) (map-behind job.id change same jobs behind) in
          rw may
          (ap (λ first. put_all kept (first ∷ map (put_back_if job) (map change jobs))) first
          ∙ ap (λ jobs. put_all kept (job ∷ jobs)) others ∙ past)
      | inr other ↦ rw (other, stays job other) past
    ]
