-- Those that hold processors: a waiting job that starts is one more of them.
use Rattle.std.proofs.Common.{◌≡◌, ℕ, zero, suc, ◌+◌, ◌<◌, ◌≤◌, Bool, true, false, cond, eqb, List, [], ◌∷◌, ◌++◌, length, take, map, filter, get_or, sum_by, unwrap_or, Option, Some, refl, ap, ◌∙◌, sym, arith, inl, inr}
use Rattle.std.proofs.lemmas.Bool.{cases_Bool, eqb-true, ne_eqb}
use Rattle.std.specs.List.{AllWithin}
use Rattle.std.proofs.lemmas.List.{map-append, take_all, take_more}
use Rattle.std.proofs.lemmas.List.Elements.{filter-append}
use Rattle.std.proofs.lemmas.List.Folds.{map_fixed}
use Rattle.std.proofs.lemmas.List.Sums.{sum_by-append, sum_by-cons}
use Rattle.job_table.specs.declared.record.JobRecord.{JobRecord}
use Rattle.job_table.specs.declared.record.Part.{Part}
use Rattle.request_data.specs.declared.state.JobState.{JobState}
use Rattle.request_data.specs.declared.state.JobState.TheVariants.{Pending, Running, Completing, Ended}
use Rattle.job_table.specs.JobStates.{is_holding, is_pending}
use Rattle.job_table.specs.Table.{HaveRisingIds, job_with}
use Rattle.run_limits.specs.declared.counted.Counted.{Counted}
use Rattle.run_limits.specs.Tallies.{HaveSameSums}
use Rattle.ctl_state.specs.Counted.{counted_of, holding}
use Rattle.ctl_state.specs.Events.{started_as}
use Rattle.list_lemmas.proofs.Pairs.{pairs-head, pairs-tail}

abbrev lower : JobRecord → JobRecord → Type 0
lower one other = one.id < other.id

-- what a job adds to a sum over those that hold processors
abbrev adds : (Counted → ℕ) → JobRecord → ℕ
adds amount job = cond (is_holding job.state) (amount (counted_of job)) 0

holding-cons : (amount : Counted → ℕ) (job : JobRecord) (jobs : List JobRecord)
    → sum_by amount (holding (job ∷ jobs)) ≡ adds amount job + sum_by amount (holding jobs)
unfolding holding
holding-cons amount job jobs = elim (cases_Bool (is_holding job.state)) [
  | inl holds ↦ rw holds (sum_by-cons amount (counted_of job) (holding jobs))
  | inr idle ↦ rw idle (omega arith)
]

pending-idle : (state : JobState) → is_pending state ≡ true → is_holding state ≡ false
pending-idle Pending is = refl
pending-idle Running is = absurd (let never = is in cc)
pending-idle (Completing final) is = absurd (let never = is in cc)
pending-idle (Ended final) is = refl

sum-begun : (amount : Counted → ℕ) (jobs : List JobRecord) (now id : ℕ) (parts : List Part) (names : List (List ℕ))
    (job : JobRecord) → HaveRisingIds jobs → job_with id jobs ≡ Some job → is_pending job.state ≡ true
    → sum_by amount (holding (map (started_as now id parts names) jobs))
    ≡ sum_by amount (holding jobs) + amount (counted_of job)
sum-begun amount [] now id parts names job rising found waits = absurd (let never = found in cc)
sum-begun amount (first ∷ jobs) now id parts names job rising found waits =
    let start = started_as now id parts names in
    let before = holding-cons amount first jobs in
    let after = holding-cons amount (start first) (map start jobs) in
    elim (cases_Bool (eqb first.id id)) [
      | inl here ↦
          let is : first ≡ job = let told = rw here at found in some-is told in
          let above = pairs-head lower first jobs rising in
          let rest : map start jobs ≡ jobs =
          map_fixed start jobs
          (λ k d below. rw (ne_eqb (get_or jobs k d).id id
          (λ same. omega (arith, above k d below, same, eqb-true first.id id here))) refl) in
          let begun : adds amount (start first) ≡ amount (counted_of job) = rw here (ap (λ (one : JobRecord). amount (counted_of one)) is) in
          let idle : adds amount first ≡ 0 = rw (pending-idle first.state (rw is waits)) refl in
          omega (arith, before, after, begun, idle, ap (λ some. sum_by amount (holding some)) rest)
      | inr other ↦
          let same : start first ≡ first = rw other refl in
          let next = sum-begun amount jobs now id parts names job (pairs-tail lower first jobs rising)
          (rw other at found) waits in
          omega (arith, before, after, ap (adds amount) same, next)
    ]
  where
    some-is : {X : Type 0} {x y : X} → Some x ≡ Some y → x ≡ y
    some-is {x = x} same = ap (λ (o : Option _). unwrap_or o x) same

pub counts-taken : (jobs : List JobRecord) (now id : ℕ) (parts : List Part) (names : List (List ℕ)) (job : JobRecord)
    → HaveRisingIds jobs → job_with id jobs ≡ Some job → is_pending job.state ≡ true
    → HaveSameSums (holding jobs ++ counted_of job ∷ []) (holding (map (started_as now id parts names) jobs))
counts-taken jobs now id parts names job rising found waits amount = omega (
  arith,
  sum-begun amount jobs now id parts names job rising found waits,
  sum_by-append amount (holding jobs) (counted_of job ∷ []),
  sum_by-cons amount (counted_of job) [],
)

-- one job alone
pub holding-one : (job : JobRecord) → is_holding job.state ≡ true → holding (job ∷ []) ≡ counted_of job ∷ []
unfolding holding
holding-one job holds = rw holds refl

pub holding-idle : (job : JobRecord) → is_holding job.state ≡ false → holding (job ∷ []) ≡ []
unfolding holding
holding-idle job idle = rw idle refl

-- one job more of a list that is looked at
holding-more : (jobs : List JobRecord) (i : ℕ) (job : JobRecord) → i < length jobs → job ≡ get_or jobs i job
    → holding (take (i + 1) jobs) ≡ holding (take i jobs) ++ holding (job ∷ [])
unfolding holding
holding-more jobs i job within is =
    let holds : JobRecord → Bool = λ one. is_holding one.state in
    rw (take_more jobs i job within, ← is, filter-append holds (take i jobs) (job ∷ []))
    (map-append counted_of (filter holds (take i jobs)) (filter holds (job ∷ [])))

-- those that hold processors, where some that don't are left out
abbrev AreIdle : List JobRecord → ℕ → ℕ → Type 0
AreIdle jobs from next = AllWithin (λ (job : JobRecord). is_holding job.state ≡ false) jobs from next

holding-gap : (from next : ℕ) (jobs : List JobRecord) → from ≤ next → AreIdle jobs from next
    → holding (take next jobs) ≡ holding (take from jobs)
unfolding holding
holding-gap zero zero jobs less idle = refl
holding-gap zero (suc next) [] less idle = refl
holding-gap zero (suc next) (job ∷ jobs) less idle =
    let off : is_holding job.state ≡ false = idle 0 job (omega arith) (omega arith) in
    let rest = holding-gap zero next jobs (omega arith)
    (λ k d low below. idle (suc k) d (omega arith) (omega (arith, below))) in
    rw off rest
holding-gap (suc from) zero jobs less idle = absurd (omega (arith, less))
holding-gap (suc from) (suc next) [] less idle = refl
holding-gap (suc from) (suc next) (job ∷ jobs) less idle =
    let rest = holding-gap from next jobs (omega (arith, less))
    (λ k d low below. idle (suc k) d (omega (arith, low)) (omega (arith, below))) in
    elim (cases_Bool (is_holding job.state)) [
      | inl holds ↦ rw holds (ap (λ more. counted_of job ∷ more) rest)
      | inr off ↦ rw off rest
    ]

pub holding-next : (from next : ℕ) (job : JobRecord) (jobs : List JobRecord) → from ≤ next → next < length jobs
    → job ≡ get_or jobs next job → AreIdle jobs from next
    → holding (take (next + 1) jobs) ≡ holding (take from jobs) ++ holding (job ∷ [])
holding-next from next job jobs less inside is idle =
    holding-more jobs next job inside is
    ∙ ap (λ front. front ++ holding (job ∷ [])) (holding-gap from next jobs less idle)

pub holding-rest : (from : ℕ) (jobs : List JobRecord) → from ≤ length jobs → AreIdle jobs from (length jobs)
    → holding (take from jobs) ≡ holding jobs
holding-rest from jobs within idle =
    sym (holding-gap from (length jobs) jobs within idle) ∙ ap holding (take_all (length jobs) jobs (omega arith))
