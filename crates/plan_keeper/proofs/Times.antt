-- How often a node is among those of the first jobs of a list.
use Rattle.std.proofs.Common.{◌≡◌, ℕ, ◌+◌, ◌-◌, ◌≤◌, ◌<◌, zero, suc, true, false, cond, eqb, List, [], ◌∷◌, length, take, map, All, arith, refl, ap, sym, ◌∙◌, inl, inr, get_or, sum_by}
use Rattle.std.specs.Prelude.{count_by, filter}
use Rattle.std.specs.List.{list_any}
use Rattle.std.proofs.lemmas.Bool.{cases_Bool, eqb-true, eq-eqb}
use Rattle.std.proofs.lemmas.List.Sums.{sum_by-cons, sum_by_more}
use Rattle.std.proofs.lemmas.List.Elements.{All-head, All-tail, All-nil, All-cons}
use Rattle.backfill_planner.specs.declared.job.PlanJob.{PlanJob}
use Rattle.plan_keeper.specs.Steady.{may_have_node, but_for_times, jobs_on}
use Rattle.plan_keeper.specs.Marks.{on, times}

-- the job at a place of a list
pub record IsAt (jobs : List PlanJob) (place : ℕ) : Type 0 where
  pub job : PlanJob
  pub is : (d : PlanJob) → get_or jobs place d ≡ job

pub there : (jobs : List PlanJob) (place : ℕ) → place < length jobs → IsAt jobs place
there [] place below = absurd (omega (arith, below))
there (job ∷ jobs) zero below = record { job = job; is = λ d. refl }
there (job ∷ jobs) (suc place) below = let at = there jobs place (omega (arith, below)) in record { job = at.job; is = at.is }

pub times-next : (node : ℕ) (jobs : List PlanJob) (place : ℕ) (d : PlanJob) → place < length jobs → times node (take (place + 1) jobs) ≡ times node (take place jobs) + on node (get_or jobs place d)
times-next node jobs place d below = sum_by_more (on node) jobs place d below

pub times-rise : (node : ℕ) (jobs : List PlanJob) (first more : ℕ) → first + more ≤ length jobs → times node (take first jobs) ≤ times node (take (first + more) jobs)
times-rise node jobs first zero few = let same : first + 0 ≡ first = omega arith in rw same (omega arith)
times-rise node jobs first (suc more) few =
    let next : first + suc more ≡ (first + more) + 1 = omega arith in
    let at = there jobs (first + more) (omega (arith, few)) in
    let rest = times-rise node jobs first more (omega (arith, few)) in
    rw next (omega (arith, rest, times-next node jobs (first + more) at.job (omega (arith, few))))

pub times-up_to : (node : ℕ) (jobs : List PlanJob) (first last : ℕ) → first ≤ last → last ≤ length jobs → times node (take first jobs) ≤ times node (take last jobs)
times-up_to node jobs first last order few =
    let more : first + (last - first) ≡ last = omega (arith, order) in
    rw more at (times-rise node jobs first (last - first) (omega (arith, order, few)))

-- a job before another of the list adds what it has of the node
pub times-past : (node : ℕ) (jobs : List PlanJob) (place last : ℕ) (d : PlanJob) → place < last → last ≤ length jobs → times node (take place jobs) + on node (get_or jobs place d) ≤ times node (take last jobs)
times-past node jobs place last d order few =
    omega (arith, times-next node jobs place d (omega (arith, order, few)), times-up_to node jobs (place + 1) last (omega (arith, order)) few)

-- a job without the node counts nothing of it
pub not-on : (node : ℕ) (job : PlanJob) → may_have_node node job ≡ false → on node job ≡ 0
not-on node job without = by job.nodes without
  where
    by : (nodes : List ℕ) → list_any (λ other. eqb node other) nodes ≡ false → count_by (λ other. eqb node other) nodes ≡ 0
    by [] without = refl
    by (other ∷ nodes) without = elim (cases_Bool (eqb node other)) [
      | inl is ↦ absurd (let wrong = rw is at without in cc)
      | inr differs ↦
          let rest : list_any (λ other. eqb node other) nodes ≡ false = rw differs at without in
          let nothing : ◌≡◌ {A = ℕ} (cond (eqb node other) 1 0) 0 = rw differs refl in
          omega (arith, sum_by-cons (λ other. cond (eqb node other) 1 0) other nodes, by nodes rest, nothing)
    ]

pub has-on : (node : ℕ) (job : PlanJob) → may_have_node node job ≡ true → 1 ≤ on node job
has-on node job has = by job.nodes has
  where
    by : (nodes : List ℕ) → list_any (λ other. eqb node other) nodes ≡ true → 1 ≤ count_by (λ other. eqb node other) nodes
    by [] has = absurd cc
    by (other ∷ nodes) has = elim (cases_Bool (eqb node other)) [
      | inl is ↦
          let one : ◌≡◌ {A = ℕ} (cond (eqb node other) 1 0) 1 = rw is refl in
          omega (arith, sum_by-cons (λ other. cond (eqb node other) 1 0) other nodes, one)
      | inr differs ↦
          let rest : list_any (λ other. eqb node other) nodes ≡ true = rw differs at has in
          omega (arith, sum_by-cons (λ other. cond (eqb node other) 1 0) other nodes, by nodes rest)
    ]

-- those that may have the node count all of it
times-kept : (node : ℕ) (jobs : List PlanJob) → times node (filter (may_have_node node) jobs) ≡ times node jobs
times-kept node [] = refl
times-kept node (job ∷ jobs) = elim (cases_Bool (may_have_node node job)) [
  | inl has ↦ rw has (omega (arith, sum_by-cons (on node) job (filter (may_have_node node) jobs), sum_by-cons (on node) job jobs, times-kept node jobs))
  | inr without ↦ rw without (omega (arith, sum_by-cons (on node) job jobs, times-kept node jobs, not-on node job without))
]

times-asked : (node : ℕ) (jobs : List PlanJob) → times node (map but_for_times jobs) ≡ times node jobs
times-asked node [] = refl
times-asked node (job ∷ jobs) =
    omega (arith, sum_by-cons (on node) (but_for_times job) (map but_for_times jobs), sum_by-cons (on node) job jobs, times-asked node jobs)

-- they count the same in two lists where they are the same but for their times
pub times-same : (node : ℕ) (jobs others : List PlanJob) → jobs_on node jobs ≡ jobs_on node others → times node jobs ≡ times node others
times-same node jobs others same = sym (all jobs) ∙ ap (λ some. times node some) same ∙ all others
  where
    all : (jobs : List PlanJob) → times node (jobs_on node jobs) ≡ times node jobs
    all jobs = times-asked node (filter (may_have_node node) jobs) ∙ times-kept node jobs

-- where none of some numbers is above its fellow, and the sums are the same, they are the same
sums-below : (one other : ℕ → ℕ) (xs : List ℕ) → All (λ x. one x ≤ other x) xs → sum_by one xs ≤ sum_by other xs
sums-below one other [] below = omega arith
sums-below one other (x ∷ xs) below =
    omega (arith, sum_by-cons one x xs, sum_by-cons other x xs, All-head (λ x. one x ≤ other x) x xs below, sums-below one other xs (All-tail (λ x. one x ≤ other x) x xs below))

pub sums-tell : (one other : ℕ → ℕ) (xs : List ℕ) → All (λ x. one x ≤ other x) xs → sum_by one xs ≡ sum_by other xs → All (λ x. one x ≡ other x) xs
sums-tell one other [] below same = All-nil (λ x. one x ≡ other x)
sums-tell one other (x ∷ xs) below same =
    let head = All-head (λ x. one x ≤ other x) x xs below in
    let tail = All-tail (λ x. one x ≤ other x) x xs below in
    let rest = sums-below one other xs tail in
    All-cons (λ x. one x ≡ other x) x xs
    (omega (arith, sum_by-cons one x xs, sum_by-cons other x xs, head, rest, same))
    (sums-tell one other xs tail (omega (arith, sum_by-cons one x xs, sum_by-cons other x xs, head, rest, same)))

pub sums-same : (one other : ℕ → ℕ) (xs : List ℕ) → All (λ x. one x ≡ other x) xs → sum_by one xs ≡ sum_by other xs
sums-same one other [] same = refl
sums-same one other (x ∷ xs) same =
    omega (arith, sum_by-cons one x xs, sum_by-cons other x xs, All-head (λ x. one x ≡ other x) x xs same, sums-same one other xs (All-tail (λ x. one x ≡ other x) x xs same))

-- each of a job's nodes is one that it may have
pub own-nodes : (job : PlanJob) → All (λ node. may_have_node node job ≡ true) job.nodes
own-nodes job k d below = by job.nodes k below
  where
    by : (nodes : List ℕ) (k : ℕ) → k < length nodes → list_any (λ other. eqb (get_or nodes k d) other) nodes ≡ true
    by [] k below = absurd (omega (arith, below))
    by (node ∷ nodes) zero below = rw (eq-eqb node node refl) refl
    by (node ∷ nodes) (suc k) below = elim (cases_Bool (eqb (get_or nodes k d) node)) [
      | inl is ↦ rw is refl
      | inr differs ↦ rw differs (by nodes k (omega (arith, below)))
    ]

-- a node that a job may have is one of its nodes
pub owned : (P : ℕ → Type 0) (job : PlanJob) (node : ℕ) → All P job.nodes → may_have_node node job ≡ true → P node
owned P job node all has = by job.nodes all has
  where
    by : (nodes : List ℕ) → All P nodes → list_any (λ other. eqb node other) nodes ≡ true → P node
    by [] all has = absurd cc
    by (other ∷ nodes) all has = elim (cases_Bool (eqb node other)) [
      | inl is ↦ rw (eqb-true node other is) (All-head P other nodes all)
      | inr differs ↦ by nodes (All-tail P other nodes all) (rw differs at has)
    ]
