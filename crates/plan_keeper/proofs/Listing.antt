-- The old list by ids and depths, job by job.
use Rattle.std.proofs.Common.{◌≡◌, ◌↔◌, ℕ, ◌+◌, ◌<◌, zero, suc, cond, eqb, true, false, Bool, List, [], ◌∷◌, ◌++◌, length, take, All, arith, refl, ap, sym, ◌∙◌, inl, inr, get_or, sum_by, Option, Some, None}
use Rattle.std.specs.List.{list_all}
use Rattle.std.proofs.lemmas.List.Elements.{All-head, All-tail}
use Rattle.std.proofs.lemmas.List.Sums.{AllPass-from_list_all}
use Rattle.std.proofs.lemmas.Bool.{cases_lt, eqb-true, eq-eqb}
use Rattle.std.proofs.lemmas.List.{get_or_default}
use Rattle.backfill_planner.specs.declared.job.PlanJob.{PlanJob}
use Rattle.plan_keeper.specs.Marks.{FindsId, on, times, depth}
use Rattle.plan_keeper.proofs.Times.{times-next, sums-same}

pub finds-more : (jobs : List PlanJob) (place : ℕ) (job : PlanJob) (id : ℕ) (was now : Option ℕ) → place < length jobs → job ≡ get_or jobs place job → FindsId jobs place id was → now ≡ cond (eqb job.id id) (Some place) was → FindsId jobs (place + 1) id now
finds-more jobs place job id was now inside is before after = rw after (by (eqb job.id id) refl)
  where
    there : (d : PlanJob) → get_or jobs place d ≡ job
    there d = get_or_default jobs place d job inside ∙ sym is

    onward : (was : Option ℕ) → FindsId jobs place id was → eqb job.id id ≡ false → FindsId jobs (place + 1) id was
    onward (Some other) before differs = (omega (arith, before.0), before.1)
    onward None before differs = λ other d below same. elim (cases_lt other place) [
      | inl lower ↦ before other d lower same
      | inr at ↦
          let here : other ≡ place = omega (arith, at, below) in
          let ids : job.id ≡ id = ap (λ (one : PlanJob). one.id) (sym (there d)) ∙ (rw here at same) in
          let wrong = sym differs ∙ eq-eqb job.id id ids in
          absurd cc
    ]

    by : (b : Bool) → eqb job.id id ≡ b → FindsId jobs (place + 1) id (cond b (Some place) was)
    by true same = (omega arith, λ d. ap (λ (one : PlanJob). one.id) (there d) ∙ eqb-true job.id id same)
    by false differs = onward was before differs

-- a job more has its depth, and its nodes are counted
pub deep-more : (jobs : List PlanJob) (index : ℕ) (job : PlanJob) (counts depths : List ℕ) (sum : ℕ) → index < length jobs → job ≡ get_or jobs index job → All (λ node. node < length counts) job.nodes → ((node d : ℕ) → node < length counts → get_or counts node d ≡ times node (take index jobs)) → length depths ≡ index → ((place d : ℕ) (one : PlanJob) → place < index → get_or jobs place one ≡ one → get_or depths place d ≡ depth jobs place one) → sum ≡ sum_by (λ node. get_or counts node 0) job.nodes
    → (place d : ℕ) (one : PlanJob) → place < index + 1 → get_or jobs place one ≡ one → get_or (depths ++ sum ∷ []) place d ≡ depth jobs place one
deep-more jobs index job counts depths sum inside is nodes counted long deep sum_is place d one below one_is = elim (cases_lt place index) [
  | inl lower ↦ left depths place (omega (arith, lower, long)) ∙ deep place d one lower one_is
  | inr at ↦
      let here : place ≡ index = omega (arith, at, below) in
      let same : one ≡ job = sym one_is ∙ ap (λ p. get_or jobs p one) here ∙ get_or_default jobs index one job inside ∙ sym is in
      let last : place ≡ length depths = here ∙ sym long in
      ap (λ p. get_or (depths ++ sum ∷ []) p d) last ∙ end depths ∙ sum_is
      ∙ sums-same (λ node. get_or counts node 0) (λ node. times node (take index jobs)) job.nodes (λ k e low. counted (get_or job.nodes k e) 0 (nodes k e low))
      ∙ rw (here, same) refl
]
  where
    left : (depths : List ℕ) (place : ℕ) → place < length depths → get_or (depths ++ sum ∷ []) place d ≡ get_or depths place d
    left [] place low = absurd (omega (arith, low))
    left (first ∷ depths) zero low = refl
    left (first ∷ depths) (suc place) low = left depths place (omega (arith, low))

    end : (depths : List ℕ) → get_or (depths ++ sum ∷ []) (length depths) d ≡ sum
    end [] = refl
    end (first ∷ depths) = end depths

pub counted-on : (jobs : List PlanJob) (index : ℕ) (job : PlanJob) (node was now : ℕ) → index < length jobs → job ≡ get_or jobs index job → was ≡ times node (take index jobs) → now ≡ was + on node job → now ≡ times node (take (index + 1) jobs)
counted-on jobs index job node was now inside is before after =
    omega (arith, after, before, times-next node jobs index job inside, ap (λ one. on node one) is)

pub all-unchanged : (same : List Bool) (nodes : List ℕ) → All (λ node. get_or same node false ≡ true) nodes → list_all (λ node. get_or same node false) nodes ≡ true
all-unchanged same [] all = refl
all-unchanged same (node ∷ nodes) all =
    rw (All-head (λ node. get_or same node false ≡ true) node nodes all)
    (all-unchanged same nodes (All-tail (λ node. get_or same node false ≡ true) node nodes all))

-- where all are, these nodes are
pub all-marked : (same : List Bool) (nodes : List ℕ) → list_all (λ one. one) same ≡ true → All (λ node. node < length same) nodes → list_all (λ node. get_or same node false) nodes ≡ true
all-marked same nodes all inside =
    all-unchanged same nodes (λ k d below. AllPass-from_list_all (λ one. one) same all (get_or nodes k d) false (inside k d below))

-- a flag more says what it says
pub flags-more : (P : ℕ → Type 0) (same : List Bool) (count : ℕ) (flag : Bool) → length same ≡ count → ((node : ℕ) (d : Bool) → node < count → (get_or same node d ≡ true) ↔ P node) → (flag ≡ true) ↔ P count → (node : ℕ) (d : Bool) → node < count + 1 → (get_or (same ++ flag ∷ []) node d ≡ true) ↔ P node
flags-more P same count flag long each here node d below = elim (cases_lt node count) [
  | inl lower ↦ rw (left same node (omega (arith, lower, long))) (each node d lower)
  | inr at ↦
      let last : node ≡ length same = omega (arith, at, below, long) in
      let is : node ≡ count = omega (arith, at, below) in
      rw (last, end same, ← last, is) here
]
  where
    left : (same : List Bool) (place : ℕ) → place < length same → get_or (same ++ flag ∷ []) place d ≡ get_or same place d
    left [] place low = absurd (omega (arith, low))
    left (first ∷ same) zero low = refl
    left (first ∷ same) (suc place) low = left same place (omega (arith, low))

    end : (same : List Bool) → get_or (same ++ flag ∷ []) (length same) d ≡ flag
    end [] = refl
    end (first ∷ same) = end same

-- two numbers more of a node hold what they hold
pub pair-more : (P : ℕ → ℕ → ℕ → Type 0) (one other : List ℕ) (count more also : ℕ) → length one ≡ count → length other ≡ count → ((node : ℕ) → node < count → P node (get_or one node 0) (get_or other node 0)) → P count more also → (node : ℕ) → node < count + 1 → P node (get_or (one ++ more ∷ []) node 0) (get_or (other ++ also ∷ []) node 0)
pair-more P one other count more also long long_other each here node below = elim (cases_lt node count) [
  | inl lower ↦ rw (left one node more (omega (arith, lower, long)), left other node also (omega (arith, lower, long_other))) (each node lower)
  | inr at ↦
      let is : node ≡ count = omega (arith, at, below) in
      let first : get_or (one ++ more ∷ []) count 0 ≡ more = rw (← long) (end one more) in
      let second : get_or (other ++ also ∷ []) count 0 ≡ also = rw (← long_other) (end other also) in
      rw (is, first, second) here
]
  where
    left : (xs : List ℕ) (place x : ℕ) → place < length xs → get_or (xs ++ x ∷ []) place 0 ≡ get_or xs place 0
    left [] place x low = absurd (omega (arith, low))
    left (first ∷ xs) zero x low = refl
    left (first ∷ xs) (suc place) x low = left xs place x (omega (arith, low))

    end : (xs : List ℕ) (x : ℕ) → get_or (xs ++ x ∷ []) (length xs) 0 ≡ x
    end [] x = refl
    end (first ∷ xs) x = end xs x
