-- What jobs count.
use Rattle.std.proofs.Common.{◌≡◌, ℕ, ◌+◌, ◌<◌, Bool, true, false, cond, ◌||◌, nat_eq, List, [], ◌∷◌, ◌++◌, length, take, get_or, AllPairs, sum_by, refl, ap, arith}
use Rattle.std.specs.List.{list_any}
use Rattle.std.proofs.lemmas.Bool.Decides.{nat_tests}
use Rattle.std.proofs.lemmas.List.{get_or-take, get_or_default, length-take-le}
use Rattle.std.proofs.lemmas.List.Sums.{sum_by_push}
use Rattle.std.proofs.lemmas.List.Folds.{list_any_more, list_any_none}
use Rattle.run_limits.specs.declared.counted.Counted.{Counted}
use Rattle.run_limits.specs.declared.counted.Counts.{Counts}
use Rattle.run_limits.specs.Counting.{counts_of}
use Rattle.run_limits.specs.Tallies.{with_job_if, HaveSameSums}

-- one job more
pub counts-more : (test : Counted → Bool) (jobs : List Counted) (job : Counted)
    → counts_of test (jobs ++ job ∷ []) ≡ with_job_if (test job) job.cpus (counts_of test jobs)
unfolding counts_of
counts-more test jobs job =
    rw (
      sum_by_push (λ one. cond (test one) 1 0) jobs job,
      sum_by_push (λ (one : Counted). cond
          (test one) one.cpus 0) jobs job,
    )
    (at (test job) (sum_by (λ one. cond (test one) 1 0) jobs) (sum_by (λ (one : Counted). cond
    (test one) one.cpus 0) jobs)) where
      counts : ℕ → ℕ → Counts
      counts count cpus = record { jobs = count; cpus = cpus }

      at : (b : Bool) (count cpus : ℕ) → counts (count + cond b 1 0) (cpus + cond b job.cpus 0)
          ≡ with_job_if b job.cpus (counts count cpus)
      at true count cpus = refl
      at false count cpus = rw (none count, none cpus) refl where
        none : (n : ℕ) → n + 0 ≡ n
        none n = omega arith

-- the sums decide
pub counts-same : (test : Counted → Bool) (some others : List Counted) → HaveSameSums some others
    → counts_of test some ≡ counts_of test others
unfolding counts_of
counts-same test some others same = rw (
  same (λ one. cond (test one) 1 0),
  same (λ (one : Counted). cond
      (test one) one.cpus 0),
) refl

-- where the places fall, none of the earlier ones is a later one
not-before : (places : List ℕ) (index place : ℕ) → index < length places
    → AllPairs (λ lower upper. upper < lower) places
    → place ≡ get_or places index 0 → list_any (nat_eq place) (take index places) ≡ false
not-before places index place inside falling is =
    let count : length (take index places) ≡ index = length-take-le index places (omega (arith, inside)) in
    list_any_none (nat_eq place) (take index places) (λ k d within.
    let before : k < index = omega (arith, within, count) in
    let less : get_or places index 0 < get_or places k 0 = falling k index 0 before inside in
    let same : get_or places k d ≡ get_or places k 0 = get_or_default places k d 0 (omega (arith, before, inside)) in
    rw (get_or-take index places k d before, same) (differ (get_or places k 0) (rw (← is) at less))) where
      differ : (later : ℕ) → place < later → nat_eq place later ≡ false
      differ later less = grind (arith, nat_tests)

-- a place more of the way up
pub above-more : (places : List ℕ) (index place other cpus : ℕ) (was : Counts) → index < length places
    → AllPairs (λ lower upper. upper < lower) places
    → place ≡ get_or places index 0
    → with_job_if (nat_eq place other) cpus (with_job_if (list_any (nat_eq other) (take index places)) cpus was)
    ≡ with_job_if (list_any (nat_eq other) (take (index + 1) places)) cpus was
above-more places index place other cpus was inside falling is =
    rw (list_any_more (nat_eq other) places index 0 inside, ← is)
    (at (nat_eq place other) (list_any (nat_eq other) (take index places)) (nat_eq other place) turned once) where
      turned : nat_eq place other ≡ nat_eq other place
      turned = grind (arith, nat_tests)

      once : nat_eq place other ≡ true → list_any (nat_eq other) (take index places) ≡ false
      once has =
          let same : place ≡ other = grind (arith, nat_tests, has) in
          rw (← same) (not-before places index place inside falling is)

      at : (b c e : Bool) → b ≡ e → (b ≡ true → c ≡ false) → with_job_if b cpus (with_job_if c cpus was)
          ≡ with_job_if (c || e) cpus was
      at true true e same once = absurd (never (once refl)) where
        never : true ≡ false → ⊥
        never wrong = cc
      at true false e same once = ap (λ b. with_job_if b cpus was) same
      at false true e same once = refl
      at false false e same once = ap (λ b. with_job_if b cpus was) same
