-- The first in order of those that pass a test comes before all others that pass it.
use Rattle.std.proofs.Common.{◌≡◌, ◌≢◌, ℕ, suc, ◌<◌, Bool, true, false, ◌&&◌, ◌||◌, not, ltb, List, [], ◌∷◌, filter, get_or, All, AllPairs, Option, Some, None, arith, refl, ap, sym, ◌∙◌, inl, inr, true≢false}
use Rattle.std.specs.Prelude.{Contains, option_map, slice_get}
use Rattle.std.specs.Cmp.{IsStrictWeakOrder}
use Rattle.std.proofs.lemmas.Bool.{cases_Bool, cases_eq, cases_lt}
use Rattle.std.proofs.lemmas.Bool.Decides.{nat_tests}
use Rattle.std.proofs.lemmas.List.{get_or_default}
use Rattle.std.proofs.lemmas.List.Elements.{All-cons, All-contains, All-nil}
use Rattle.list_lemmas.proofs.Pairs.{pairs-head, pairs-tail}
use Rattle.job_table.specs.declared.record.JobRecord.{JobRecord}
use Rattle.job_table.specs.Table.{HaveRisingIds}
use Rattle.ctl_state.specs.Ordered.{ordered_by}
use Rattle.ctl_state.specs.State.{State}
use Rattle.ctl_waiting.specs.Rank.{comes_before, is_higher}
use Rattle.ctl_waiting.specs.Candidates.{candidates, is_candidate}
use Rattle.ctl_waiting.proofs.Orders.{first-of, first-put, higher-weak}

module _ {X : Type 0} (before : X → X → Bool) (weak : IsStrictWeakOrder before) (test : X → Bool) (number : X → ℕ) where
  -- the one comes before the other
  abbrev pub ahead : X → X → Bool
  ahead one other = before one other || (ltb (number one) (number other) && not (before other one))

  -- it passes, and none that passes comes before it
  pub record IsFirst (xs : List X) (first : X) : Type 0 where
    pub there : Contains xs first
    pub passes : test first ≡ true
    pub none : All (λ x. test x ≡ true → ahead x first ≡ false) xs

  -- what is found is the first one; where nothing is, none passes
  abbrev pub IsFound : List X → Option X → Type 0
  IsFound xs None = All (λ x. test x ≡ false) xs
  IsFound xs (Some first) = IsFirst xs first

  abbrev Passing : X → X → Type 0
  Passing first x = test x ≡ true → ahead x first ≡ false

  there-more : (x : X) (xs : List X) (first : X) → Contains xs first → Contains (x ∷ xs) first
  there-more x xs first there = (suc there.0, omega (arith, there.1), there.2)

  itself : (x : X) → before x x ≡ false
  itself x = elim (cases_Bool (before x x)) [ inl less ↦ weak.one_way x x less | inr other ↦ other ]

  fails-more : (x : X) (xs : List X) (found : Option X) → test x ≡ false → IsFound xs found → IsFound (x ∷ xs) found
  fails-more x xs None fails none = All-cons (λ y. test y ≡ false) x xs fails none
  fails-more x xs (Some first) fails is = record {
    there = there-more x xs first is.there;
    passes = is.passes;
    none = All-cons (Passing first) x xs (λ passes. absurd (true≢false (sym passes ∙ fails))) is.none;
  }

  alone : (x : X) (xs : List X) → test x ≡ true → All (λ y. test y ≡ false) xs → IsFirst (x ∷ xs) x
  alone x xs passes none = record {
    there = (0, omega arith, refl);
    passes = passes;
    none = All-cons (Passing x) x xs (λ again. grind (arith, nat_tests, itself x))
        (λ k d below again. absurd (true≢false (sym again ∙ none k d below)));
  }

  stays : (x : X) (xs : List X) (first : X) → before first x ≡ true → IsFirst xs first → IsFirst (x ∷ xs) first
  stays x xs first less is = record {
    there = there-more x xs first is.there;
    passes = is.passes;
    none = All-cons (Passing first) x xs (λ again. grind (arith, nat_tests, weak.one_way first x less, less)) is.none;
  }

  goes : (x : X) (xs : List X) (first : X) → All (λ y. number x < number y) xs → test x ≡ true
      → before first x ≡ false → IsFirst xs first → IsFirst (x ∷ xs) x
  goes x xs first low passes most is = record {
    there = (0, omega arith, refl);
    passes = passes;
    none = All-cons (Passing x) x xs (λ again. grind (arith, nat_tests, itself x)) (λ k d below again.
        let y = get_or xs k d in
        let behind : before y first ≡ false = grind (arith, nat_tests, is.none k d below again) in
        grind (arith, nat_tests, weak.chain y first x behind most, low k d below));
  }

  passes-more : (x : X) (xs : List X) (found : Option X) → All (λ y. number x < number y) xs → test x ≡ true
      → IsFound xs found → IsFound (x ∷ xs) (first-of before x found)
  passes-more x xs None low passes none = alone x xs passes none
  passes-more x xs (Some first) low passes is = elim (cases_Bool (before first x)) [
    | inl less ↦ rw less (stays x xs first less is)
    | inr most ↦ rw most (goes x xs first low passes most is)
  ]

  pub first-found : (xs : List X) → AllPairs (λ one other. number one < number other) xs
      → IsFound xs (slice_get (ordered_by before (filter test xs)) 0)
  unfolding ordered_by
  first-found [] rising = All-nil (λ x. test x ≡ false)
  first-found (x ∷ xs) rising =
      let low = pairs-head (λ one other. number one < number other) x xs rising in
      let found = first-found xs (pairs-tail (λ one other. number one < number other) x xs rising) in
      elim (cases_Bool (test x)) [
        | inl passes ↦
            rw (passes, first-put before x (ordered_by before (filter test xs)))
            (passes-more x xs (slice_get (ordered_by before (filter test xs)) 0) low passes found)
        | inr fails ↦ rw fails (fails-more x xs (slice_get (ordered_by before (filter test xs)) 0) fails found)
      ]

-- what is found in the order of the candidates
abbrev Found : State → ℕ → Option JobRecord → Type 0
Found s now found =
    IsFound (is_higher s now) (higher-weak s now) (is_candidate s now) (λ (job : JobRecord). job.id) s.jobs found

found-candidate : (s : State) (now : ℕ) → HaveRisingIds s.jobs → Found s now (slice_get (candidates s now) 0)
unfolding candidates
found-candidate s now rising =
    first-found (is_higher s now) (higher-weak s now) (is_candidate s now) (λ (job : JobRecord). job.id) s.jobs rising

-- a candidate that none comes before is the highest in rank
pub highest-stands : (s : State) (now : ℕ) (job : JobRecord) → HaveRisingIds s.jobs → Contains s.jobs job
    → is_candidate s now job ≡ true
    → All (λ other. is_candidate s now other ≡ true → comes_before s now other job ≡ false) s.jobs
    → option_map (λ (one : JobRecord). one.id) (slice_get (candidates s now) 0) ≡ Some job.id
highest-stands s now job rising there can none = by (slice_get (candidates s now) 0) (found-candidate s now rising)
  where
    by : (found : Option JobRecord) → Found s now found → option_map (λ (one : JobRecord). one.id) found ≡ Some job.id
    by None nobody =
        absurd (true≢false (sym can ∙ All-contains (λ other. is_candidate s now other ≡ false) s.jobs job nobody there))
    by (Some first) is = elim (cases_eq first.id job.id) [
      | inl same ↦ ap Some same
      | inr apart ↦
          let one = All-contains (λ other. is_candidate s now other ≡ true → comes_before s now other first ≡ false)
          s.jobs job is.none there can in
          let two = All-contains (λ other. is_candidate s now other ≡ true → comes_before s now other job ≡ false)
          s.jobs first none is.there is.passes in
          absurd (grind (arith, nat_tests, one, two, apart))
    ]

-- the jobs have different numbers
same-job : (jobs : List JobRecord) (one other : JobRecord) → HaveRisingIds jobs → Contains jobs one
    → Contains jobs other → one.id ≡ other.id → one ≡ other
same-job jobs one other rising here there same =
    let first : get_or jobs here.0 one ≡ one = here.2 in
    let last : get_or jobs there.0 one ≡ other = get_or_default jobs there.0 one other there.1 ∙ there.2 in
    let low : get_or jobs here.0 one ≡ get_or jobs here.0 one = refl in
    elim (cases_lt here.0 there.0) [
      | inl less ↦ absurd (omega (arith, rw (first, last) at (rising here.0 there.0 one less there.1), same))
      | inr most ↦ elim (cases_lt there.0 here.0) [
        | inl less ↦ absurd (omega (arith, rw (first, last) at (rising there.0 here.0 one less here.1), same))
        | inr least ↦
            let at : here.0 ≡ there.0 = omega (arith, most, least) in
            sym first ∙ ap (λ k. get_or jobs k one) at ∙ last
      ]
    ]

-- where a candidate comes before a job, that isn't the highest in rank
pub highest-differs : (s : State) (now : ℕ) (job other : JobRecord) → HaveRisingIds s.jobs → Contains s.jobs job
    → Contains s.jobs other → is_candidate s now other ≡ true → comes_before s now other job ≡ true
    → option_map (λ (one : JobRecord). one.id) (slice_get (candidates s now) 0) ≢ Some job.id
highest-differs s now job other rising there beside can before is =
    by (slice_get (candidates s now) 0) (found-candidate s now rising) is
  where
    by : (found : Option JobRecord) → Found s now found
        → option_map (λ (one : JobRecord). one.id) found ≡ Some job.id → ⊥
    by None nobody never = absurd (let lost = never in cc)
    by (Some first) held told =
        let same : first.id ≡ job.id = cc in
        let one : first ≡ job = same-job s.jobs first job rising held.there there same in
        let off = All-contains (λ one. is_candidate s now one ≡ true → comes_before s now one first ≡ false)
        s.jobs other held.none beside can in
        true≢false (sym before ∙ ap (comes_before s now other) (sym one) ∙ off)
