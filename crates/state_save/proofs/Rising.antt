-- Processor numbers that rise, and their runs.
use Rattle.std.specs.Prelude.{All, AllPairs}
use Rattle.std.proofs.Common.{◌≡◌, ◌⊎◌, inl, inr, ℕ, zero, suc, ◌+◌, ◌-◌, ◌<◌, ◌≤◌, ◌==◌, Bool, true, false, if◌then◌else◌, Option, Some, None, option_map, List, [], ◌∷◌, ◌++◌, length, get_or, map, refl, sym, ap, ◌∙◌, subst, arith, append_assoc, length-append}
use Rattle.std.proofs.lemmas.Bool.{cases_lt}
use Rattle.std.proofs.lemmas.Bool.Decides.{nat_tests}
use Rattle.std.specs.List.{range_with_len}
use Rattle.std.proofs.lemmas.List.{append-nil, get_or_append_left, get_or-append_right}
use Rattle.std.proofs.lemmas.List.Elements.{All-append}
use Rattle.std.proofs.lemmas.List.FromFn.{length-range_with_len, get_or-range_with_len}
use Rattle.table_texts.specs.Ranges.{continued, runs}
use Rattle.state_save.specs.Fitting.{AreCpus}
use Rattle.state_save.specs.Meanings.{is_run_from, numbers_of, rising_from, runs_in, cpus_in}
use Rattle.state_save.proofs.ListWords.{gives, mapped_to}
use Rattle.state_save.specs.declared.ranges.Run.{Run}

-- numbers that are added one after the other

range_push : (first count : ℕ) → range_with_len first (suc count) ≡ range_with_len first count ++ (first + count) ∷ []
range_push first zero = let same : first ≡ first + 0 = omega arith in ap (λ n. n ∷ []) same
range_push first (suc count) =
    let same : first + 1 + count ≡ first + suc count = omega arith in
    ap (λ l. first ∷ l) (range_push (first + 1) count ∙ ap (λ n. range_with_len (first + 1) count ++ n ∷ []) same)

pub range_below : (first count bound : ℕ) → first + count ≤ bound → All (λ n. n < bound) (range_with_len first count)
range_below first count bound up k d within =
    let few = length-range_with_len first count in
    let low : k < count = omega arith in
    let is = get_or-range_with_len first count k d low in
    omega arith

weaker : (old : List ℕ) (first bound : ℕ) → first ≤ bound → All (λ n. n < first) old → All (λ n. n < bound) old
weaker old first bound up below k d within = let low = below k d within in omega arith

pub added : (old now after : List ℕ) (first number : ℕ) → All (λ n. n < first) old → first ≤ number
    → now ≡ old ++ range_with_len first (number - first)
    → (All (λ id. id < number) now → after ≡ now ++ number ∷ [])
    → after ≡ old ++ range_with_len first (number + 1 - first)
added old now after first number below up is push =
    let all = All-append (λ id. id < number) old (range_with_len first (number - first)) (weaker old first number up below)
    (range_below first (number - first) number (omega arith)) in
    let more : number + 1 - first ≡ suc (number - first) = omega arith in
    let here : first + (number - first) ≡ number = omega arith in
    push (subst (λ l. All (λ id. id < number) l) (sym is) all) ∙ ap (λ l. l ++ number ∷ []) is
    ∙ append_assoc old (range_with_len first (number - first)) (number ∷ [])
    ∙ ap (λ l. old ++ l) (ap (λ n. range_with_len first (number - first) ++ n ∷ []) (sym here)
    ∙ sym (range_push first (number - first)) ∙ ap (range_with_len first) (sym more))

-- what runs give, behind numbers that were read before
abbrev pub behind : List ℕ → ℕ → List Run → Option (List ℕ)
behind done least runs = option_map (λ more. done ++ more) (rising_from least runs)

by_none : (more : Option (List ℕ)) → option_map (λ xs. [] ++ xs) more ≡ more
by_none None = refl
by_none (Some xs) = refl

pub behind-none : (runs : List Run) → behind [] 0 runs ≡ rising_from 0 runs
behind-none runs = by_none (rising_from 0 runs)

by_more : (done numbers : List ℕ) (more : Option (List ℕ)) → option_map (λ xs. done ++ xs) (option_map (λ xs. numbers ++ xs) more) ≡ option_map (λ xs. (done ++ numbers) ++ xs) more
by_more done numbers None = refl
by_more done numbers (Some xs) = ap Some (sym (append_assoc done numbers xs))

pub behind-more : (done : List ℕ) (least : ℕ) (run : Run) (runs : List Run) → is_run_from least run ≡ true → behind done least (run ∷ runs) ≡ behind (done ++ numbers_of run) (run.last + 1) runs
behind-more done least run runs is = rw is (by_more done (numbers_of run) (rising_from (run.last + 1) runs))

pub behind-bad : (done : List ℕ) (least : ℕ) (run : Run) (runs : List Run) → is_run_from least run ≡ false → behind done least (run ∷ runs) ≡ None
behind-bad done least run runs is = rw is refl

pub behind-end : (done : List ℕ) (least : ℕ) → behind done least [] ≡ Some done
behind-end done least = ap Some (append-nil done)

-- the numbers of one more run
abbrev pub Adds : List ℕ → List ℕ → Run → Type 0
Adds old now run = All (λ n. n < run.first) old → run.first ≤ run.last → now ≡ old ++ range_with_len run.first (run.last + 1 - run.first)

pub adds_numbers : (old now : List ℕ) (least : ℕ) (run : Run) → is_run_from least run ≡ true → All (λ n. n < least) old → Adds old now run
    → now ≡ old ++ numbers_of run
adds_numbers old now least run is below adds =
    let low : least ≤ run.first = grind (arith, nat_tests) in
    let up : run.first ≤ run.last = grind (arith, nat_tests) in
    adds (weaker old least run.first low below) up

pub adds_below : (old now : List ℕ) (least : ℕ) (run : Run) → is_run_from least run ≡ true → All (λ n. n < least) old → Adds old now run
    → All (λ n. n < run.last + 1) now
adds_below old now least run is below adds =
    let low : least ≤ run.first = grind (arith, nat_tests) in
    let up : run.first ≤ run.last = grind (arith, nat_tests) in
    subst (All (λ n. n < run.last + 1)) (sym (adds_numbers old now least run is below adds))
    (All-append (λ n. n < run.last + 1) old (numbers_of run) (weaker old least (run.last + 1) (omega arith) below)
    (range_below run.first (run.last + 1 - run.first) (run.last + 1) (omega arith)))

-- what is read of runs rises

pub record RisesFrom (least : ℕ) (ids : List ℕ) : Type 0 where
  pub rising : AllPairs (λ one other. one < other) ids
  pub above : All (λ n. least ≤ n) ids
  pub small : All (λ n. n < 1024) ids

range_rises : (first count : ℕ) → AllPairs (λ one other. one < other) (range_with_len first count)
range_rises first count i j d up within =
    let few = length-range_with_len first count in
    let low = get_or-range_with_len first count i d (omega arith) in
    let high = get_or-range_with_len first count j d (omega arith) in
    omega arith

range_above : (first count least : ℕ) → least ≤ first → All (λ n. least ≤ n) (range_with_len first count)
range_above first count least low k d within =
    let few = length-range_with_len first count in
    let is = get_or-range_with_len first count k d (omega arith) in
    omega arith

join_rises : (one other : List ℕ) (bound : ℕ) → AllPairs (λ a b. a < b) one → All (λ n. n < bound) one → AllPairs (λ a b. a < b) other
    → All (λ n. bound ≤ n) other → AllPairs (λ a b. a < b) (one ++ other)
join_rises one other bound rising below rising' above i j d up within =
    elim (cases_lt j (length one)) [
      | inl inside ↦
          let low : i < length one = omega arith in
          rw (get_or_append_left one other d i low, get_or_append_left one other d j inside) (rising i j d up inside)
      | inr behind ↦ by_first (cases_lt i (length one)) behind
    ]
  where
    back : (k : ℕ) → length one ≤ k → get_or (one ++ other) k d ≡ get_or other (k - length one) d
    back k far = get_or-append_right one other (length one) k d refl far

    by_first : (i < length one) ⊎ (length one ≤ i) → length one ≤ j → get_or (one ++ other) i d < get_or (one ++ other) j d
    by_first (inl low) far =
        let here = get_or_append_left one other d i low in
        let there = back j far in
        let under = below i d low in
        let over = above (j - length one) d (omega (arith, length-append one other)) in
        omega arith
    by_first (inr high) far =
        let here = back i high in
        let there = back j far in
        let both = rising' (i - length one) (j - length one) d (omega arith) (omega (arith, length-append one other)) in
        omega arith

added_rises : (least : ℕ) (run : Run) (more : List ℕ) → is_run_from least run ≡ true → RisesFrom (run.last + 1) more → RisesFrom least (numbers_of run ++ more)
added_rises least run more is rises =
    let low : least ≤ run.first = grind (arith, nat_tests) in
    let up : run.first ≤ run.last = grind (arith, nat_tests) in
    let few : run.last < 1024 = grind (arith, nat_tests) in
    record {
      rising = join_rises (numbers_of run) more (run.last + 1) (range_rises run.first (run.last + 1 - run.first))
          (range_below run.first (run.last + 1 - run.first) (run.last + 1) (omega arith)) rises.rising rises.above;
      above = All-append (λ n. least ≤ n) (numbers_of run) more (range_above run.first (run.last + 1 - run.first) least low)
          (λ k d within. let high = rises.above k d within in omega arith);
      small = All-append (λ n. n < 1024) (numbers_of run) more (range_below run.first (run.last + 1 - run.first) 1024 (omega arith)) rises.small;
    }

none_rise : (least : ℕ) → RisesFrom least []
none_rise least = record {
  rising = λ i j d up within. absurd (omega arith);
  above = λ k d within. absurd (omega arith);
  small = λ k d within. absurd (omega arith);
}

pub rising_sound : (least : ℕ) (runs : List Run) (ids : List ℕ) → rising_from least runs ≡ Some ids → RisesFrom least ids
rising_sound least [] ids e = let is : [] ≡ ids = cc in subst (RisesFrom least) is (none_rise least)
rising_sound least (run ∷ runs) ids e = by_test (λ more is. rising_sound (run.last + 1) runs more is) (is_run_from least run) refl where
  by_test : ((more : List ℕ) → rising_from (run.last + 1) runs ≡ Some more → RisesFrom (run.last + 1) more) → (t : Bool) → is_run_from least run ≡ t → RisesFrom least ids
  by_test rest true is =
      let m = mapped_to (rising_from (run.last + 1) runs) (λ more. numbers_of run ++ more) ids (rw is at e) in
      subst (RisesFrom least) m.2 (added_rises least run m.0 is (rest m.0 m.1))
  by_test rest false is = let none : None ≡ Some ids = rw is at e in absurd (cc)

pub cpus_sound : (word : List ℕ) (ids : List ℕ) → cpus_in word ≡ Some ids → AreCpus ids
cpus_sound word ids e =
    let runs = gives (runs_in word) (rising_from 0) ids e in
    let rises = rising_sound 0 runs.0 ids runs.2 in
    record { rising = rises.rising; small = rises.small }

-- numbers that rise are read from their runs

abbrev pub as_run : ℕ × ℕ → Run
as_run ends = record { first = ends.0; last = ends.1 }

abbrev pub as_runs : List (ℕ × ℕ) → List Run
as_runs rs = map as_run rs

goes_up : (least first last : ℕ) → least ≤ first → first ≤ last → last < 1024 → is_run_from least (as_run (first, last)) ≡ true
goes_up least first last low up few = grind (arith, nat_tests)

one_more : (first last : ℕ) → first ≤ last → range_with_len first (last + 1 - first) ≡ first ∷ range_with_len (first + 1) (last + 1 - (first + 1))
one_more first last up = let more : last + 1 - first ≡ suc (last + 1 - (first + 1)) = omega arith in rw more refl

alone : (first : ℕ) (more : List ℕ) → range_with_len first (first + 1 - first) ++ more ≡ first ∷ more
alone first more = let one : first + 1 - first ≡ 1 = omega arith in rw one refl

-- the first of numbers that rise, in front of the runs of the others
front_read : (least first : ℕ) (others : List ℕ) (rs : List (ℕ × ℕ)) → least ≤ first → first < 1024 → rising_from (first + 1) (as_runs rs) ≡ Some others
    → rising_from least (as_runs (continued first first rs)) ≡ Some (first ∷ others)
front_read least first others [] low few e =
    let none : [] ≡ others = cc in
    rw (goes_up least first first low (omega arith) few) (ap Some (alone first [] ∙ ap (λ l. first ∷ l) none))
front_read least first others (next ∷ rs) low few e = by_test (next.0 == first + 1) refl where
  inside : (t : Bool) → is_run_from (first + 1) (as_run next) ≡ t → (t ≡ true)
  inside true is = refl
  inside false is = let none : None ≡ Some others = rw is at e in absurd (cc)

  is_next : is_run_from (first + 1) (as_run next) ≡ true
  is_next = inside (is_run_from (first + 1) (as_run next)) refl

  by_test : (t : Bool) → (next.0 == first + 1) ≡ t → rising_from least (as_runs (if t then (first, next.1) ∷ rs else (first, first) ∷ next ∷ rs)) ≡ Some (first ∷ others)
  by_test true same =
      let m = mapped_to (rising_from (next.1 + 1) (as_runs rs)) (λ more. numbers_of (as_run next) ++ more) others (rw is_next at e) in
      let here : next.0 ≡ first + 1 = grind (arith, nat_tests) in
      let up : next.0 ≤ next.1 = grind (arith, nat_tests) in
      let small : next.1 < 1024 = grind (arith, nat_tests) in
      rw (goes_up least first next.1 low (omega arith) small, m.1)
      (ap Some (ap (λ l. l ++ m.0) (one_more first next.1 (omega arith))
      ∙ ap (λ n. first ∷ (range_with_len n (next.1 + 1 - n) ++ m.0)) (sym here) ∙ ap (λ l. first ∷ l) m.2))
  by_test false other =
      rw (goes_up least first first low (omega arith) few) (ap (option_map (λ more. range_with_len first (first + 1 - first) ++ more)) e
      ∙ ap Some (alone first others))

pub rising_back : (least : ℕ) (ids : List ℕ) → RisesFrom least ids → rising_from least (as_runs (runs ids)) ≡ Some ids
rising_back least [] rises = refl
rising_back least (first ∷ others) rises =
    front_read least first others (runs others) (rises.above 0 0 (omega arith)) (rises.small 0 0 (omega arith))
    (rising_back (first + 1) others (record {
      rising = λ i j d up within. rises.rising (suc i) (suc j) d (omega arith) (omega arith);
      above = λ k d within. let low = rises.rising 0 (suc k) d (omega arith) (omega arith) in omega arith;
      small = λ k d within. rises.small (suc k) d (omega arith);
    }))

pub ruleset rising_steps = (behind-none, behind-more, behind-bad, behind-end, adds_numbers, adds_below)
