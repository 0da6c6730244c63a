-- The first of all sets that fits is the chosen one.
use Rattle.std.proofs.Common.{◌≡◌, ℕ, ◌+◌, ◌≤◌, ◌<◌, zero, suc, Bool, true, false, cond, ◌&&◌, eqb, ltb, leb, List, [], ◌∷◌, ◌++◌, length, map, All, Contains, arith, refl, ap, inl, inr, Option, Some, None}
use Rattle.std.specs.Prelude.{find, option_map, MatchOption}
use Rattle.std.specs.List.{list_all}
use Rattle.std.proofs.lemmas.Bool.{cases_order, cases_lt, le-ltb, eq-eqb, ne_eqb, eqb-true, leb-true, le-leb, and_parts, and_from}
use Rattle.std.proofs.lemmas.List.Folds.{Any-from_list_any, list_any-from_Any}
use Rattle.std.proofs.lemmas.List.Sums.{AllPass-from_list_all, list_all-from_AllPass}
use Rattle.std.proofs.lemmas.List.Elements.{All-head, All-tail, All-weaker}
use Rattle.std.proofs.lemmas.List.{get_or_past}
use Rattle.resource_profile.specs.declared.picking.Need.{Need}
use Rattle.resource_profile.specs.Sets.{capacity, tasks_given, IsRisingFrom, Fits, IsBefore, IsChosen}
use Rattle.resource_profile.specs.Choosing.{numbers_from, filled_sets, sets, has, fits, chosen}
use Rattle.resource_profile.specs.Chosen.{IsChosen-unique}

-- the first of two that is there
abbrev first_there : Option (List ℕ) → Option (List ℕ) → Option (List ℕ)
first_there None other = other
first_there (Some set) other = Some set

-- places in order, from `low` on and before `high`
abbrev pub IsWithin : ℕ → ℕ → List ℕ → Type 0
IsWithin low high [] = Unit {0}
IsWithin low high (place ∷ later) = (low ≤ place) × (place < high) × IsWithin (place + 1) high later

-- and one at least
abbrev pub IsFilled : ℕ → ℕ → List ℕ → Type 0
IsFilled low high [] = ⊥
IsFilled low high (place ∷ later) = (low ≤ place) × (place < high) × IsWithin (place + 1) high later

within-from_filled : (low high : ℕ) (set : List ℕ) → IsFilled low high set → IsWithin low high set
within-from_filled low high [] filled = tt
within-from_filled low high (place ∷ later) filled = filled

filled_lower : (low high : ℕ) (set : List ℕ) → IsFilled (low + 1) high set → IsFilled low high set
filled_lower low high [] filled = filled
filled_lower low high (place ∷ later) filled = (omega (arith, filled.0), filled.1, filled.2)

-- no set is before the empty one
none_before : (set : List ℕ) → ¬ IsBefore set []
none_before [] before = cc
none_before (place ∷ set) before = cc

-- a set that is before another and doesn't begin lower begins as it does
begins_same : (low place : ℕ) (rest later : List ℕ) → low ≤ place → IsBefore (place ∷ later) (low ∷ rest) → (place ≡ low) × IsBefore later rest
begins_same low place rest later from before = elim (cases_order place low) [
  | inl e ↦
      let same : place ≡ low = e in
      let not_low : ltb place low ≡ false = le-ltb place low (omega arith) in
      let equal : eqb place low ≡ true = eq-eqb place low same in
      (same, rw (not_low, equal) at before)
  | inr apart ↦ elim apart [
    | inl below ↦ absurd (omega (arith, below, from))
    | inr above ↦
        let not_low : ltb place low ≡ false = le-ltb place low (omega (arith, above)) in
        let not_equal : eqb place low ≡ false = ne_eqb place low (λ same. omega (arith, above, same)) in
        let wrong = rw (not_low, not_equal) at before in
        absurd cc
  ]
]

-- what passes the test and is before no other that does
pub record IsFirst (test : List ℕ → Bool) (low high : ℕ) (found : List ℕ) : Type 0 where
  pub filled : IsFilled low high found
  pub passes : test found ≡ true
  pub first : (other : List ℕ) → IsFilled low high other → test other ≡ true → ¬ IsBefore other found

abbrev pub IsFound : (List ℕ → Bool) → ℕ → ℕ → Option (List ℕ) → Type 0
IsFound test low high None = (set : List ℕ) → IsFilled low high set → test set ≡ false
IsFound test low high (Some found) = IsFirst test low high found

-- where no set that begins with `low` passes
fails_at_low : (test : List ℕ → Bool) (low high place : ℕ) (later : List ℕ) → place ≡ low → IsWithin (place + 1) high later → test (low ∷ []) ≡ false → ((set : List ℕ) → IsFilled (low + 1) high set → test (low ∷ set) ≡ false) → test (place ∷ later) ≡ false
fails_at_low test low high place [] same within alone with_low = rw same alone
fails_at_low test low high place (next ∷ later) same within alone with_low = rw same (with_low (next ∷ later) (omega (arith, within.0, same), within.1, within.2))

found_step : (test : List ℕ → Bool) (low high : ℕ) (single : Bool) (with_low without : Option (List ℕ)) → low < high → test (low ∷ []) ≡ single
    → IsFound (λ set. test (low ∷ set)) (low + 1) high with_low → IsFound test (low + 1) high without
    → IsFound test low high (cond single (Some (low ∷ [])) (first_there (option_map (λ set. low ∷ set) with_low) without))
found_step test low high true with_low without below alone first second = record {
  filled = (omega arith, below, tt);
  passes = alone;
  first = first_is;
} where
  first_is : (other : List ℕ) → IsFilled low high other → test other ≡ true → ¬ IsBefore other (low ∷ [])
  first_is [] filled passes before = absurd filled
  first_is (place ∷ later) filled passes before = none_before later (begins_same low place [] later filled.0 before).1
found_step test low high false (Some rest) without below alone first second = record {
  filled = (omega arith, below, within-from_filled (low + 1) high rest first.filled);
  passes = first.passes;
  first = first_is;
} where
  first_is : (other : List ℕ) → IsFilled low high other → test other ≡ true → ¬ IsBefore other (low ∷ rest)
  first_is [] filled passes before = absurd filled
  first_is (place ∷ []) filled passes before =
      let same = (begins_same low place rest [] filled.0 before).0 in
      let failed : test (place ∷ []) ≡ false = rw same alone in
      absurd cc
  first_is (place ∷ next ∷ later) filled passes before =
      let parts = begins_same low place rest (next ∷ later) filled.0 before in
      let same = parts.0 in
      first.first (next ∷ later) (omega (arith, filled.2.0, same), filled.2.1, filled.2.2) (rw same at passes) parts.1
found_step test low high false None (Some found) below alone first second = record {
  filled = filled_lower low high found second.filled;
  passes = second.passes;
  first = first_is;
} where
  first_is : (other : List ℕ) → IsFilled low high other → test other ≡ true → ¬ IsBefore other found
  first_is [] filled passes before = absurd filled
  first_is (place ∷ later) filled passes before = elim (cases_lt low place) [
    | inl above ↦ second.first (place ∷ later) (omega (arith, above), filled.1, filled.2) passes before
    | inr at ↦
        let failed = fails_at_low test low high place later (omega (arith, at, filled.0)) filled.2 alone first in
        absurd cc
  ]
found_step test low high false None None below alone first second = none
  where
    none : (set : List ℕ) → IsFilled low high set → test set ≡ false
    none [] filled = absurd filled
    none (place ∷ later) filled = elim (cases_lt low place) [
      | inl above ↦ second (place ∷ later) (omega (arith, above), filled.1, filled.2)
      | inr at ↦ fails_at_low test low high place later (omega (arith, at, filled.0)) filled.2 alone first
    ]

find-map : (test : List ℕ → Bool) (f : List ℕ → List ℕ) (xs : List (List ℕ)) → find test (map f xs) ≡ option_map f (find (λ set. test (f set)) xs)
find-map test f [] = refl
find-map test f (x ∷ xs) = by (test (f x)) (find-map test f xs)
  where
    by : (b : Bool) → find test (map f xs) ≡ option_map f (find (λ set. test (f set)) xs) → cond b (Some (f x)) (find test (map f xs)) ≡ option_map f (cond b (Some x) (find (λ set. test (f set)) xs))
    by true same = refl
    by false same = same

find-joined : (test : List ℕ → Bool) (xs ys : List (List ℕ)) → find test (xs ++ ys) ≡ first_there (find test xs) (find test ys)
find-joined test [] ys = refl
find-joined test (x ∷ xs) ys = by (test x) (find-joined test xs ys)
  where
    by : (b : Bool) → find test (xs ++ ys) ≡ first_there (find test xs) (find test ys) → cond b (Some x) (find test (xs ++ ys)) ≡ first_there (cond b (Some x) (find test xs)) (find test ys)
    by true same = refl
    by false same = same

pub found_filled : (test : List ℕ → Bool) (low count high : ℕ) → low + count ≡ high → IsFound test low high (find test (filled_sets (numbers_from low count)))
unfolding filled_sets numbers_from
found_filled test low zero high whole = none
  where
    none : (set : List ℕ) → IsFilled low high set → test set ≡ false
    none [] filled = absurd filled
    none (place ∷ later) filled = absurd (omega (arith, filled.0, filled.1))
found_filled test low (suc count) high whole =
    let later = filled_sets (numbers_from (low + 1) count) in
    rw (find-joined test (map (λ set. low ∷ set) later) later, find-map test (λ set. low ∷ set) later)
    (found_step test low high (test (low ∷ [])) (find (λ set. test (low ∷ set)) later) (find test later) (omega arith) refl
    (found_filled (λ set. test (low ∷ set)) (low + 1) count high (omega arith))
    (found_filled test (low + 1) count high (omega arith)))

-- a rising set of places that give is within the places
within-from_rising : (caps : List ℕ) (low : ℕ) (set : List ℕ) → IsRisingFrom low set → All (λ place. 1 ≤ capacity caps place) set → IsWithin low (length caps) set
within-from_rising caps low [] rising giving = tt
within-from_rising caps low (place ∷ later) rising giving =
    let here = All-head (λ place. 1 ≤ capacity caps place) place later giving in
    (rising.0, in_range place here, within-from_rising caps (place + 1) later rising.1 (All-tail (λ place. 1 ≤ capacity caps place) place later giving))
  where
    in_range : (place : ℕ) → 1 ≤ capacity caps place → place < length caps
    in_range place here = elim (cases_lt place (length caps)) [
      | inl below ↦ below
      | inr past ↦ absurd (omega (arith, here, get_or_past caps place 0 past))
    ]

rising-from_within : (low high : ℕ) (set : List ℕ) → IsWithin low high set → IsRisingFrom low set
rising-from_within low high [] within = tt
rising-from_within low high (place ∷ later) within = (within.0, rising-from_within (place + 1) high later within.2)

contains-from_has : (set : List ℕ) (place : ℕ) → has set place ≡ true → Contains set place
contains-from_has set place holds =
    let any = Any-from_list_any (λ other. eqb other place) set holds in
    let same : any.1 ≡ place = eqb-true any.1 place any.4 in
    (any.0, any.2, rw same at any.3)

has-from_contains : (set : List ℕ) (place : ℕ) → Contains set place → has set place ≡ true
has-from_contains set place holds = list_any-from_Any (λ other. eqb other place) set (holds.0, place, holds.1, holds.2, eq-eqb place place refl)

required-at : (set : List ℕ) (low count place : ℕ) → list_all (λ p. has set p) (numbers_from low count) ≡ true → low ≤ place → place < low + count → has set place ≡ true
unfolding numbers_from
required-at set low zero place all from below = absurd (omega arith)
required-at set low (suc count) place all from below =
    let parts = and_parts (has set low) (list_all (λ p. has set p) (numbers_from (low + 1) count)) all in
    elim (cases_lt low place) [
      | inl above ↦ required-at set (low + 1) count place parts.1 (omega (arith, above)) (omega (arith, below))
      | inr at ↦ let same : place ≡ low = omega (arith, at, from) in rw same parts.0
    ]

required-all : (set : List ℕ) (low count : ℕ) → ((place : ℕ) → low ≤ place → place < low + count → has set place ≡ true) → list_all (λ p. has set p) (numbers_from low count) ≡ true
unfolding numbers_from
required-all set low zero each = refl
required-all set low (suc count) each =
    and_from (has set low) (list_all (λ p. has set p) (numbers_from (low + 1) count)) (each low (omega arith) (omega arith))
    (required-all set (low + 1) count (λ place from below. each place (omega (arith, from)) (omega (arith, below))))

Fits-from_fits : (caps : List ℕ) (need : Need) (set : List ℕ) → IsRisingFrom 0 set → fits caps need set ≡ true → Fits caps need set
unfolding fits
Fits-from_fits caps need set rising passes =
    let counts = leb need.least (length set) && leb (length set) need.most in
    let few = leb (length set) need.tasks && counts in
    let enough = leb need.tasks (tasks_given caps set) && few in
    let giving = list_all (λ place. leb 1 (capacity caps place)) set && enough in
    let all = and_parts (list_all (λ place. has set place) (numbers_from 0 need.required)) giving passes in
    let first = and_parts (list_all (λ place. leb 1 (capacity caps place)) set) enough all.1 in
    let second = and_parts (leb need.tasks (tasks_given caps set)) few first.1 in
    let third = and_parts (leb (length set) need.tasks) counts second.1 in
    let fourth = and_parts (leb need.least (length set)) (leb (length set) need.most) third.1 in
    record {
      rising = rising;
      required = λ place below. contains-from_has set place (required-at set 0 need.required place all.0 (omega arith) (omega (arith, below)));
      giving = All-weaker (λ place. leb 1 (capacity caps place) ≡ true) (λ place. 1 ≤ capacity caps place) (λ place test. leb-true 1 (capacity caps place) test) set (AllPass-from_list_all (λ place. leb 1 (capacity caps place)) set first.0);
      enough = leb-true need.tasks (tasks_given caps set) second.0;
      at_most_tasks = leb-true (length set) need.tasks third.0;
      at_least = leb-true need.least (length set) fourth.0;
      at_most = leb-true (length set) need.most fourth.1;
    }

fits-from_Fits : (caps : List ℕ) (need : Need) (set : List ℕ) → Fits caps need set → fits caps need set ≡ true
unfolding fits
fits-from_Fits caps need set is =
    let counts = leb need.least (length set) && leb (length set) need.most in
    let few = leb (length set) need.tasks && counts in
    let enough = leb need.tasks (tasks_given caps set) && few in
    let giving = list_all (λ place. leb 1 (capacity caps place)) set && enough in
    and_from (list_all (λ place. has set place) (numbers_from 0 need.required)) giving
    (required-all set 0 need.required (λ place from below. has-from_contains set place (is.required place (omega (arith, below)))))
    (and_from (list_all (λ place. leb 1 (capacity caps place)) set) enough
    (list_all-from_AllPass (λ place. leb 1 (capacity caps place)) set (All-weaker (λ place. 1 ≤ capacity caps place) (λ place. leb 1 (capacity caps place) ≡ true) (λ place one. le-leb 1 (capacity caps place) one) set is.giving))
    (and_from (leb need.tasks (tasks_given caps set)) few (le-leb need.tasks (tasks_given caps set) is.enough)
    (and_from (leb (length set) need.tasks) counts (le-leb (length set) need.tasks is.at_most_tasks)
    (and_from (leb need.least (length set)) (leb (length set) need.most) (le-leb need.least (length set) is.at_least) (le-leb (length set) need.most is.at_most)))))

-- which set the choice gives, whatever the search over the sets that aren't empty finds
chosen-by : (caps : List ℕ) (need : Need) (empty : Bool) (later : Option (List ℕ)) → fits caps need [] ≡ empty → IsFound (λ set. fits caps need set) 0 (length caps) later
    → MatchOption (cond empty (Some []) later) ((set : List ℕ) → ¬ Fits caps need set) (IsChosen caps need)
chosen-by caps need true later passes found = record {
  fits = Fits-from_fits caps need [] tt passes;
  first = λ other fits before. none_before other before;
}
chosen-by caps need false (Some set) passes found = record {
  fits = Fits-from_fits caps need set (rising-from_within 0 (length caps) set (within-from_filled 0 (length caps) set found.filled)) found.passes;
  first = first_is;
} where
  first_is : (other : List ℕ) → Fits caps need other → ¬ IsBefore other set
  first_is [] is before = let passed = fits-from_Fits caps need [] is in absurd cc
  first_is (place ∷ later) is before =
      found.first (place ∷ later) (within-from_rising caps 0 (place ∷ later) is.rising is.giving) (fits-from_Fits caps need (place ∷ later) is) before
chosen-by caps need false None passes found = none
  where
    none : (set : List ℕ) → ¬ Fits caps need set
    none [] is = let passed = fits-from_Fits caps need [] is in absurd cc
    none (place ∷ later) is =
        let passed = fits-from_Fits caps need (place ∷ later) is in
        let failed = found (place ∷ later) (within-from_rising caps 0 (place ∷ later) is.rising is.giving) in
        absurd cc

pub chosen-is : (caps : List ℕ) (need : Need) → MatchOption (chosen caps need) ((set : List ℕ) → ¬ Fits caps need set) (IsChosen caps need)
unfolding chosen sets
chosen-is caps need =
    chosen-by caps need (fits caps need []) (find (λ set. fits caps need set) (filled_sets (numbers_from 0 (length caps)))) refl
    (found_filled (λ set. fits caps need set) 0 (length caps) (length caps) (omega arith))

pub chosen-some : (caps : List ℕ) (need : Need) (set : List ℕ) → chosen caps need ≡ Some set → IsChosen caps need set
chosen-some caps need set is = rw is at (chosen-is caps need)

pub chosen-none : (caps : List ℕ) (need : Need) (set : List ℕ) → chosen caps need ≡ None → ¬ Fits caps need set
chosen-none caps need set is = (rw is at (chosen-is caps need)) set

chosen-one : (caps : List ℕ) (need : Need) (found : Option (List ℕ)) (set : List ℕ) → MatchOption found ((set : List ℕ) → ¬ Fits caps need set) (IsChosen caps need) → IsChosen caps need set → found ≡ Some set
chosen-one caps need None set none is = absurd (none set is.fits)
chosen-one caps need (Some found) set found_is is = ap (λ s. Some s) (IsChosen-unique caps need found set found_is is)

pub chosen-unique : (caps : List ℕ) (need : Need) (set : List ℕ) → IsChosen caps need set → chosen caps need ≡ Some set
chosen-unique caps need set is = chosen-one caps need (chosen caps need) set (chosen-is caps need) is

chosen-nothing : (caps : List ℕ) (need : Need) (found : Option (List ℕ)) → MatchOption found ((set : List ℕ) → ¬ Fits caps need set) (IsChosen caps need) → ((set : List ℕ) → ¬ Fits caps need set) → found ≡ None
chosen-nothing caps need None is none = refl
chosen-nothing caps need (Some set) is none = absurd (none set is.fits)

pub chosen-none_fits : (caps : List ℕ) (need : Need) → ((set : List ℕ) → ¬ Fits caps need set) → chosen caps need ≡ None
chosen-none_fits caps need none = chosen-nothing caps need (chosen caps need) (chosen-is caps need) none
