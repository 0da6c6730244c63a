-- What the edits of the ends keep, and how they count.
use Rattle.std.proofs.Common.{◌≡◌, ◌≢◌, ℕ, ◌+◌, ◌-◌, ◌≤◌, ◌<◌, suc, true, false, cond, eqb, List, [], ◌∷◌, length, sum_by, get_or, slice_set, arith, refl, ap, ◌∙◌, inl, inr}
use Rattle.std.specs.List.{insert, remove}
use Rattle.std.proofs.lemmas.Bool.{cases_lt, cases_Bool, eqb-true}
use Rattle.std.proofs.lemmas.List.{get_or_default}
use Rattle.std.proofs.lemmas.List.Sums.{sum_by-cons, sum_by-set, get_or-le-sum_by}
use Rattle.std.proofs.lemmas.List.Elements.{All-cons, All-tail}
use Rattle.std.proofs.lemmas.List.Sorted.{sum_by-IsPermutation, All-permutation, IsPermutation-insert, IsPermutation-remove}
use Rattle.resource_profile.specs.declared.ends.End.{End}
use Rattle.resource_profile.specs.Ends.{HasEnds, IsNextOf, ends_at}
use Rattle.resource_profile.proofs.Rising.{rising-order, insert-rises, remove-rises}

-- what is counted is there
pub counted-some : {X : Type 0} (count : X → ℕ) (xs : List X) (i : ℕ) (d : X) → i < length xs → 1 ≤ count (get_or xs i d) → 1 ≤ sum_by count xs
counted-some count xs i d inside one = omega (arith, one, get_or-le-sum_by count xs i d inside)

pub record IsCounted {X : Type 0} (count : X → ℕ) (xs : List X) : Type 0 where
  pub place : ℕ
  pub inside : place < length xs
  pub one : (d : X) → 1 ≤ count (get_or xs place d)

pub some-counted : {X : Type 0} (count : X → ℕ) (xs : List X) → 1 ≤ sum_by count xs → IsCounted count xs
some-counted count [] some = absurd (omega arith)
some-counted count (x ∷ xs) some = elim (cases_lt 0 (count x)) [
  | inl here ↦ record { place = 0; inside = omega arith; one = λ d. omega (arith, here) }
  | inr none ↦
      let rest = some-counted count xs (omega (arith, some, none, sum_by-cons count x xs)) in
      record { place = suc rest.place; inside = omega (arith, rest.inside); one = rest.one }
]

pub tests-eq : (a b n : ℕ) → 1 ≤ cond (eqb a b) n 0 → a ≡ b
tests-eq a b n some = elim (cases_Bool (eqb a b)) [
  | inl same ↦ eqb-true a b same
  | inr not_same ↦ absurd (omega (arith, rw not_same at some))
]

-- the last end up to a moment at which holds end is at it
pub record IsLastAt (ends : List End) (place moment : ℕ) : Type 0 where
  pub some : 0 < place
  pub within : place - 1 < length ends
  pub is : (d : End) → (get_or ends (place - 1) d).moment ≡ moment

pub last-at : (ends : List End) (place moment : ℕ) → HasEnds ends → 1 ≤ ends_at ends moment → place ≤ length ends → ((i : ℕ) (d : End) → i < place → (get_or ends i d).moment ≤ moment) → ((i : ℕ) (d : End) → place ≤ i → i < length ends → moment < (get_or ends i d).moment) → IsLastAt ends place moment
last-at ends place moment has counted bound before after =
    let found = some-counted (λ (end : End). cond (eqb end.moment moment) end.count 0) ends counted in
    let here : (d : End) → (get_or ends found.place d).moment ≡ moment = λ d. tests-eq _ moment _ (found.one d) in
    let none : End = record { moment = 0; count = 0 } in
    elim (cases_lt found.place place) [
      | inl below ↦ record {
        some = omega (arith, below);
        within = omega (arith, below, bound);
        is = λ d. omega (
          arith,
          before (place - 1) d (omega (arith, below)),
          rising-order (λ (end : End). end.moment) ends (place - 1) found.place d has.rising (omega (arith, below)) (omega (arith, below, bound)),
          here d,
        );
      }
      | inr above ↦ absurd (omega (arith, after found.place none above found.inside, here none))
    ]

-- a hold less at the end
pub lowered-counts : (ends : List End) (place moment other : ℕ) (read : End) → HasEnds ends → IsLastAt ends place moment → read ≡ get_or ends (place - 1) read → ends_at (slice_set ends (place - 1) (record { moment = read.moment; count = read.count - 1 })) other + cond (eqb moment other) 1 0 ≡ ends_at ends other
lowered-counts ends place moment other read has is read_is =
    let after : End = record { moment = read.moment; count = read.count - 1 } in
    let counted = rw (← read_is) at (sum_by-set (λ (end : End). cond (eqb end.moment other) end.count 0) ends (place - 1) after read is.within) in
    let same : read.moment ≡ moment = ap (λ (end : End). end.moment) read_is ∙ is.is read in
    let some : 1 ≤ read.count = rw (← read_is) at (has.some (place - 1) read is.within) in
    elim (cases_Bool (eqb moment other)) [
      | inl on ↦
          let on_read : eqb read.moment other ≡ true = rw same on in
          rw on (omega (arith, some, rw on_read at counted))
      | inr off ↦
          let off_read : eqb read.moment other ≡ false = rw same off in
          rw off (omega (arith, rw off_read at counted))
    ]

-- a new end at its place
pub insert-has : (ends : List End) (place : ℕ) (new : End) → HasEnds ends → place ≤ length ends → 1 ≤ new.count → ((i : ℕ) (d : End) → i < place → (get_or ends i d).moment ≤ new.moment) → ((i : ℕ) (d : End) → place ≤ i → i < length ends → new.moment < (get_or ends i d).moment) → ((d : End) → 0 < place → (get_or ends (place - 1) d).moment ≢ new.moment) → HasEnds (insert ends place new)
insert-has ends place new has within some before after apart = record {
  rising = insert-rises (λ (end : End). end.moment) ends place new has.rising within
      (λ i d low. omega (
        arith,
        rising-order (λ (end : End). end.moment) ends (place - 1) i d has.rising (omega (arith, low)) (omega (arith, low, within)),
        before (place - 1) d (omega (arith, low)),
        apart d (omega (arith, low)),
      )) after;
  some = All-permutation (λ (end : End). 1 ≤ end.count) (new ∷ ends) (insert ends place new) (IsPermutation-insert ends place new) (All-cons (λ (end : End). 1 ≤ end.count) new ends some has.some);
}

pub insert-counts : (ends : List End) (place moment other : ℕ) → ends_at (insert ends place (record { moment = moment; count = 1 })) other ≡ ends_at ends other + cond (eqb moment other) 1 0
insert-counts ends place moment other =
    let new : End = record { moment = moment; count = 1 } in
    let counts = λ (end : End). cond {A = ℕ} (eqb end.moment other) end.count 0 in
    omega (arith, sum_by-IsPermutation counts (new ∷ ends) (insert ends place new) (IsPermutation-insert ends place new), sum_by-cons counts new ends)

-- without the end at a place
pub remove-has : (ends : List End) (place : ℕ) → HasEnds ends → place < length ends → HasEnds (remove ends place)
remove-has ends place has within =
    let none : End = record { moment = 0; count = 0 } in
    let read = get_or ends place none in
    let moved = IsPermutation-remove ends place read within (get_or_default ends place none read within) in
    record {
      rising = remove-rises (λ (end : End). end.moment) ends place has.rising within;
      some = All-tail (λ (end : End). 1 ≤ end.count) read (remove ends place) (All-permutation (λ (end : End). 1 ≤ end.count) ends (read ∷ remove ends place) moved has.some);
    }

pub remove-counts : (ends : List End) (place moment other : ℕ) (read : End) → HasEnds ends → IsLastAt ends place moment → read ≡ get_or ends (place - 1) read → read.count ≤ 1 → ends_at (remove ends (place - 1)) other + cond (eqb moment other) 1 0 ≡ ends_at ends other
remove-counts ends place moment other read has is read_is few =
    let counts = λ (end : End). cond {A = ℕ} (eqb end.moment other) end.count 0 in
    let some : 1 ≤ read.count = rw (← read_is) at (has.some (place - 1) read is.within) in
    let one : read.count ≡ 1 = omega (arith, some, few) in
    let same : read.moment ≡ moment = ap (λ (end : End). end.moment) read_is ∙ is.is read in
    let first : counts read ≡ cond (eqb moment other) 1 0 = ap (λ n. cond (eqb n other) read.count 0) same ∙ ap (λ n. cond (eqb moment other) n 0) one in
    omega (arith, first, sum_by-cons counts read (remove ends (place - 1)), sum_by-IsPermutation counts ends (read ∷ remove ends (place - 1)) (IsPermutation-remove ends (place - 1) read is.within read_is))

-- the first end behind those up to a moment
pub next-is : (ends : List End) (place after : ℕ) (d : End) → HasEnds ends → place < length ends → ((i : ℕ) (d : End) → i < place → (get_or ends i d).moment ≤ after) → ((i : ℕ) (d : End) → place ≤ i → i < length ends → after < (get_or ends i d).moment) → IsNextOf ends after (get_or ends place d).moment
next-is ends place after d has within early late =
    let read = get_or ends place d in
    let is : (other : End) → get_or ends place other ≡ read = λ other. get_or_default ends place other d within in
    record {
      later = late place d (omega arith) within;
      has = (place, read, within, is read, refl);
      least = λ k other inside later. elim (cases_lt k place) [
        | inl below ↦ absurd (omega (arith, early k other below, later))
        | inr above ↦ rw is at (rising-order (λ (end : End). end.moment) ends k place other has.rising above inside)
      ];
    }
