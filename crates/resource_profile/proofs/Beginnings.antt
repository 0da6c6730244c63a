-- How a beginning of a set grows, and what it says of the sets that fit.
use Rattle.std.proofs.Common.{◌≡◌, ◌≢◌, ℕ, ◌+◌, ◌≤◌, ◌<◌, ◌⊎◌, List, [], ◌∷◌, ◌++◌, length, min, All, Contains, inl, inr, refl, sym, ap, subst, arith, ⊎_elim, ltb, eqb, false, true, zero, suc}
use Rattle.std.proofs.lemmas.Bool.{cases_lt, le-ltb, eq-eqb, ne_eqb}
use Rattle.std.proofs.lemmas.List.{append_assoc, append-nil, length_push, get_or_past}
use Rattle.std.proofs.lemmas.List.Elements.{All-head, All-tail, All-push, All-weaker, All-contains, All-nil, All-cons, Contains-push, Contains-append_left, Contains-append_cases}
use Rattle.resource_profile.specs.declared.picking.Need.{Need}
use Rattle.resource_profile.specs.Sets.{capacity, tasks_given, IsRisingFrom, Fits, IsBefore, IsChosen}
use Rattle.resource_profile.specs.Beginnings.{GoesOn, GoesOnOrComesAfter, IsBeginning, IsRequiredBeginning, IsLeastBeginning}

pub IsRisingFrom-push : (low from : ℕ) (begun : List ℕ) → low ≤ from → IsRisingFrom low begun → All (λ place. place < from) begun → IsRisingFrom low (begun ++ from ∷ [])
IsRisingFrom-push low from [] low_from rising below = (low_from, tt)
IsRisingFrom-push low from (place ∷ begun) low_from rising below =
    let here : place < from = All-head (λ p. p < from) place begun below in
    (rising.0, IsRisingFrom-push (place + 1) from begun (omega arith) rising.1 (All-tail (λ p. p < from) place begun below))

pub IsRisingFrom-at_least : (low : ℕ) (set : List ℕ) → IsRisingFrom low set → All (λ place. low ≤ place) set
IsRisingFrom-at_least low [] rising = All-nil (λ place. low ≤ place)
IsRisingFrom-at_least low (place ∷ later) rising =
    let here : low ≤ place = rising.0 in
    All-cons (λ p. low ≤ p) place later here (All-weaker (λ p. place + 1 ≤ p) (λ p. low ≤ p) (λ p h. omega arith) later (IsRisingFrom-at_least (place + 1) later rising.1))

-- a set that goes on and isn't just the beginning takes the next place, or comes after those that do
pub GoesOnOrComesAfter-take : (from : ℕ) (begun set : List ℕ) → GoesOnOrComesAfter from begun set → set ≢ begun → GoesOnOrComesAfter (from + 1) (begun ++ from ∷ []) set
GoesOnOrComesAfter-take from [] [] goes_on other = absurd (other refl)
GoesOnOrComesAfter-take from [] (place ∷ set) goes_on other =
    let low : from ≤ place = goes_on.0 in
    elim (cases_lt from place) [
      | inl above ↦ inl above
      | inr below ↦ let e : place ≡ from = omega arith in inr (sym e, let P : ℕ → Type 0 = λ n. IsRisingFrom (n + 1) set in subst P e goes_on.1)
    ]
GoesOnOrComesAfter-take from (place ∷ begun) [] goes_on other = goes_on
GoesOnOrComesAfter-take from (place ∷ begun) (first ∷ set) goes_on other =
    elim goes_on [
      | inl before ↦ inl before
      | inr same ↦ inr (same.0, GoesOnOrComesAfter-take from begun set same.1 (λ e. other (let p : place ≡ first = same.0 in cc)))
    ]

-- a place that no set takes which goes on is passed
pub GoesOnOrComesAfter-pass : (from : ℕ) (begun set : List ℕ) → GoesOnOrComesAfter from begun set → ((later : List ℕ) → IsRisingFrom (from + 1) later → set ≢ begun ++ from ∷ later) → GoesOnOrComesAfter (from + 1) begun set
GoesOnOrComesAfter-pass from [] [] goes_on never = tt
GoesOnOrComesAfter-pass from [] (place ∷ set) goes_on never =
    let low : from ≤ place = goes_on.0 in
    elim (cases_lt from place) [
      | inl above ↦ (omega arith, goes_on.1)
      | inr below ↦
          let e : place ≡ from = omega arith in
          absurd (never set (let P : ℕ → Type 0 = λ n. IsRisingFrom (n + 1) set in subst P e goes_on.1) (ap (λ n. n ∷ set) e))
    ]
GoesOnOrComesAfter-pass from (place ∷ begun) [] goes_on never = goes_on
GoesOnOrComesAfter-pass from (place ∷ begun) (first ∷ set) goes_on never =
    elim goes_on [
      | inl before ↦ inl before
      | inr same ↦ inr (same.0, GoesOnOrComesAfter-pass from begun set same.1 (λ later rising e. never later rising (let p : place ≡ first = same.0 in cc)))
    ]

pub GoesOnOrComesAfter-append : (from : ℕ) (begun later : List ℕ) → IsRisingFrom from later → GoesOnOrComesAfter from begun (begun ++ later)
GoesOnOrComesAfter-append from [] later rising = rising
GoesOnOrComesAfter-append from (place ∷ begun) later rising = inr (refl, GoesOnOrComesAfter-append from begun later rising)

later_first : (place first : ℕ) (begun set : List ℕ) → place < first → IsBefore (first ∷ set) (place ∷ begun) → ⊥
later_first place first begun set above before =
    let below : ltb first place ≡ false = le-ltb first place (omega arith) in
    let apart : eqb first place ≡ false = ne_eqb first place (λ e. absurd (omega arith)) in
    let less = rw (below, apart) at before in
    cc

same_first : (place first : ℕ) (begun set : List ℕ) → place ≡ first → IsBefore (first ∷ set) (place ∷ begun) → IsBefore set begun
same_first place first begun set same before =
    let below : ltb first place ≡ false = le-ltb first place (omega arith) in
    let equal : eqb first place ≡ true = eq-eqb first place (sym same) in
    rw (below, equal) at before

-- what goes on or comes after isn't before the beginning
pub not_before : (from : ℕ) (begun set : List ℕ) → GoesOnOrComesAfter from begun set → IsBefore set begun → ⊥
not_before from [] [] goes_on before = cc
not_before from [] (place ∷ set) goes_on before = cc
not_before from (place ∷ begun) [] goes_on before = elim goes_on [ ]
not_before from (place ∷ begun) (first ∷ set) goes_on before =
    elim goes_on [
      | inl above ↦ later_first place first begun set above before
      | inr same ↦ not_before from begun set same.1 (same_first place first begun set same.0 before)
    ]

-- the beginning with one more place
pub IsBeginning-take : (caps : List ℕ) (from : ℕ) (begun : List ℕ) → IsBeginning caps from begun → 1 ≤ capacity caps from → IsBeginning caps (from + 1) (begun ++ from ∷ [])
IsBeginning-take caps from begun beginning giving = record {
  rising = IsRisingFrom-push 0 from begun (omega arith) beginning.rising beginning.below;
  below = All-push (λ p. p < from + 1) begun from (All-weaker (λ p. p < from) (λ p. p < from + 1) (λ p h. omega arith) begun beginning.below) (omega arith);
  giving = All-push (λ p. 1 ≤ capacity caps p) begun from beginning.giving giving;
}

pub IsBeginning-pass : (caps : List ℕ) (from : ℕ) (begun : List ℕ) → IsBeginning caps from begun → IsBeginning caps (from + 1) begun
IsBeginning-pass caps from begun beginning = record {
  rising = beginning.rising;
  below = All-weaker (λ p. p < from) (λ p. p < from + 1) (λ p h. omega arith) begun beginning.below;
  giving = beginning.giving;
}

Contains-cons_cases : (place : ℕ) (later : List ℕ) (from : ℕ) → Contains (place ∷ later) from → (from ≡ place) ⊎ Contains later from
Contains-cons_cases place later from (zero, low, is) = inl (sym is)
Contains-cons_cases place later from (suc index, low, is) = let below : index < length later = omega arith in inr (index, below, is)

-- where the next place is taken from a set that goes on, as it has it
goes_on_with : (from : ℕ) (begun later set : List ℕ) → set ≡ begun ++ later → IsRisingFrom from later → All (λ place. place < from) begun → Contains set from → GoesOn (from + 1) (begun ++ from ∷ []) set
goes_on_with from begun [] set joined rising below has =
    let here : Contains begun from = rw (joined, append-nil) at has in
    absurd (omega (arith, All-contains (λ p. p < from) begun from below here))
goes_on_with from begun (place ∷ later) set joined rising below has =
    let low : from ≤ place = rising.0 in
    let high = IsRisingFrom-at_least (place + 1) later rising.1 in
    let there : Contains (begun ++ place ∷ later) from = rw joined at has in
    let same : from ≡ place =
    ⊎_elim {C = from ≡ place}
    (λ (h : Contains begun from). absurd (omega (arith, All-contains (λ p. p < from) begun from below h)))
    (λ (h : Contains (place ∷ later) from). ⊎_elim {C = from ≡ place}
    (λ (e : from ≡ place). e)
    (λ (h : Contains later from). absurd (omega (arith, All-contains (λ p. place + 1 ≤ p) later from high h)))
    (Contains-cons_cases place later from h))
    (Contains-append_cases begun (place ∷ later) from there) in
    record {
      later = later;
      joined = rw (joined, same) (sym (append_assoc begun (place ∷ []) later));
      rising = let P : ℕ → Type 0 = λ n. IsRisingFrom (n + 1) later in subst P (sym same) rising.1;
    }

pub IsRequiredBeginning-none : (caps : List ℕ) (need : Need) → IsRequiredBeginning caps need 0 []
IsRequiredBeginning-none caps need = record {
  beginning = record { rising = tt; below = All-nil (λ p. p < 0); giving = All-nil (λ p. 1 ≤ capacity caps p) };
  whole = refl;
  required = λ place low. absurd (omega arith);
  others = λ set fits. record { later = set; joined = refl; rising = fits.rising };
}

pub IsRequiredBeginning-take : (caps : List ℕ) (need : Need) (from : ℕ) (begun : List ℕ) → IsRequiredBeginning caps need from begun → 1 ≤ capacity caps from → from < need.required → IsRequiredBeginning caps need (from + 1) (begun ++ from ∷ [])
IsRequiredBeginning-take caps need from begun so_far giving low = record {
  beginning = IsBeginning-take caps from begun so_far.beginning giving;
  whole = omega (arith, length_push begun from, so_far.whole);
  required = λ place below. elim (cases_lt place from) [
    | inl under ↦ Contains-append_left begun (from ∷ []) place (so_far.required place under)
    | inr over ↦ let e : place ≡ from = omega arith in let P : ℕ → Type 0 = λ n. Contains (begun ++ from ∷ []) n in subst P (sym e) (Contains-push begun from)
  ];
  others = λ set fits. let on = so_far.others set fits in goes_on_with from begun on.later set on.joined on.rising so_far.beginning.below (fits.required from low);
}

-- a required place that gives no task leaves no set
pub none_from_empty_place : (caps : List ℕ) (need : Need) (place : ℕ) → place < need.required → capacity caps place ≡ 0 → (set : List ℕ) → Fits caps need set → ⊥
none_from_empty_place caps need place low empty set fits =
    omega (arith, All-contains (λ p. 1 ≤ capacity caps p) set place fits.giving (fits.required place low))

-- a set of rising places that holds each from `low` on and below `high` has so many
length-rising : (low high : ℕ) (set : List ℕ) → IsRisingFrom low set → ((place : ℕ) → low ≤ place → place < high → Contains set place) → high ≤ low + length set
length-rising low high [] rising holds = elim (cases_lt low high) [
  | inl below ↦ let has = holds low (omega arith) below in absurd (omega (arith, has.1))
  | inr above ↦ omega arith
]
length-rising low high (place ∷ later) rising holds = elim (cases_lt low high) [
  | inl below ↦
      let first : place ≡ low = elim (Contains-cons_cases place later low (holds low (omega arith) below)) [
        | inl e ↦ sym e
        | inr has ↦ absurd (omega (arith, rising.0, All-contains (λ p. place + 1 ≤ p) later low (IsRisingFrom-at_least (place + 1) later rising.1) has))
      ] in
      let rest = length-rising (place + 1) high later rising.1 (λ p p_low p_high. elim (Contains-cons_cases place later p (holds p (omega (arith, rising.0, p_low)) p_high)) [
        | inl e ↦ let same : p ≡ place = e in absurd (omega arith)
        | inr has ↦ has
      ]) in
      omega (arith, rest, first)
  | inr above ↦ omega arith
]

-- more required places than there are, or than a set may have, leave no set
pub none_from_required : (caps : List ℕ) (need : Need) → (length caps < need.required) ⊎ (min need.most need.tasks < need.required) → (set : List ℕ) → Fits caps need set → ⊥
none_from_required caps need many set fits =
    elim many [
      | inl past ↦ none_from_empty_place caps need (length caps) past (get_or_past caps (length caps) 0 (omega arith)) set fits
      | inr more ↦
          let h : min need.most need.tasks < need.required = more in
          omega (arith, h, length-rising 0 need.required set fits.rising (λ place low high. fits.required place high), fits.at_most, fits.at_most_tasks)
    ]

pub IsLeastBeginning-from_required : (caps : List ℕ) (need : Need) (begun : List ℕ) → IsRequiredBeginning caps need need.required begun → IsLeastBeginning caps need need.required begun
IsLeastBeginning-from_required caps need begun so_far = record {
  beginning = so_far.beginning;
  required = so_far.required;
  others = λ set fits. let on = so_far.others set fits in rw on.joined (GoesOnOrComesAfter-append need.required begun on.later on.rising);
}

pub IsLeastBeginning-take : (caps : List ℕ) (need : Need) (from : ℕ) (begun : List ℕ) → IsLeastBeginning caps need from begun → 1 ≤ capacity caps from → (Fits caps need begun → ⊥) → IsLeastBeginning caps need (from + 1) (begun ++ from ∷ [])
IsLeastBeginning-take caps need from begun so_far giving unfit = record {
  beginning = IsBeginning-take caps from begun so_far.beginning giving;
  required = λ place low. Contains-append_left begun (from ∷ []) place (so_far.required place low);
  others = λ set fits. GoesOnOrComesAfter-take from begun set (so_far.others set fits) (λ e. unfit (subst (Fits caps need) e fits));
}

pub IsLeastBeginning-pass : (caps : List ℕ) (need : Need) (from : ℕ) (begun : List ℕ) → IsLeastBeginning caps need from begun → ((later : List ℕ) → IsRisingFrom (from + 1) later → Fits caps need (begun ++ from ∷ later) → ⊥) → IsLeastBeginning caps need (from + 1) begun
IsLeastBeginning-pass caps need from begun so_far never = record {
  beginning = IsBeginning-pass caps from begun so_far.beginning;
  required = so_far.required;
  others = λ set fits. GoesOnOrComesAfter-pass from begun set (so_far.others set fits) (λ later rising e. never later rising (subst (Fits caps need) e fits));
}

-- a beginning that fits is the chosen set
pub IsChosen-from_beginning : (caps : List ℕ) (need : Need) (from : ℕ) (begun : List ℕ) → IsLeastBeginning caps need from begun → need.tasks ≤ tasks_given caps begun → length begun ≤ need.tasks → need.least ≤ length begun → length begun ≤ need.most → IsChosen caps need begun
IsChosen-from_beginning caps need from begun so_far enough at_most_tasks at_least at_most = record {
  fits = record {
    rising = so_far.beginning.rising;
    required = so_far.required;
    giving = so_far.beginning.giving;
    enough = enough;
    at_most_tasks = at_most_tasks;
    at_least = at_least;
    at_most = at_most;
  };
  first = λ other fits before. not_before from begun other (so_far.others other fits) before;
}
