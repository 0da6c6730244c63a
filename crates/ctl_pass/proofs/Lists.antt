-- What holds of lists: each two elements, sums, ranges, and steps of loops.
use Rattle.std.proofs.lemmas.List.Concat.{get_or-flat_map}
use Rattle.std.proofs.lemmas.Bool.Decides.{nat_tests}
use Rattle.std.proofs.Common.{◌≡◌, ℕ, zero, suc, ◌+◌, ◌≤◌, ◌<◌, Bool, true, false, cond, eqb, List, [], ◌∷◌, length, map, filter, flat_map, sum_by, take, get_or, All, AllPairs, Any, Contains, arith, refl}
use Rattle.std.proofs.Common.{◌&&◌, ◌++◌, not, drop, ap, sym, ◌∙◌, inl, inr}
use Rattle.std.specs.List.{cons_option, list_any, range_with_len, list_all, zip}
use Rattle.std.proofs.lemmas.Bool.{cases_Bool, ne_eqb}
use Rattle.std.proofs.lemmas.List.{get_or-map, length-map, get_or-take, length-take, take-map, take_more, drop_more, map-append, get_or_default}
use Rattle.std.proofs.lemmas.List.Sums.{sum_by-cons, sum_by-append, length-filter, count_by-le-length}
use Rattle.std.proofs.lemmas.List.Folds.{fold-map, list_any_none, length-flat_map-take}
use Rattle.std.proofs.lemmas.List.Elements.{All-head, All-tail, All-nil, filter_map-append, All-map, All-filter, All-contains, filter_passes, All-append}
use Rattle.std.proofs.lemmas.List.FromFn.{length-range_with_len, get_or-range_with_len}
use Rattle.std.specs.Cmp.Lexicographic.{pointwise}
use Rattle.std.specs.Prelude.{slice_get, filter_map, Option, Some}
use Rattle.std.proofs.lemmas.Option.{get_or_from_slice_get, slice_get_within}
use Rattle.list_lemmas.proofs.Pairs.{pairs-head, pairs-tail}
use Rattle.list_lemmas.proofs.Sums.{sum_by-add, sum_by-larger, sum_by-none, sum_by-same}
use Rattle.list_lemmas.proofs.Ranges.{range-within}

pub pairs-take : {X : Type 0} (R : X → X → Type 0) (count : ℕ) (xs : List X) → AllPairs R xs
    → AllPairs R (take count xs)
pairs-take R count xs pairs i j d before below =
    let long = length-take count xs in
    rw (
      get_or-take count xs i d (omega (arith, before, below, long)),
      get_or-take count xs j d (omega (arith, below, long)),
    ) (pairs i j d before (omega (arith, below, long)))

pub pairs-map : {X Y : Type 0} (R : Y → Y → Type 0) (f : X → Y) (xs : List X)
    → AllPairs (λ one other. R (f one) (f other)) xs → AllPairs R (map f xs)
pairs-map R f [] pairs i j d before below = absurd (omega (arith, below))
pairs-map R f (x ∷ xs) pairs i j d before below =
    let inside : j < length (x ∷ xs) = omega (arith, below, length-map (x ∷ xs) f) in
    rw (get_or-map f (x ∷ xs) i x d (omega (arith, before, inside)), get_or-map f (x ∷ xs) j x d inside)
    (pairs i j x before inside)

-- what stands among the numbers of the elements that pass is the number of one that passes
pub Any-kept : {X : Type 0} (f : X → ℕ) (p : X → Bool) (y : ℕ) (xs : List X) → Contains (map f (filter p xs)) y
    → Any (λ x. (f x ≡ y) × (p x ≡ true)) xs
Any-kept f p y xs has =
    let Found : ℕ → Type 0 = λ z. Any (λ x. (f x ≡ z) × (p x ≡ true)) xs in
    let each : All (λ x. p x ≡ true → Found (f x)) xs =
    λ k d below passes. (k, get_or xs k d, below, get_or_default xs k (get_or xs k d) d below, (refl, passes)) in
    All-contains Found (map f (filter p xs)) y (All-map Found f (filter p xs)
    (λ k d below. All-filter p (λ x. p x ≡ true → Found (f x)) xs each k d below (filter_passes p xs k d below)))
    has

-- What is kept of a list and mapped stays the same where a change goes unseen, and only elements go that aren't kept.
pub kept-left : {X Y : Type 0} (f : X → Y) (keep goes : X → Bool) (change : X → X) (xs : List X)
    → ((x : X) → f (change x) ≡ f x) → ((x : X) → keep (change x) ≡ keep x)
    → ((x : X) → goes (change x) ≡ true → keep x ≡ false)
    → map f (filter keep (filter (λ x. not (goes x)) (map change xs))) ≡ map f (filter keep xs)
kept-left f keep goes change [] same kept idle = refl
kept-left f keep goes change (x ∷ xs) same kept idle =
    let next = kept-left f keep goes change xs same kept idle in
    elim (cases_Bool (goes (change x))) [
      | inl gone ↦ rw (gone, idle x gone) next
      | inr stays ↦ elim (cases_Bool (keep x)) [
        | inl holds ↦ rw (stays, kept x, holds, same x, next) refl
        | inr other ↦ rw (stays, kept x, other) next
      ]
    ]

-- larger terms have larger sums, and one more at one place a larger one
pub sum_by-more : {X : Type 0} (f g : X → ℕ) (xs : List X) → ((x : X) → f x ≤ g x) → Any (λ x. f x < g x) xs
    → sum_by f xs < sum_by g xs
sum_by-more f g [] larger any = absurd (omega (arith, any.2))
sum_by-more f g (x ∷ xs) larger (zero, y, inside, is, more) =
    let here : f x < g x = rw (← is) at more in
    omega (
      arith,
      sum_by-cons f x xs,
      sum_by-cons g x xs,
      here,
      sum_by-larger f g xs (λ k d below. larger (get_or xs k d)),
    )
sum_by-more f g (x ∷ xs) larger (suc k, y, inside, is, more) =
    omega (
      arith,
      sum_by-cons f x xs,
      sum_by-cons g x xs,
      larger x,
      sum_by-more f g xs larger (k, y, omega (arith, inside), is, more),
    )

-- equal terms have equal sums
pub sum_by-ones : {X : Type 0} (xs : List X) → sum_by (λ x. 1) xs ≡ length xs
sum_by-ones [] = refl
sum_by-ones (x ∷ xs) = omega (arith, sum_by-cons (λ y. 1) x xs, sum_by-ones xs)

-- a sum of sums in the other order
pub sum_by-map : {X Y : Type 0} (f : Y → ℕ) (h : X → Y) (xs : List X) → sum_by f (map h xs) ≡ sum_by (λ x. f (h x)) xs
sum_by-map f h xs = fold-map (λ total y. total + f y) h 0 xs

-- larger sums over the lists that two lists are joined of
pub joined-larger : {X Y Z : Type 0} (f : Y → ℕ) (g : Z → ℕ) (h : X → List Y) (k : X → List Z) (xs : List X)
    → All (λ x. sum_by f (h x) ≤ sum_by g (k x)) xs
    → sum_by f (flat_map h xs) ≤ sum_by g (flat_map k xs)
joined-larger f g h k [] larger = omega arith
joined-larger f g h k (x ∷ xs) larger =
    let least : _ → Type 0 = λ y. sum_by f (h y) ≤ sum_by g (k y) in
    omega (
      arith,
      sum_by-append f (h x) (flat_map h xs),
      sum_by-append g (k x) (flat_map k xs),
      All-head least x xs larger,
      joined-larger f g h k xs (All-tail least x xs larger),
    )

-- the numbers of a range rise, and are below its end
pub range-rises : (count : ℕ) → AllPairs (λ one other. one < other) (range_with_len 0 count)
range-rises count i j d before inside =
    let short : j < count = omega (arith, inside, length-range_with_len 0 count) in
    rw (get_or-range_with_len 0 count i d (omega (arith, before, short)), get_or-range_with_len 0 count j d short)
    (omega (arith, before))

pub range-below : (count : ℕ) → All (λ number. number < count) (range_with_len 0 count)
range-below count k d inside =
    let short : k < count = omega (arith, inside, length-range_with_len 0 count) in
    rw (get_or-range_with_len 0 count k d short) (omega (arith, short))

-- the numbers below the bound that stand in a rising list are as many as it has, where all its numbers are below the
-- bound
pub range-rising : (xs : List ℕ) (bound : ℕ) → AllPairs (λ one other. one < other) xs → All (λ x. x < bound) xs
    → sum_by (λ number. cond (list_any (λ x. eqb x number) xs) 1 0) (range_with_len 0 bound) ≡ length xs
range-rising [] bound rising below = sum_by-none (λ number. 0) (range_with_len 0 bound) (λ k d inside. refl)
range-rising (x ∷ xs) bound rising below =
    let rest = range-rising xs bound (pairs-tail (λ one other. one < other) x xs rising)
    (All-tail (λ y. y < bound) x xs below) in
    let first = range-within x 0 bound (omega arith) (omega (arith, All-head (λ y. y < bound) x xs below)) in
    let split = sum_by-add (λ number. cond (eqb x number) 1 0) (λ number. cond (list_any (λ y. eqb y number) xs) 1 0)
    (range_with_len 0 bound) in
    let above = pairs-head (λ one other. one < other) x xs rising in
    let each = sum_by-same (λ number. cond (list_any (λ y. eqb y number) (x ∷ xs)) 1 0)
    (λ number. cond (eqb x number) 1 0 + cond (list_any (λ y. eqb y number) xs) 1 0)
    (range_with_len 0 bound) (λ i e within.
    let number = get_or (range_with_len 0 bound) i e in
    let none : x ≡ number → list_any (λ y. eqb y number) xs ≡ false = λ is.
    list_any_none (λ y. eqb y number) xs (λ k d inside.
    ne_eqb (get_or xs k d) number (λ same. omega (arith, above k d inside, is, same))) in
    grind (arith, nat_tests, none)) in
    omega (arith, rest, first, split, each)

-- a list whose numbers rise from one bound to another isn't longer than that
pub length-rising : {X : Type 0} (f : X → ℕ) (low high : ℕ) (xs : List X) → low ≤ high
    → AllPairs (λ one other. f one < f other) xs → All (λ x. low ≤ f x) xs
    → All (λ x. f x < high) xs → length xs + low ≤ high
length-rising f low high [] le rising above below = omega arith
length-rising f low high (x ∷ xs) le rising above below =
    let first = All-head (λ y. f y < high) x xs below in
    let rest = length-rising f (f x + 1) high xs (omega arith) (pairs-tail (λ one other. f one < f other) x xs rising)
    (λ k d within. omega (arith, pairs-head (λ one other. f one < f other) x xs rising k d within))
    (All-tail (λ y. f y < high) x xs below) in
    omega (arith, All-head (λ y. low ≤ f y) x xs above)

-- lists of one length compared pair by pair
pub pointwise-zip : {X Y : Type 0} (same : X → Y → Bool) (xs : List X) (ys : List Y) → length xs ≡ length ys
    → list_all (λ (pair : X × Y). same pair.0 pair.1) (zip xs ys) ≡ pointwise same xs ys
pointwise-zip same [] [] e = refl
pointwise-zip same [] (y ∷ ys) e = absurd (omega (arith, e))
pointwise-zip same (x ∷ xs) [] e = absurd (omega (arith, e))
pointwise-zip same (x ∷ xs) (y ∷ ys) e = ap (λ rest. same x y && rest) (pointwise-zip same xs ys (omega (arith, e)))

-- one more element of a mapped list, of the kept ones, and of the joined lists
pub take-map-more : {X Y : Type 0} (f : X → Y) (xs : List X) (i : ℕ) (x : X) → i < length xs → x ≡ get_or xs i x
    → take (i + 1) (map f xs) ≡ take i (map f xs) ++ f x ∷ []
take-map-more f xs i x within is =
    rw (
      take-map f (i + 1) xs,
      take-map f i xs,
      take_more xs i x within,
      map-append f (take i xs) (get_or xs i x ∷ []),
      ← is,
    ) refl

pub filter_map-next : {X Y : Type 0} (h : X → Option Y) (xs : List X) (i : ℕ) (x : X) → i < length xs
    → x ≡ get_or xs i x
    → filter_map h (take (i + 1) xs) ≡ filter_map h (take i xs) ++ cons_option (h x) []
filter_map-next h xs i x within is =
    rw (take_more xs i x within, ← is, filter_map-append h (take i xs) (x ∷ [])) refl

-- the rest of a list from one element on
pub next : {X : Type 0} (xs : List X) (i : ℕ) (x : X) → i < length xs → x ≡ get_or xs i x
    → drop i xs ≡ x ∷ drop (i + 1) xs
next xs i x within is = drop_more xs i x within ∙ ap (λ first. first ∷ drop (i + 1) xs) (sym is)

-- a list mapped by functions that agree on it
pub All-joined : {X Y : Type 0} (P : Y → Type 0) (f : X → List Y) (xs : List X) → All P (flat_map f xs)
    → All (λ x. All P (f x)) xs
All-joined P f xs each k e below j d inside =
    rw (get_or-flat_map f xs k j e d below inside) at
    (each (length (flat_map f (take k xs)) + j) d (omega (arith, length-flat_map-take f xs k e below, inside)))

pub All-joins : {X Y : Type 0} (P : Y → Type 0) (f : X → List Y) (xs : List X) → All (λ x. All P (f x)) xs
    → All P (flat_map f xs)
All-joins P f [] each = All-nil P
All-joins P f (x ∷ xs) each =
    All-append P (f x) (flat_map f xs) (All-head (λ y. All P (f y)) x xs each)
    (All-joins P f xs (All-tail (λ y. All P (f y)) x xs each))

-- what holds of the element at a place
pub at-place : {X : Type 0} (P : X → Type 0) (xs : List X) (place : ℕ) (x : X) → All P xs → slice_get xs place ≡ Some x
    → P x
at-place P xs place x each is =
    rw (get_or_from_slice_get xs place x x is) at (each place x (slice_get_within xs place x is))

-- a filter keeps all just where every element passes
pub length-kept : {X : Type 0} (p : X → Bool) (xs : List X) → eqb (length (filter p xs)) (length xs) ≡ list_all p xs
length-kept p [] = refl
length-kept p (x ∷ xs) = elim (cases_Bool (p x)) [
  | inl passes ↦ rw passes (one_more (length (filter p xs)) (length xs) ∙ length-kept p xs)
  | inr fails ↦ rw fails (ne_eqb (length (filter p xs)) (length (x ∷ xs))
      (λ same. omega (arith, same, length-filter p xs, count_by-le-length p xs)))
]
  where
    one_more : (a b : ℕ) → eqb (suc a) (suc b) ≡ eqb a b
    one_more a b = grind (arith, nat_tests)

pub filter-whole : {X : Type 0} (p : X → Bool) (xs : List X) → length (filter p xs) ≡ length xs → filter p xs ≡ xs
filter-whole p [] all = refl
filter-whole p (x ∷ xs) all = grind (arith, nat_tests, filter-whole p xs, length-filter p xs, count_by-le-length p xs)
