-- What a loop has gathered of a list, with one element more.
use Rattle.std.proofs.Common.{◌≡◌, ◌≢◌, ℕ, ◌+◌, ◌<◌, Bool, List, [], ◌∷◌, ◌++◌, length, take, map, filter, get_or, cond, if◌then◌else◌, true, false, All, AllPairs, Option, Some, None, refl, sym, ap, ◌∙◌, subst, arith}
use Rattle.std.specs.Prelude.{find, option_map, nat_eq, min, sum_by, drop, ◌-◌, ◌≤◌, ◌||◌}
use Rattle.std.specs.List.{list_any}
use Rattle.std.specs.Option.{option_or}
use Rattle.std.proofs.lemmas.Bool.Decides.{nat_tests}
use Rattle.std.proofs.lemmas.List.{take_more, take-append-drop, drop-take, take-take, map-append, length-take-le, get_or-take, get_or_default}
use Rattle.std.proofs.lemmas.List.Folds.{find-append, list_any-append, list_any_none}
use Rattle.std.proofs.lemmas.List.Sums.{sum_by_push}
use Rattle.std.proofs.lemmas.List.Elements.{filter-append, All-head, All-tail}
use Rattle.backfill_planner.specs.declared.Placed.{Placed}
use Rattle.ctl_show.specs.Showing.{planned_start}

pub map-filter-more : {X Y : Type 0} (f : X → Y) (p : X → Bool) (xs : List X) (i : ℕ) (x : X) → i < length xs
    → x ≡ get_or xs i x
    → map f (filter p (take (i + 1) xs)) ≡ map f (filter p (take i xs)) ++ map f (cond (p x) (x ∷ []) [])
map-filter-more f p xs i x below is = rw (take_more xs i x below, ← is, filter-append, map-append)

-- nothing is found where no member passes the test
find-none : {X : Type 0} (p : X → Bool) (xs : List X) → All (λ x. p x ≡ false) xs → find p xs ≡ None
find-none p [] none = refl
find-none p (x ∷ xs) none =
    rw (All-head (λ x. p x ≡ false) x xs none) (find-none p xs (All-tail (λ x. p x ≡ false) x xs none))

-- what is planned for a job, with one more placement
pub planned-more : (plan : List Placed) (i : ℕ) (placed : Placed) (id : ℕ) (was now : Option ℕ)
    → AllPairs (λ (one other : Placed). one.id ≢ other.id) plan
    → i < length plan → placed ≡ get_or plan i placed
    → was ≡ planned_start (take i plan) id → now ≡ (if nat_eq placed.id id then Some placed.start else was)
    → now ≡ planned_start (take (i + 1) plan) id
planned-more plan i placed id was now once below is before after =
    rw (take_more plan i placed below, ← is, find-append, after, before)
    (by (find (λ (one : Placed). nat_eq one.id id) (take i plan)) (nat_eq placed.id id) alone) where
      by : (found : Option Placed) (here : Bool) → (here ≡ true → found ≡ None)
          → cond here (Some placed.start) (option_map (λ (one : Placed). one.start) found)
          ≡ option_map (λ (one : Placed). one.start) (option_or found (cond here (Some placed) None))
      by None true none = refl
      by None false none = refl
      by (Some one) true none = absurd (let never = none refl in cc)
      by (Some one) false none = refl

      alone : nat_eq placed.id id ≡ true → find (λ (one : Placed). nat_eq one.id id) (take i plan) ≡ None
      alone same = find-none (λ (one : Placed). nat_eq one.id id) (take i plan) (λ k d inside.
          let first : k < i = omega (arith, inside, length-take-le i plan (omega (arith, below))) in
          rw (get_or-take i plan k d first)
          (grind (arith, nat_tests, once k i d first below, get_or_default plan i d placed below)))

-- a count that stands still at its type's end, with so many more, and with what one more member counts
pub capped : (a b most : ℕ) → min (min a most + b) most ≡ min (a + b) most
capped a b most = omega arith

pub count-more : {X : Type 0} (f : X → ℕ) (xs : List X) (i : ℕ) (x : X) (most count next : ℕ) → i < length xs
    → x ≡ get_or xs i x
    → count ≡ min (sum_by f (take i xs)) most → next ≡ min (count + f x) most
    → next ≡ min (sum_by f (take (i + 1) xs)) most
count-more f xs i x most count next below is counted more =
    rw (take_more xs i x below, ← is, sum_by_push f (take i xs) x)
    (more ∙ ap (λ n. min (n + f x) most) counted ∙ capped (sum_by f (take i xs)) (f x) most)

-- a test of the members at places from the first to the end, where no member before and behind passes it
pub list_any-cut : {X : Type 0} (p : X → Bool) (xs : List X) (first end : ℕ) → first ≤ end
    → All (λ x. p x ≡ false) (take first xs) → All (λ x. p x ≡ false) (drop end xs)
    → list_any p (take (end - first) (drop first xs)) ≡ list_any p xs
list_any-cut {X = X} p xs first end in_order before behind =
    ap (list_any p) (sym middle) ∙ sym (split first (take end xs) ∙ front) ∙ sym (split end xs ∙ back) where
      split : (n : ℕ) (ys : List X) → list_any p ys ≡ (list_any p (take n ys) || list_any p (drop n ys))
      split n ys = ap (list_any p) (sym (take-append-drop n ys)) ∙ list_any-append p (take n ys) (drop n ys)

      middle : drop first (take end xs) ≡ take (end - first) (drop first xs)
      middle =
          let whole : first + (end - first) ≡ end = omega arith in
          subst (λ n. drop first (take n xs) ≡ take (end - first) (drop first xs)) whole
          (drop-take first (end - first) xs)

      front : (list_any p (take first (take end xs)) || list_any p (drop first (take end xs)))
          ≡ list_any p (drop first (take end xs))
      front = rw (take-take first end xs in_order, list_any_none p (take first xs) before) refl

      or-false : (b : Bool) → (b || false) ≡ b
      or-false true = refl
      or-false false = refl

      back : (list_any p (take end xs) || list_any p (drop end xs)) ≡ list_any p (take end xs)
      back = rw (list_any_none p (drop end xs) behind) (or-false (list_any p (take end xs)))
