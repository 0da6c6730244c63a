-- Lists of which a member has something, and counts of members.
use Rattle.std.proofs.Common.{ℕ, zero, suc, ◌≡◌, ◌≤◌, ◌+◌, ◌∙◌, Bool, true, false, ltb, List, [], ◌∷◌, ◌++◌, map, length, count_by, filter, find, get_or, position, slice_get, cond, All, Any, Option, Some, None, is_some, ◌||◌, option_and_then, refl, sym, ap, subst, arith, inl, inr, ◌⊎◌}
use Rattle.std.specs.List.{list_any, position_or_len}
use Rattle.std.proofs.lemmas.Bool.{cases_Bool, cond_both, both_ways, ltb-false, or_from}
use Rattle.std.proofs.lemmas.List.Elements.{All-head, All-tail}
use Rattle.std.proofs.lemmas.List.Folds.{find_at}
use Rattle.std.proofs.lemmas.List.Quantifiers.{position-Some}
use Rattle.std.proofs.lemmas.List.Sums.{sum_by-append}
use Rattle.std.proofs.lemmas.Option.{slice_get-get_or, slice_get_past}
use Rattle.list_lemmas.proofs.Sums.{count-cons as count_cons}

-- ---- a member that has something

pub any_none : {X : Type 0} (P : X → Type 0) → Any P [] → ⊥
any_none P (k, y, below, is, has) = omega (arith, below)

pub any_here : {X : Type 0} (P : X → Type 0) (x : X) (xs : List X) → P x → Any P (x ∷ xs)
any_here P x xs has = (0, x, omega arith, refl, has)

pub any_there : {X : Type 0} (P : X → Type 0) (x : X) (xs : List X) → Any P xs → Any P (x ∷ xs)
any_there P x xs (k, y, below, is, has) = (suc k, y, omega (arith, below), is, has)

pub any_cases : {X : Type 0} (P : X → Type 0) (x : X) (xs : List X) → Any P (x ∷ xs) → P x ⊎ Any P xs
any_cases P x xs (zero, y, below, is, has) = inl (subst P (sym is) has)
any_cases P x xs (suc k, y, below, is, has) = inr (k, y, omega (arith, below), is, has)

-- what one member of a list has, another has that it is mapped to
pub any_map : {X Y : Type 0} (R P : X → Type 0) (Q : Y → Type 0) (f : X → Y) (xs : List X)
    → ((x : X) → R x → P x → Q (f x)) → All R xs → Any P xs → Any Q (map f xs)
any_map R P Q f [] on all any = absurd (any_none P any)
any_map R P Q f (x ∷ xs) on all any = elim (any_cases P x xs any) [
  | inl here ↦ any_here Q (f x) (map f xs) (on x (All-head R x xs all) here)
  | inr later ↦ any_there Q (f x) (map f xs) (any_map R P Q f xs on (All-tail R x xs all) later)
]

pub any_filter : {X : Type 0} (R P : X → Type 0) (p : X → Bool) (xs : List X)
    → ((x : X) → R x → P x → p x ≡ true) → All R xs → Any P xs → Any P (filter p xs)
any_filter R P p [] on all any = any
any_filter R P p (x ∷ xs) on all any = elim (any_cases P x xs any) [
  | inl here ↦ rw (on x (All-head R x xs all) here) (any_here P x (filter p xs) here)
  | inr later ↦
      let rest = any_filter R P p xs on (All-tail R x xs all) later in
      cond_both (p x) (x ∷ filter p xs) (filter p xs) (Any P) (λ stays. any_there P x (filter p xs) rest)
      (λ goes. rest)
]

pub any_weaker : {X : Type 0} (P Q : X → Type 0) (xs : List X) → ((x : X) → P x → Q x) → Any P xs → Any Q xs
any_weaker P Q xs on (k, y, below, is, has) = (k, y, below, is, on y has)

pub any_left : {X : Type 0} (P : X → Type 0) (xs ys : List X) → Any P xs → Any P (xs ++ ys)
any_left P [] ys any = absurd (any_none P any)
any_left P (x ∷ xs) ys any = elim (any_cases P x xs any) [
  | inl here ↦ any_here P x (xs ++ ys) here
  | inr later ↦ any_there P x (xs ++ ys) (any_left P xs ys later)
]

pub any_right : {X : Type 0} (P : X → Type 0) (xs ys : List X) → Any P ys → Any P (xs ++ ys)
any_right P [] ys any = any
any_right P (x ∷ xs) ys any = any_there P x (xs ++ ys) (any_right P xs ys any)

-- ---- what all members have

-- what holds of all and of one that has something holds of one
pub any_of_all : {X : Type 0} (R P : X → Type 0) (Q : Type 0) (xs : List X) → ((x : X) → R x → P x → Q) → All R xs
    → Any P xs → Q
any_of_all R P Q [] on all any = absurd (any_none P any)
any_of_all R P Q (x ∷ xs) on all any = elim (any_cases P x xs any) [
  | inl here ↦ on x (All-head R x xs all) here
  | inr later ↦ any_of_all R P Q xs on (All-tail R x xs all) later
]

-- ---- counts

pub count_yes : {X : Type 0} (p : X → Bool) (x : X) (xs : List X) → p x ≡ true
    → count_by p (x ∷ xs) ≡ 1 + count_by p xs
count_yes p x xs is = count_cons p x xs ∙ ap (λ b. cond b 1 0 + count_by p xs) is

pub count_no : {X : Type 0} (p : X → Bool) (x : X) (xs : List X) → p x ≡ false
    → count_by p (x ∷ xs) ≡ count_by p xs
count_no p x xs is = omega (arith, count_cons p x xs ∙ ap (λ b. cond b 1 0 + count_by p xs) is)

pub count_append : {X : Type 0} (p : X → Bool) (xs ys : List X)
    → count_by p (xs ++ ys) ≡ count_by p xs + count_by p ys
count_append p xs ys = sum_by-append (λ y. cond (p y) 1 0) xs ys

pub count_filter : {X Y : Type 0} (q : Y → Bool) (f : X → Y) (p : X → Bool) (xs : List X)
    → count_by q (map f (filter p xs)) ≤ count_by q (map f xs)
count_filter q f p [] = omega arith
count_filter q f p (x ∷ xs) =
    let rest = count_filter q f p xs in
    let whole = count_cons q (f x) (map f xs) in
    elim (cases_Bool (p x)) [
      | inl stays ↦ rw stays (omega (arith, rest, whole, count_cons q (f x) (map f (filter p xs))))
      | inr goes ↦ rw goes (omega (arith, rest, whole))
    ]

pub count_kept : {X : Type 0} (q p : X → Bool) (xs : List X) → count_by q (filter p xs) ≤ count_by q xs
count_kept q p [] = omega arith
count_kept q p (x ∷ xs) =
    let rest = count_kept q p xs in
    let whole = count_cons q x xs in
    elim (cases_Bool (p x)) [
      | inl stays ↦ rw stays (omega (arith, rest, whole, count_cons q x (filter p xs)))
      | inr goes ↦ rw goes (omega (arith, rest, whole))
    ]

-- where none counts, none passes
pub none_counts : {X : Type 0} (p : X → Bool) (xs : List X) → count_by p xs ≤ 0 → list_any p xs ≡ false
none_counts p [] none = refl
none_counts p (x ∷ xs) none = elim (cases_Bool (p x)) [
  | inl passes ↦ absurd (omega (arith, count_yes p x xs passes, none))
  | inr fails ↦
      or_from (p x) (list_any p xs) fails (none_counts p xs (omega (arith, count_cons p x xs, none)))
]

-- where one passes, one counts
pub one_counts : {X : Type 0} (p : X → Bool) (xs : List X) → list_any p xs ≡ true → 1 ≤ count_by p xs
one_counts p [] any = absurd (both_ways false refl any)
one_counts p (x ∷ xs) any = elim (cases_Bool (p x)) [
  | inl passes ↦ omega (arith, count_yes p x xs passes)
  | inr fails ↦ omega (arith, count_cons p x xs, one_counts p xs (rw fails at any))
]

-- and where one has what passes
pub any_counts : {X : Type 0} (P : X → Type 0) (p : X → Bool) (xs : List X) → ((x : X) → P x → p x ≡ true)
    → Any P xs → 1 ≤ count_by p xs
any_counts P p [] on any = absurd (any_none P any)
any_counts P p (x ∷ xs) on any = elim (any_cases P x xs any) [
  | inl here ↦ omega (arith, count_yes p x xs (on x here))
  | inr later ↦ omega (arith, count_cons p x xs, any_counts P p xs on later)
]

-- ---- the first that passes

-- it stands at the first place
pub record IsFirst {X : Type 0} (p : X → Bool) (xs : List X) (x : X) : Type 0 where
  pub place : ℕ
  pub first : position p xs ≡ Some place
  pub is : slice_get xs place ≡ Some x

pub find_place : {X : Type 0} (p : X → Bool) (xs : List X) → find p xs ≡ option_and_then (slice_get xs) (position p xs)
find_place p xs = find_at p xs ∙ at (ltb (position_or_len p xs) (length xs)) refl
  where
    at : (b : Bool) → ltb (position_or_len p xs) (length xs) ≡ b
        → slice_get xs (position_or_len p xs)
        ≡ option_and_then (slice_get xs)
        (cond (ltb (position_or_len p xs) (length xs)) (Some (position_or_len p xs)) None)
    at true below = rw below refl
    at false past =
        rw past (slice_get_past xs (position_or_len p xs) (ltb-false (position_or_len p xs) (length xs) past))

-- what stands at the first place is the first
pub found_in : {X : Type 0} (p : X → Bool) (xs : List X) (x : X)
    → option_and_then (slice_get xs) (position p xs) ≡ Some x → IsFirst p xs x
found_in {X} p xs x found = by (position p xs) refl found
  where
    by : (at : Option ℕ) → position p xs ≡ at → option_and_then (slice_get xs) at ≡ Some x → IsFirst p xs x
    by None is never = absurd (let no = never in cc)
    by (Some place) is there = record { place = place; first = is; is = there }

pub found_at : {X : Type 0} (p : X → Bool) (xs : List X) (x : X) → find p xs ≡ Some x → IsFirst p xs x
found_at p xs x found = found_in p xs x (sym (find_place p xs) ∙ found)

-- where nothing stands there, there is no such place
pub none_in : {X : Type 0} (p : X → Bool) (xs : List X) → option_and_then (slice_get xs) (position p xs) ≡ None
    → position p xs ≡ None
none_in p [] none = refl
none_in p (x ∷ xs) none = by (position p (x ∷ xs)) refl none
  where
    by : (at : Option ℕ) → position p (x ∷ xs) ≡ at → option_and_then (slice_get (x ∷ xs)) at ≡ None → at ≡ None
    by None is nothing = refl
    by (Some place) is nothing =
        let there = slice_get-get_or (x ∷ xs) place x (position-Some p (x ∷ xs) place x is).0 in
        absurd (let never : Some (get_or (x ∷ xs) place x) ≡ None = sym there ∙ nothing in cc)

pub none_at : {X : Type 0} (p : X → Bool) (xs : List X) → find p xs ≡ None → position p xs ≡ None
none_at p xs none = none_in p xs (sym (find_place p xs) ∙ none)

-- one passes exactly where there is a first one
any-found : {X : Type 0} (p : X → Bool) (xs : List X) → list_any p xs ≡ is_some (find p xs)
any-found p [] = refl
any-found p (x ∷ xs) = by (p x) (any-found p xs)
  where
    by : (b : Bool) → list_any p xs ≡ is_some (find p xs) → (b || list_any p xs) ≡ is_some (cond b (Some x) (find p xs))
    by true rest = refl
    by false rest = rest

pub any_is : {X : Type 0} (p : X → Bool) (xs : List X) → list_any p xs ≡ is_some (position p xs)
any_is {X} p xs = any-found p xs ∙ by (find p xs) refl
  where
    by : (found : Option X) → find p xs ≡ found → is_some found ≡ is_some (position p xs)
    by None none = ap is_some (sym (none_at p xs none))
    by (Some x) is = ap is_some (sym (found_at p xs x is).first)

-- the first that passes is the same where only those are left out that fail
pub find_kept : {X : Type 0} (p q : X → Bool) (xs : List X) → ((x : X) → p x ≡ true → q x ≡ true)
    → find p (filter q xs) ≡ find p xs
find_kept p q [] all = refl
find_kept p q (x ∷ xs) all = elim (cases_Bool (q x)) [
  | inl stays ↦ rw stays (ap (λ rest. cond (p x) (Some x) rest) (find_kept p q xs all))
  | inr goes ↦ rw goes (find_kept p q xs all ∙ sym (ap (λ b. cond b (Some x) (find p xs)) (fails (p x) refl goes)))
]
  where
    fails : (b : Bool) → p x ≡ b → q x ≡ false → p x ≡ false
    fails true is goes = absurd (both_ways (q x) goes (all x is))
    fails false is goes = is

-- and there is none where all are left out that pass
pub find_none : {X : Type 0} (p q : X → Bool) (xs : List X) → ((x : X) → p x ≡ true → q x ≡ false)
    → find p (filter q xs) ≡ None
find_none p q [] all = refl
find_none p q (x ∷ xs) all = elim (cases_Bool (q x)) [
  | inl stays ↦ rw stays (ap (λ b. cond b (Some x) (find p (filter q xs))) (fails (p x) refl stays) ∙ find_none p q xs all)
  | inr goes ↦ rw goes (find_none p q xs all)
]
  where
    fails : (b : Bool) → p x ≡ b → q x ≡ true → p x ≡ false
    fails true is stays = absurd (both_ways (q x) (all x is) stays)
    fails false is stays = is
