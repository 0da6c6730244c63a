-- Members of which no two have one number, one more at a time.
use Rattle.std.proofs.Common.{◌≡◌, ℕ, ◌+◌, ◌<◌, Bool, true, false, ◌||◌, if◌then◌else◌, eqb, List, length, take, All, AllPairs, get_or, bytes_eq, Some, None, refl, sym, ap, ◌∙◌, arith}
use Rattle.std.specs.Prelude.{◌≢◌}
use Rattle.std.specs.List.{list_any, position}
use Rattle.std.proofs.lemmas.List.Quantifiers.{position-Some}
use Rattle.std.proofs.lemmas.Slice.Eq.{bytes_eq-Decides}
use Rattle.ctl_restore.proofs.Finding.{none-passes}
use Rattle.std.proofs.lemmas.Bool.{both_ways, eq-eqb, eqb-true}
use Rattle.std.proofs.lemmas.List.{get_or-take, get_or_default, length-take-le, take_more}
use Rattle.std.proofs.lemmas.List.Folds.{Any-from_list_any, list_any_at, list_any_more}
use Rattle.std.proofs.lemmas.List.Quantifiers.{all_pairs_push}

-- one that was seen is a member before
pub seen-twice : {X : Type 0} (number : X → ℕ) (xs : List X) (place : ℕ) (x : X) → place < length xs
    → x ≡ get_or xs place x → list_any (λ y. eqb (number y) (number x)) (take place xs) ≡ true
    → AllPairs (λ one other. number one ≢ number other) xs → ⊥
seen-twice number xs place x inside is seen apart =
    let (k, y, below, found, same) = Any-from_list_any (λ y. eqb (number y) (number x)) (take place xs) seen in
    let low : k < place = omega (arith, below, length-take-le place xs (omega (arith, inside))) in
    let here : get_or xs k y ≡ y = sym (get_or-take place xs k y low) ∙ found in
    let there : get_or xs place y ≡ x = get_or_default xs place y x inside ∙ sym is in
    apart k place y low inside
    (ap number here ∙ eqb-true (number y) (number x) same ∙ ap number (sym there))

-- one that wasn't seen is another than those before
pub pairs-more : {X : Type 0} (number : X → ℕ) (xs : List X) (place : ℕ) (x : X) → place < length xs
    → x ≡ get_or xs place x → list_any (λ y. eqb (number y) (number x)) (take place xs) ≡ false
    → AllPairs (λ one other. number one ≢ number other) (take place xs)
    → AllPairs (λ one other. number one ≢ number other) (take (place + 1) xs)
pairs-more {X} number xs place x inside is unseen apart =
    rw (take_more xs place x inside, ← is)
    (all_pairs_push (λ one other. number one ≢ number other) (take place xs) x apart
    (λ k d below same. both_ways (list_any (λ y. eqb (number y) (number x)) (take place xs)) unseen
    (list_any_at (λ y. eqb (number y) (number x)) (take place xs) k d below (eq-eqb (number (get_or (take place xs) k d)) (number x) same))))

pub seen-more : {X : Type 0} (number : X → ℕ) (xs : List X) (place n : ℕ) (x : X) → place < length xs
    → x ≡ get_or xs place x
    → list_any (λ y. eqb (number y) n) (take (place + 1) xs)
    ≡ (list_any (λ y. eqb (number y) n) (take place xs) || eqb (number x) n)
seen-more number xs place n x inside is =
    list_any_more (λ y. eqb (number y) n) xs place x inside
    ∙ ap (λ y. list_any (λ y. eqb (number y) n) (take place xs) || eqb (number y) n) (sym is)

-- what holds of each two holds of those before a member and of it; and once it does, of one member more
pub pairs-at : {X : Type 0} (R : X → X → Type 0) (xs : List X) (place : ℕ) (x : X) → place < length xs
    → x ≡ get_or xs place x → AllPairs R xs → All (λ y. R y x) (take place xs)
pairs-at R xs place x inside is pairs k d below =
    let low : k < place = omega (arith, below, length-take-le place xs (omega (arith, inside))) in
    let there : get_or xs place d ≡ x = get_or_default xs place d x inside ∙ sym is in
    rw (get_or-take place xs k d low) (rw there at (pairs k place d low inside))

pub pairs-next : {X : Type 0} (R : X → X → Type 0) (xs : List X) (place : ℕ) (x : X) → place < length xs
    → x ≡ get_or xs place x → AllPairs R (take place xs) → All (λ y. R y x) (take place xs)
    → AllPairs R (take (place + 1) xs)
pairs-next R xs place x inside is pairs one =
    rw (take_more xs place x inside, ← is) (all_pairs_push R (take place xs) x pairs one)

-- a name that leads to a member before stands twice
pub named-twice : {X : Type 0} (name_of : X → List ℕ) (xs : List X) (place : ℕ) (x : X) (k : ℕ) → place < length xs
    → x ≡ get_or xs place x → position (λ y. bytes_eq (name_of y) (name_of x)) (take place xs) ≡ Some k
    → AllPairs (λ one other. name_of one ≢ name_of other) xs → ⊥
named-twice name_of xs place x k inside is found apart =
    let at-k = position-Some (λ y. bytes_eq (name_of y) (name_of x)) (take place xs) k x found in
    pairs-at (λ one other. name_of one ≢ name_of other) xs place x inside is apart k x at-k.0
    ((bytes_eq-Decides _ _).0 at-k.1)

pub named-apart : {X : Type 0} (name_of : X → List ℕ) (xs : List X) (x : X)
    → position (λ y. bytes_eq (name_of y) (name_of x)) xs ≡ None → All (λ y. name_of y ≢ name_of x) xs
named-apart name_of xs x none k d below same =
    both_ways (bytes_eq (name_of (get_or xs k d)) (name_of x))
    (none-passes (λ y. bytes_eq (name_of y) (name_of x)) xs none k d below) ((bytes_eq-Decides _ _).1 same)

pub swapped : (a b : Bool) → (if a then true else b) ≡ (b || a)
swapped true true = refl
swapped true false = refl
swapped false true = refl
swapped false false = refl
