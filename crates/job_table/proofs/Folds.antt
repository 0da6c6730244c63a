-- How it stands with several, one after the other.
use Rattle.std.proofs.Common.{◌≡◌, ℕ, ◌+◌, ◌<◌, Bool, true, false, ◌&&◌, ◌||◌, cond, List, [], ◌∷◌, ◌++◌, map, take, length, get_or, refl, ap, ◌∙◌}
use Rattle.std.specs.List.{filter, list_all, list_any}
use Rattle.std.proofs.lemmas.List.{append-nil, map-append, map_more}
use Rattle.std.proofs.lemmas.List.Elements.{filter_more}
use Rattle.std.proofs.lemmas.List.Folds.{list_all-append, list_any-append}
use Rattle.job_table.specs.declared.standing.Standing.{Standing}
use Rattle.job_table.specs.declared.standing.Standing.TheVariants.{Satisfied, Waiting, Never}
use Rattle.job_table.specs.Standing.{all_of, is_never, is_satisfied, one_of}

-- one more that is needed
abbrev all-by : Bool → Bool → Standing
all-by never satisfied = cond never Never (cond satisfied Satisfied Waiting)

all-by_more : (never satisfied : Bool) (y : Standing)
    → all-by (never || (is_never y || false)) (satisfied && (is_satisfied y && true))
    ≡ all_of (all-by never satisfied ∷ y ∷ [])
all-by_more true satisfied y = refl
all-by_more false true Satisfied = refl
all-by_more false true Waiting = refl
all-by_more false true Never = refl
all-by_more false false Satisfied = refl
all-by_more false false Waiting = refl
all-by_more false false Never = refl

all_of-push : (xs : List Standing) (y : Standing) → all_of (xs ++ y ∷ []) ≡ all_of (all_of xs ∷ y ∷ [])
all_of-push xs y =
    rw (list_any-append is_never xs (y ∷ []), list_all-append is_satisfied xs (y ∷ []))
    (all-by_more (list_any is_never xs) (list_all is_satisfied xs) y)

pub all_of-more : {X : Type 0} (f : X → Standing) (xs : List X) (i : ℕ) (d : X) → i < length xs
    → all_of (map f (take (i + 1) xs)) ≡ all_of (all_of (map f (take i xs)) ∷ f (get_or xs i d) ∷ [])
all_of-more f xs i d inside = ap all_of (map_more f xs i d inside) ∙ all_of-push (map f (take i xs)) (f (get_or xs i d))

-- one more that is enough
abbrev one-by : Bool → Bool → Standing
one-by satisfied never = cond satisfied Satisfied (cond never Never Waiting)

one-by_more : (satisfied never : Bool) (y : Standing)
    → one-by (satisfied || (is_satisfied y || false)) (never && (is_never y && true))
    ≡ one_of (one-by satisfied never ∷ y ∷ [])
one-by_more true never y = refl
one-by_more false true Satisfied = refl
one-by_more false true Waiting = refl
one-by_more false true Never = refl
one-by_more false false Satisfied = refl
one-by_more false false Waiting = refl
one-by_more false false Never = refl

one_of-push : (xs : List Standing) (y : Standing) → one_of (xs ++ y ∷ []) ≡ one_of (one_of xs ∷ y ∷ [])
one_of-push xs y =
    rw (list_any-append is_satisfied xs (y ∷ []), list_all-append is_never xs (y ∷ []))
    (one-by_more (list_any is_satisfied xs) (list_all is_never xs) y)

pub one_of-more : {X : Type 0} (f : X → Standing) (xs : List X) (i : ℕ) (d : X) → i < length xs
    → one_of (map f (take (i + 1) xs)) ≡ one_of (one_of (map f (take i xs)) ∷ f (get_or xs i d) ∷ [])
one_of-more f xs i d inside = ap one_of (map_more f xs i d inside) ∙ one_of-push (map f (take i xs)) (f (get_or xs i d))

-- one more, which a test finds, or doesn't
pub all_of-found : {X : Type 0} (f : X → Standing) (test : X → Bool) (xs : List X) (i : ℕ) (d : X) → i < length xs
    → test (get_or xs i d) ≡ true
    → all_of (map f (filter test (take (i + 1) xs)))
    ≡ all_of (all_of (map f (filter test (take i xs))) ∷ f (get_or xs i d) ∷ [])
all_of-found f test xs i d inside finds =
    let x = get_or xs i d in
    let front = filter test (take i xs) in
    let more : filter test (take (i + 1) xs) ≡ front ++ x ∷ [] =
    filter_more test xs i d inside ∙ ap (λ found. front ++ cond found (x ∷ []) []) finds in
    ap (λ found. all_of (map f found)) more ∙ ap all_of (map-append f front (x ∷ []))
    ∙ all_of-push (map f front) (f x)

pub all_of-passed : {X : Type 0} (f : X → Standing) (test : X → Bool) (xs : List X) (i : ℕ) (d : X) → i < length xs
    → test (get_or xs i d) ≡ false
    → all_of (map f (filter test (take (i + 1) xs))) ≡ all_of (map f (filter test (take i xs)))
all_of-passed f test xs i d inside passes =
    let front = filter test (take i xs) in
    let same : filter test (take (i + 1) xs) ≡ front =
    filter_more test xs i d inside ∙ ap (λ found. front ++ cond found (get_or xs i d ∷ []) []) passes
    ∙ append-nil front in
    ap (λ found. all_of (map f found)) same

pub ruleset steps = (all_of-more, one_of-more, all_of-found, all_of-passed)
