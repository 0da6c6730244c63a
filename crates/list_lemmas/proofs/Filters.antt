-- Lists of which some elements are kept.
use Rattle.std.proofs.Common.{All, Bool, List, [], ap, arith, drop, false, filter, length, refl, sym, take, true, ℕ, ◌++◌, ◌+◌, ◌∙◌, ◌∷◌, ◌≡◌, ◌≤◌}
use Rattle.std.proofs.lemmas.List.{append-nil, take-append-drop}
use Rattle.std.proofs.lemmas.List.Elements.{All-head, All-tail, filter-append}
use Rattle.std.proofs.lemmas.List.Folds.{drop_split}
use Rattle.std.proofs.lemmas.List.Sums.{count_by-le-length, length-filter}
use Rattle.std.specs.List.{slice_range}

pub filter-all : {X : Type 0} (xs : List X) → filter (λ x. true) xs ≡ xs
filter-all [] = refl
filter-all (x ∷ xs) = ap (λ rest. x ∷ rest) (filter-all xs)

pub filter-nothing : {X : Type 0} (xs : List X) → filter (λ x. false) xs ≡ []
filter-nothing [] = refl
filter-nothing (x ∷ xs) = filter-nothing xs

pub filter-none : {X : Type 0} (test : X → Bool) (xs : List X) → All (λ x. test x ≡ false) xs → filter test xs ≡ []
filter-none test [] none = refl
filter-none test (x ∷ xs) none =
    rw (All-head (λ y. test y ≡ false) x xs none) (filter-none test xs (All-tail (λ y. test y ≡ false) x xs none))

pub filter-between : {X : Type 0} (test : X → Bool) (xs : List X) (first end : ℕ) → first ≤ end
    → All (λ x. test x ≡ false) (take first xs) → All (λ x. test x ≡ false) (drop end xs)
    → filter test (slice_range xs first end) ≡ filter test xs
filter-between test xs first end below before behind =
    let middle = slice_range xs first end in
    let parts : filter test (middle ++ drop end xs) ≡ filter test middle =
    filter-append test middle (drop end xs) ∙ ap (λ rest. filter test middle ++ rest)
    (filter-none test (drop end xs) behind) ∙ append-nil (filter test middle) in
    let all : filter test xs ≡ filter test (drop first xs) =
    ap (filter test) (sym (take-append-drop first xs)) ∙ filter-append test (take first xs) (drop first xs)
    ∙ ap (λ front. front ++ filter test (drop first xs)) (filter-none test (take first xs) before) in
    sym (all ∙ ap (filter test) (drop_split xs first end below) ∙ parts)

pub filter-less : {X : Type 0} (p : X → Bool) (xs : List X) → length (filter p xs) ≤ length xs
filter-less p xs = omega (arith, length-filter p xs, count_by-le-length p xs)
