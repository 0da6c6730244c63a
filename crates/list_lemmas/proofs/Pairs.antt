-- What holds of each two elements of a list.
use Rattle.std.proofs.Common.{All, AllPairs, List, [], arith, suc, ◌++◌, ◌+◌, ◌∷◌}
use Rattle.std.proofs.lemmas.List.Elements.{All-append, All-head, All-tail}
use Rattle.std.proofs.lemmas.List.Kept.{AllPairs-cons}

pub pairs-head : {X : Type 0} (R : X → X → Type 0) (x : X) (xs : List X) → AllPairs R (x ∷ xs) → All (R x) xs
pairs-head R x xs pairs k d below = pairs 0 (suc k) d (omega arith) (omega (arith, below))

pub pairs-tail : {X : Type 0} (R : X → X → Type 0) (x : X) (xs : List X) → AllPairs R (x ∷ xs) → AllPairs R xs
pairs-tail R x xs pairs i j d before below = pairs (suc i) (suc j) d (omega (arith, before)) (omega (arith, below))

pub pairs-append : {X : Type 0} (R : X → X → Type 0) (xs ys : List X) → AllPairs R xs → AllPairs R ys → All (λ x. All (R x) ys) xs → AllPairs R (xs ++ ys)
pairs-append R [] ys one two across = two
pairs-append R (x ∷ xs) ys one two across =
    AllPairs-cons R x (xs ++ ys) (All-append (R x) xs ys (pairs-head R x xs one) (All-head (λ y. All (R y) ys) x xs across))
    (pairs-append R xs ys (pairs-tail R x xs one) two (All-tail (λ y. All (R y) ys) x xs across))
