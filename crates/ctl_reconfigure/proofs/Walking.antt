-- Lists of which members change in place, one after the other.
use Rattle.std.proofs.Common.{◌≡◌, ℕ, zero, suc, ◌+◌, ◌<◌, ◌≤◌, List, [], ◌∷◌, length, map, set, get_or, refl, ap, ◌∙◌, arith, add-one}
use Rattle.job_table.specs.Walks.{walked}

-- one more of them
pub walked-more : {X : Type 0} (f : X → X) (place : ℕ) (xs : List X) (d : X) → place < length xs
    → set (walked f place xs) place (f (get_or (walked f place xs) place d)) ≡ walked f (place + 1) xs
walked-more f place [] d inside = absurd (omega (arith, inside))
walked-more f zero (x ∷ xs) d inside = refl
walked-more f (suc place) (x ∷ xs) d inside =
    rw add-one (ap (λ rest. f x ∷ rest) (walked-more f place xs d (omega (arith, inside)) ∙ rw add-one refl))

pub walked-all : {X : Type 0} (f : X → X) (place : ℕ) (xs : List X) → length xs ≤ place → walked f place xs ≡ map f xs
walked-all f zero [] past = refl
walked-all f zero (x ∷ xs) past = absurd (omega (arith, past))
walked-all f (suc place) [] past = refl
walked-all f (suc place) (x ∷ xs) past = ap (λ rest. f x ∷ rest) (walked-all f place xs (omega (arith, past)))

pub length-walked : {X : Type 0} (f : X → X) (place : ℕ) (xs : List X) → length (walked f place xs) ≡ length xs
length-walked f zero xs = refl
length-walked f (suc place) [] = refl
length-walked f (suc place) (x ∷ xs) = ap suc (length-walked f place xs)
