-- Lists of which members change one after the other.
use Rattle.std.specs.Prelude.{◌≡◌, ℕ, zero, suc, ◌+◌, ◌<◌, ◌≤◌, List, [], ◌∷◌, ◌++◌, map, take, drop, length, slice_get, All}
use Rattle.std.specs.List.{AllWithin, HoldsAt}

-- the list once the member at a place has become this of it
abbrev pub map_at : {X : Type 0} → ℕ → (X → X) → List X → List X
map_at place f [] = []
map_at zero f (x ∷ xs) = f x ∷ xs
map_at (suc place) f (x ∷ xs) = x ∷ map_at place f xs

-- the list once those before a place have become this of them
abbrev pub walked : {X : Type 0} → (X → X) → ℕ → List X → List X
walked f place xs = map f (take place xs) ++ drop place xs

-- A walk changes nothing of what stays as it is; and behind the last member that changes all have changed.
abbrev pub WalkBegins : Type 0 → Type 0
WalkBegins X = (f : X → X) (place : ℕ) (xs : List X) → All (λ x. f x ≡ x) (take place xs) → walked f place xs ≡ xs

abbrev pub WalkEnds : Type 0 → Type 0
WalkEnds X = (f : X → X) (place : ℕ) (xs : List X) → All (λ x. f x ≡ x) (drop place xs) → walked f place xs ≡ map f xs

-- It goes on by the member at its place.
abbrev pub WalkGoesOn : Type 0 → Type 0
WalkGoesOn X = (f : X → X) (place : ℕ) (xs : List X) → place < length xs
    → map_at place f (walked f place xs) ≡ walked f (place + 1) xs

-- as many members as before; those not yet reached are as they were
abbrev pub WalkKeepsLength : Type 0 → Type 0
WalkKeepsLength X = (f : X → X) (place : ℕ) (xs : List X) → length (walked f place xs) ≡ length xs

abbrev pub WalkKeepsRest : Type 0 → Type 0
WalkKeepsRest X = (f : X → X) (place other : ℕ) (xs : List X) → place ≤ other
    → slice_get (walked f place xs) other ≡ slice_get xs other

-- It may leave out those that stay as they are.
abbrev pub WalkLeavesOut : Type 0 → Type 0
WalkLeavesOut X = (f : X → X) (place next : ℕ) (xs : List X) → place ≤ next → AllWithin (λ x. f x ≡ x) xs place next
    → walked f next xs ≡ walked f place xs

-- What one change makes of the member at a place, by what it makes of that member.
abbrev pub SameAtPlace : Type 0 → Type 0
SameAtPlace X =
    (f g : X → X) (place : ℕ) (xs : List X) → HoldsAt (λ x. f x ≡ g x) xs place → map_at place f xs ≡ map_at place g xs

abbrev pub NothingAtPlace : Type 0 → Type 0
NothingAtPlace X = (f : X → X) (place : ℕ) (xs : List X) → HoldsAt (λ x. f x ≡ x) xs place → map_at place f xs ≡ xs

abbrev pub TwiceAtPlace : Type 0 → Type 0
TwiceAtPlace X =
    (f g : X → X) (place : ℕ) (xs : List X) → map_at place g (map_at place f xs) ≡ map_at place (λ x. g (f x)) xs
