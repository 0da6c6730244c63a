-- Lists of which members change one after the other.
use Rattle.std.proofs.Common.{◌≡◌, ℕ, zero, suc, ◌+◌, ◌<◌, ◌≤◌, List, [], ◌∷◌, ◌++◌, length, map, take, drop, slice_get, All, HoldsAt, refl, ap, sym, ◌∙◌, arith, add-one}
use Rattle.std.specs.List.{AllWithin}
use Rattle.std.proofs.lemmas.List.{map-append, take-append-drop}
use Rattle.std.proofs.lemmas.List.Elements.{All-cons, All-head, All-tail}
use Rattle.job_table.specs.Walks.{map_at, walked}

-- what stays as it is
pub map-same : {X : Type 0} (f : X → X) (xs : List X) → All (λ x. f x ≡ x) xs → map f xs ≡ xs
map-same f [] same = refl
map-same f (x ∷ xs) same =
    let one : f x ≡ x = All-head (λ y. f y ≡ y) x xs same in
    let rest = map-same f xs (All-tail (λ y. f y ≡ y) x xs same) in
    cc

pub walked-begins : {X : Type 0} (f : X → X) (place : ℕ) (xs : List X) → All (λ x. f x ≡ x) (take place xs)
    → walked f place xs ≡ xs
walked-begins f place xs same = rw (map-same f (take place xs) same) (take-append-drop place xs)

pub walked-ends : {X : Type 0} (f : X → X) (place : ℕ) (xs : List X) → All (λ x. f x ≡ x) (drop place xs)
    → walked f place xs ≡ map f xs
walked-ends f place xs same =
    ap (λ rest. map f (take place xs) ++ rest) (sym (map-same f (drop place xs) same))
    ∙ sym (map-append f (take place xs) (drop place xs))
    ∙ ap (map f) (take-append-drop place xs)

pub walked-goes_on : {X : Type 0} (f : X → X) (place : ℕ) (xs : List X) → place < length xs
    → map_at place f (walked f place xs) ≡ walked f (place + 1) xs
walked-goes_on f place [] inside = absurd (omega (arith, inside))
walked-goes_on f zero (x ∷ xs) inside = refl
walked-goes_on f (suc place) (x ∷ xs) inside =
    rw add-one (ap (λ rest. f x ∷ rest) (walked-goes_on f place xs (omega (arith, inside)) ∙ rw add-one refl))

pub length-walked : {X : Type 0} (f : X → X) (place : ℕ) (xs : List X) → length (walked f place xs) ≡ length xs
length-walked f zero xs = refl
length-walked f (suc place) [] = refl
length-walked f (suc place) (x ∷ xs) = ap suc (length-walked f place xs)

pub slice_get-walked : {X : Type 0} (f : X → X) (place other : ℕ) (xs : List X) → place ≤ other
    → slice_get (walked f place xs) other ≡ slice_get xs other
slice_get-walked f zero other xs before = refl
slice_get-walked f (suc place) other [] before = refl
slice_get-walked f (suc place) zero (x ∷ xs) before = absurd (omega (arith, before))
slice_get-walked f (suc place) (suc other) (x ∷ xs) before = slice_get-walked f place other xs (omega (arith, before))

-- those that stay as they are may be left out
pub walked-leaves_out : {X : Type 0} (f : X → X) (place next : ℕ) (xs : List X) → place ≤ next
    → AllWithin (λ x. f x ≡ x) xs place next
    → walked f next xs ≡ walked f place xs
walked-leaves_out f zero zero xs before same = refl
walked-leaves_out f zero (suc next) [] before same = refl
walked-leaves_out f zero (suc next) (x ∷ xs) before same =
    let one : f x ≡ x = same 0 x (omega arith) (omega arith) in
    let rest : walked f next xs ≡ xs = walked-leaves_out f zero next xs (omega arith)
    (λ k d low below. same (suc k) d (omega arith) (omega (arith, below))) in
    ap (λ y. y ∷ walked f next xs) one ∙ ap (λ ys. x ∷ ys) rest
walked-leaves_out f (suc place) zero xs before same = absurd (omega (arith, before))
walked-leaves_out f (suc place) (suc next) [] before same = refl
walked-leaves_out f (suc place) (suc next) (x ∷ xs) before same =
    ap (λ rest. f x ∷ rest)
    (walked-leaves_out f place next xs (omega (arith, before))
    (λ k d low below. same (suc k) d (omega (arith, low)) (omega (arith, below))))

pub map_at-same : {X : Type 0} (f g : X → X) (place : ℕ) (xs : List X) → HoldsAt (λ x. f x ≡ g x) xs place
    → map_at place f xs ≡ map_at place g xs
map_at-same f g place [] same = refl
map_at-same f g zero (x ∷ xs) same = ap (λ y. y ∷ xs) (same x)
map_at-same f g (suc place) (x ∷ xs) same = ap (λ rest. x ∷ rest) (map_at-same f g place xs same)

pub map_at-nothing : {X : Type 0} (f : X → X) (place : ℕ) (xs : List X) → HoldsAt (λ x. f x ≡ x) xs place
    → map_at place f xs ≡ xs
map_at-nothing f place [] same = refl
map_at-nothing f zero (x ∷ xs) same = ap (λ y. y ∷ xs) (same x)
map_at-nothing f (suc place) (x ∷ xs) same = ap (λ rest. x ∷ rest) (map_at-nothing f place xs same)

pub map_at-twice : {X : Type 0} (f g : X → X) (place : ℕ) (xs : List X)
    → map_at place g (map_at place f xs) ≡ map_at place (λ x. g (f x)) xs
map_at-twice f g place [] = refl
map_at-twice f g zero (x ∷ xs) = refl
map_at-twice f g (suc place) (x ∷ xs) = ap (λ rest. x ∷ rest) (map_at-twice f g place xs)

-- what holds of each member, and of what becomes of one
pub all-map_at : {X : Type 0} (P : X → Type 0) (f : X → X) (place : ℕ) (xs : List X) → ((x : X) → P x → P (f x))
    → All P xs → All P (map_at place f xs)
all-map_at P f place [] keeps all = all
all-map_at P f zero (x ∷ xs) keeps all = All-cons P (f x) xs (keeps x (All-head P x xs all)) (All-tail P x xs all)
all-map_at P f (suc place) (x ∷ xs) keeps all =
    All-cons P x (map_at place f xs) (All-head P x xs all) (all-map_at P f place xs keeps (All-tail P x xs all))
