-- Sums and counts over lists.
use Rattle.std.proofs.Common.{All, Bool, List, [], arith, cond, refl, sum_by, ℕ, ◌+◌, ◌∷◌, ◌≡◌, ◌≤◌}
use Rattle.std.proofs.lemmas.List.Elements.{All-head, All-tail}
use Rattle.std.proofs.lemmas.List.Sums.{sum_by-cons}
use Rattle.std.specs.Prelude.{count_by}

pub sum_by-larger : {X : Type 0} (f g : X → ℕ) (xs : List X) → All (λ x. f x ≤ g x) xs → sum_by f xs ≤ sum_by g xs
sum_by-larger f g [] larger = omega arith
sum_by-larger f g (x ∷ xs) larger =
    omega (
      arith,
      sum_by-cons f x xs,
      sum_by-cons g x xs,
      All-head (λ y. f y ≤ g y) x xs larger,
      sum_by-larger f g xs (All-tail (λ y. f y ≤ g y) x xs larger),
    )

pub sum_by-same : {X : Type 0} (f g : X → ℕ) (xs : List X) → All (λ x. f x ≡ g x) xs → sum_by f xs ≡ sum_by g xs
sum_by-same f g xs same =
    omega (
      arith,
      sum_by-larger f g xs (λ k d below. omega (arith, same k d below)),
      sum_by-larger g f xs (λ k d below. omega (arith, same k d below)),
    )

pub sum_by-add : {X : Type 0} (f g : X → ℕ) (xs : List X) → sum_by (λ x. f x + g x) xs ≡ sum_by f xs + sum_by g xs
sum_by-add f g [] = refl
sum_by-add f g (x ∷ xs) =
    omega (arith, sum_by-cons f x xs, sum_by-cons g x xs, sum_by-cons (λ y. f y + g y) x xs, sum_by-add f g xs)

pub sum_by-none : {X : Type 0} (f : X → ℕ) (xs : List X) → All (λ x. f x ≡ 0) xs → sum_by f xs ≡ 0
sum_by-none f [] none = refl
sum_by-none f (x ∷ xs) none =
    omega (
      arith,
      sum_by-cons f x xs,
      All-head (λ y. f y ≡ 0) x xs none,
      sum_by-none f xs (All-tail (λ y. f y ≡ 0) x xs none),
    )

pub sum_by-swap : {X Y : Type 0} (f : X → Y → ℕ) (xs : List X) (ys : List Y)
    → sum_by (λ x. sum_by (λ y. f x y) ys) xs ≡ sum_by (λ y. sum_by (λ x. f x y) xs) ys
sum_by-swap f [] ys = omega (arith, sum_by-none (λ y. 0) ys (λ k d below. refl))
sum_by-swap f (x ∷ xs) ys =
    let split = sum_by-add (λ y. f x y) (λ y. sum_by (λ z. f z y) xs) ys in
    let each = sum_by-same (λ y. sum_by (λ z. f z y) (x ∷ xs)) (λ y. f x y + sum_by (λ z. f z y) xs) ys
    (λ k d below. sum_by-cons (λ z. f z _) x xs) in
    omega (arith, sum_by-cons (λ z. sum_by (λ y. f z y) ys) x xs, sum_by-swap f xs ys, split, each)

pub count-cons : {X : Type 0} (p : X → Bool) (x : X) (xs : List X) → count_by p (x ∷ xs) ≡ cond (p x) 1 0 + count_by p xs
count-cons p x xs = sum_by-cons (λ y. cond (p y) 1 0) x xs
