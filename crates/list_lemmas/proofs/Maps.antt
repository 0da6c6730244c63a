-- Lists that are mapped.
use Rattle.std.proofs.Common.{All, List, None, Option, Some, [], ap, append_assoc, arith, get_or, length, map, refl, take, ℕ, ◌++◌, ◌+◌, ◌<◌, ◌∷◌, ◌≡◌}
use Rattle.std.proofs.lemmas.List.{take_more}
use Rattle.std.proofs.lemmas.List.Elements.{All-head, All-tail, filter_map-append}
use Rattle.std.specs.List.{cons_option}
use Rattle.std.specs.Option.{option_to_list}
use Rattle.std.specs.Prelude.{filter_map}

pub map-same : {X Y : Type 0} (f g : X → Y) (xs : List X) → All (λ x. f x ≡ g x) xs → map f xs ≡ map g xs
map-same f g [] same = refl
map-same f g (x ∷ xs) same =
    grind (arith, map-same f g xs (All-tail (λ y. f y ≡ g y) x xs same), All-head (λ y. f y ≡ g y) x xs same)

pub one-more : {Y : Type 0} (found : Option Y) → option_to_list found ≡ cons_option found []
one-more None = refl
one-more (Some y) = refl

pub filter_map-more : {X Y : Type 0} (h : X → Option Y) (xs : List X) (i : ℕ) (x : X) (before : List Y)
    (found : Option Y) → i < length xs → found ≡ h (get_or xs i x)
    → (before ++ filter_map h (take i xs)) ++ option_to_list found ≡ before ++ filter_map h (take (i + 1) xs)
filter_map-more h xs i x before found below is =
    rw (take_more xs i x below, filter_map-append, ← is, ← append_assoc)
    (ap (λ last. (before ++ filter_map h (take i xs)) ++ last) (one-more found))
