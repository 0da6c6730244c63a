-- An element in another's place.
use Rattle.std.proofs.Common.{◌≡◌, ℕ, ◌<◌, List, length, map, get_or, slice_set, sym, ap, ◌∙◌}
use Rattle.std.proofs.lemmas.List.{get_or-map, map-set, set-get_or}

-- one that tells the same
pub map_set-same : {X Y : Type 0} (f : X → Y) (xs : List X) (i : ℕ) (old new : X) → i < length xs
    → old ≡ get_or xs i old → f new ≡ f old → map f (slice_set xs i new) ≡ map f xs
map_set-same f xs i old new inside is same =
    map-set f xs i new
    ∙ ap (λ y. slice_set (map f xs) i y) (same ∙ ap f is ∙ sym (get_or-map f xs i old (f old) inside))
    ∙ set-get_or (map f xs) i (f old)
