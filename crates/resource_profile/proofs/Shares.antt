-- What is dealt names the places of the set.
use Rattle.std.proofs.Common.{◌≡◌, ℕ, ◌-◌, List, [], ◌∷◌, length, min, refl, ap}
use Rattle.resource_profile.specs.Sets.{capacity, dealt, places}

pub places-dealt : (caps : List ℕ) (tasks : ℕ) (set : List ℕ) → places (dealt caps tasks set) ≡ set
places-dealt caps tasks [] = refl
places-dealt caps tasks (place ∷ later) =
    ap (λ rest. place ∷ rest) (places-dealt caps (tasks - min (capacity caps place) (tasks - length later)) later)
