-- What two tests together say of each, and bytes put in front twice.
use Rattle.std.proofs.Common.{ℕ, ◌&&◌, ◌≡◌, Bool, true, false, List, [], ◌∷◌, ◌++◌, sym, refl, ap}
use Rattle.std.proofs.lemmas.List.{append_assoc}
use Rattle.host_lists.specs.Hosts.{prepend}

pub both-left : (a b : Bool) → (a && b) ≡ true → a ≡ true
both-left true b h = refl
both-left false b h = h

pub both-right : (a b : Bool) → (a && b) ≡ true → b ≡ true
both-right true b h = h
both-right false b h = cc

pub prepend-prepend : (w bytes : List ℕ) (ws : List (List ℕ)) → prepend w (prepend bytes ws) ≡ prepend (w ++ bytes) ws
prepend-prepend w bytes [] = refl
prepend-prepend w bytes (x ∷ ws) = ap (λ (y : List ℕ). y ∷ ws) (sym (append_assoc w bytes x))
