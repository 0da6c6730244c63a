-- Two lists side by side.
use Rattle.std.proofs.Common.{◌≡◌, List, [], ◌∷◌, length, refl, ap, arith}
use Rattle.std.specs.List.{zip}

pub zip-long : {X Y : Type 0} (xs : List X) (ys : List Y) → length ys ≡ length xs → length (zip xs ys) ≡ length xs
zip-long [] ys same = refl
zip-long (x ∷ xs) [] same = absurd (omega (arith, same))
zip-long (x ∷ xs) (y ∷ ys) same = omega (arith, zip-long xs ys (omega (arith, same)))
