-- A list put into an order; those that the order doesn't part stay as they stood.
use Rattle.std.specs.Prelude.{Bool, if◌then◌else◌, List, [], ◌∷◌}

-- one more, behind those that come before it, and ahead of the others
abbrev pub put : {X : Type 0} → (X → X → Bool) → X → List X → List X
put before x [] = x ∷ []
put before x (y ∷ ys) = if before y x then y ∷ put before x ys else x ∷ y ∷ ys

unfoldable pub ordered_by : {X : Type 0} → (X → X → Bool) → List X → List X
ordered_by before [] = []
ordered_by before (x ∷ xs) = put before x (ordered_by before xs)
