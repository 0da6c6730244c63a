-- One line more of what is told.
use Rattle.std.proofs.Common.{ℕ, List, [], ◌∷◌, ◌++◌, append_assoc, refl}
use Rattle.table_lines.specs.Tables.{AreTold}

pub told-more : (lines : List (List ℕ)) (text line behind : List ℕ) → AreTold lines text
    → AreTold (lines ++ line ∷ []) ((text ++ (line ++ behind)) ++ 10 ∷ [])
told-more [] text line behind told = (behind, [], rw told (simp append_assoc), refl)
told-more (first ∷ later) text line behind told = (
  told.0,
  (told.1 ++ (line ++ behind)) ++ 10 ∷ [],
  rw told.2 (simp append_assoc),
  told-more later told.1 line behind told.3,
)
