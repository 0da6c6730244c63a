-- Lists that a text writes.
use Rattle.std.specs.Prelude.{ℕ, List, [], ◌∷◌}
use Rattle.small_texts.specs.Fields.{fields}

-- the texts with a mark between two; none of an empty text
abbrev pub listed : ℕ → List ℕ → List (List ℕ)
listed mark [] = []
listed mark (byte ∷ rest) = fields mark (byte ∷ rest)
