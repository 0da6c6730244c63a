-- What becomes of a table.
use Rattle.std.specs.Prelude.{◌≡◌, ℕ, List, [], ◌∷◌, ◌++◌}
use Rattle.std.specs.Str.{byte}

-- the text goes on with the line, and with something behind it
abbrev pub IsTold : List ℕ → List ℕ → List ℕ → Type 0
IsTold line before text = (behind : List ℕ) × (text ≡ before ++ (line ++ behind))

-- the text is the lines in their order, each with something behind it and a line feed
abbrev pub AreTold : List (List ℕ) → List ℕ → Type 0
AreTold [] text = text ≡ []
AreTold (line ∷ later) text =
    (behind : List ℕ) × (rest : List ℕ) × (text ≡ line ++ (behind ++ byte "\n" ∷ rest)) × AreTold later rest
