-- Lines, each ended by an LF.
use Rattle.std.specs.Prelude.{◌≡◌, ◌⊎◌, ℕ, nat_eq, List, [], ◌∷◌, ◌++◌, length, true}
use Rattle.std.specs.List.{filter}
use Rattle.std.specs.Str.{byte}
use Rattle.orders_text.specs.Fields.{lacks}

-- a line with its LF, which is its last byte
pub record IsEnded (line : List ℕ) : Type 0 where
  pub body : List ℕ
  pub cut : line ≡ body ++ byte "\n" ∷ []
  pub first : lacks (byte "\n") body ≡ true

-- one line: no LF is in it but at its end
abbrev pub IsOneLine : List ℕ → Type 0
IsOneLine line = IsEnded line ⊎ (lacks (byte "\n") line ≡ true)

-- the first line of a text, and what follows it: only the last line of all may lack its LF
abbrev pub IsFirstLine : List ℕ → List ℕ → Type 0
IsFirstLine line more = IsEnded line ⊎ ((lacks (byte "\n") line ≡ true) × (more ≡ []))

-- how many lines were ended
abbrev pub count_lines : List ℕ → ℕ
count_lines text = length (filter (λ b. nat_eq b (byte "\n")) text)
