-- The fields of a line, each ended by a byte.
use Rattle.std.specs.Prelude.{◌≡◌, ℕ, ◌^◌, ◌<◌, Bool, true, not, nat_eq, List, ◌∷◌, ◌++◌, AllPairs, All}
use Rattle.std.specs.List.{list_all}
use Rattle.request_data.specs.declared.report.Start.{Start}

-- no such byte is in a text
abbrev pub lacks : ℕ → List ℕ → Bool
lacks mark text = list_all (λ b. not (nat_eq b mark)) text

-- a text is cut at the first byte of this value
pub record IsCut (text : List ℕ) (mark : ℕ) (front back : List ℕ) : Type 0 where
  pub cut : text ≡ front ++ mark ∷ back
  pub first : lacks mark front ≡ true

-- a text begins with a label, a value and a byte that isn't in the value
pub record IsField (text label : List ℕ) (mark : ℕ) (value rest : List ℕ) : Type 0 where
  pub cut : text ≡ label ++ (value ++ mark ∷ rest)
  pub first : lacks mark value ≡ true

-- the numbers of a start fit 32 bits
pub record FitsStart (start : Start) : Type 0 where
  pub id : start.id < 2 ^ 32
  pub number : start.number < 2 ^ 32

-- processor numbers of a node, which rise
pub record AreCpus (cpus : List ℕ) : Type 0 where
  pub rising : AllPairs (λ one other. one < other) cpus
  pub small : All (λ number. number < 1024) cpus
