-- Beginnings of a set, and which sets they leave. Of the proof alone: what the loops of the choice keep.
use Rattle.std.specs.Prelude.{◌≡◌, ℕ, ◌≤◌, ◌<◌, ◌⊎◌, List, [], ◌∷◌, ◌++◌, length, All, Contains}
use Rattle.resource_profile.specs.declared.picking.Need.{Need}
use Rattle.resource_profile.specs.Sets.{capacity, IsRisingFrom, Fits}

-- the set begins so, and its other places are at least `from`
pub record GoesOn (from : ℕ) (begun set : List ℕ) : Type 0 where
  pub later : List ℕ
  pub joined : set ≡ begun ++ later
  pub rising : IsRisingFrom from later

-- the set goes on so, or it comes after all those that do
abbrev pub GoesOnOrComesAfter : ℕ → List ℕ → List ℕ → Type 0
GoesOnOrComesAfter from [] set = IsRisingFrom from set
GoesOnOrComesAfter from (place ∷ begun) [] = ⊥
GoesOnOrComesAfter from (place ∷ begun) (other ∷ set) =
    (place < other) ⊎ ((place ≡ other) × GoesOnOrComesAfter from begun set)

-- a beginning whose places are below `from` and give a task each
pub record IsBeginning (caps : List ℕ) (from : ℕ) (begun : List ℕ) : Type 0 where
  pub rising : IsRisingFrom 0 begun
  pub below : All (λ place. place < from) begun
  pub giving : All (λ place. 1 ≤ capacity caps place) begun

-- the required places below `from` are what each fitting set begins with
pub record IsRequiredBeginning (caps : List ℕ) (need : Need) (from : ℕ) (begun : List ℕ) : Type 0 where
  pub beginning : IsBeginning caps from begun
  pub whole : length begun ≡ from
  pub required : (place : ℕ) → place < from → Contains begun place
  pub others : (set : List ℕ) → Fits caps need set → GoesOn from begun set

-- no fitting set is before those that go on from `begun`
pub record IsLeastBeginning (caps : List ℕ) (need : Need) (from : ℕ) (begun : List ℕ) : Type 0 where
  pub beginning : IsBeginning caps from begun
  pub required : (place : ℕ) → place < need.required → Contains begun place
  pub others : (set : List ℕ) → Fits caps need set → GoesOnOrComesAfter from begun set
