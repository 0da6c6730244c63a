-- What passes know of the one history.
use Rattle.std.specs.Prelude.{◌≡◌, ℕ, ◌==◌, List, [], ◌∷◌, ◌++◌, filter, All}
use Rattle.turn_lock.specs.declared.view.View.{View}
use Rattle.turn_lock.specs.declared.view.Claim.{Claim}
use Rattle.turn_lock.specs.declared.view.Found.{Found}
use Rattle.turn_lock.specs.declared.view.Kind.{Kind}

-- a history begins with these entries
abbrev pub StartsWith : {E : Type 0} → List E → List E → Type 0
StartsWith {E} history seen = (rest : List E) × (history ≡ seen ++ rest)

-- the entries that bear a number
abbrev pub bearing : {E : Type 0} → (E → ℕ) → ℕ → List E → List E
bearing bearer number entries = filter (λ e. bearer e == number) entries

-- a word that a step of this kind found
abbrev pub found_word : Kind → ℕ → List Found
found_word kind word = record { kind = kind; word = word } ∷ []

-- the numbers of all claims differ
abbrev pub Differ : {E : Type 0} → List (Claim E) → Type 0
Differ [] = Unit {0}
Differ (c ∷ cs) = All (λ d. c.number ≡ d.number → ⊥) cs × Differ cs

-- What is known agrees with what was seen: it begins with all beginnings that were told of, and each claim has just the
-- entries seen that bear its number.
pub record IsSettled {B E : Type 0} (bearer : E → ℕ) (view : View B E) : Type 0 where
  pub told : All (λ told. StartsWith view.seen told) view.told
  pub claims : All (λ claim. claim.entries ≡ bearing bearer claim.number view.seen) view.claims
  pub differ : Differ view.claims
