-- A text cut at a byte.
use Rattle.std.specs.Prelude.{◌≡◌, ℕ, ◌==◌, List, [], ◌∷◌, Option, None, Some}
use Rattle.std.specs.List.{slice_split}
use Rattle.small_texts.specs.declared.fields.UpToThree.{UpToThree}
use Rattle.small_texts.specs.declared.fields.UpToThree.TheVariants.{One, Two, Three, More}

-- the fields of a text: what stands between its separators, one more than there are of these
abbrev pub fields : ℕ → List ℕ → List (List ℕ)
fields separator text = slice_split (λ b. b == separator) text

-- the fields of what follows a separator, and none where nothing does
abbrev pub fields_of_rest : ℕ → Option (List ℕ) → List (List ℕ)
fields_of_rest separator None = []
fields_of_rest separator (Some rest) = fields separator rest

-- the text has just these fields, or more than three
abbrev pub HasFields : UpToThree → List (List ℕ) → Type 0
HasFields (One a) parts = parts ≡ a.now ∷ []
HasFields (Two a b) parts = parts ≡ a.now ∷ b.now ∷ []
HasFields (Three a b c) parts = parts ≡ a.now ∷ b.now ∷ c.now ∷ []
HasFields More parts =
    (a b c d : List ℕ) × (others : List (List ℕ)) × (parts ≡ a ∷ b ∷ c ∷ d ∷ others)
