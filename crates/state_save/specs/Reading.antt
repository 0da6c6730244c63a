-- Where a text is no text of a saved state.
use Rattle.std.specs.Prelude.{◌≡◌, ℕ, ◌-◌, ◌<◌, ◌==◌, if◌then◌else◌, List, [], ◌∷◌, slice_get}
use Rattle.std.specs.List.{onto_first}
use Rattle.std.specs.Str.{byte}
use Rattle.saved_data.specs.declared.saved.Saved.{Saved}
use Rattle.state_save.specs.Savable.{IsSavable}
use Rattle.state_save.specs.Saved.{saved_text}

-- the lines of a text, each with its LF; the last may lack it
abbrev pub lines_of : List ℕ → List (List ℕ)
lines_of [] = []
lines_of (b ∷ text) = if b == byte "\n" then (b ∷ []) ∷ lines_of text else onto_first b (lines_of text)

-- two texts have the same first lines, or end both within so many
abbrev pub AgreeFor : ℕ → List ℕ → List ℕ → Type 0
AgreeFor count text other = (place : ℕ) → place < count → slice_get (lines_of text) place ≡ slice_get (lines_of other) place

-- The line of this number, counted from 1, is the first that is off its form or its place: the lines before it are the
-- first ones of a saved state's text, and with it they aren't. It may be the one behind the last line, where the text
-- ends too early.
pub record IsFirstBadLine (text : List ℕ) (line : ℕ) : Type 0 where
  pub counted : 0 < line
  pub before : (saved : Saved) × IsSavable saved × AgreeFor (line - 1) text (saved_text saved)
  pub itself : (saved : Saved) → IsSavable saved → ¬ AgreeFor line text (saved_text saved)
