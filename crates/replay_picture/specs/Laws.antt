-- What holds of every picture.
use Rattle.std.specs.Prelude.{◌≢◌, ℕ, ◌≤◌, List, All, AllPairs, Contains}
use Rattle.std.specs.Str.{byte}
use Rattle.replay_picture.specs.Bars.{Drawn, all_drawn}
use Rattle.replay_picture.specs.Escape.{escaped}
use Rattle.replay_picture.specs.declared.data.NodePart.{NodePart}
use Rattle.replay_picture.specs.declared.data.Period.{Period}
use Rattle.replay_picture.specs.declared.data.PictureBar.{PictureBar}
use Rattle.replay_picture.specs.declared.lanes.Lane.{Lane}

-- where two are drawn in one lane, the second begins behind the end of the first, or at it
abbrev pub AreApart : Drawn → Drawn → Type 0
AreApart one other = (place : ℕ) → Contains one.places place → Contains other.places place
    → one.bar.end ≤ other.bar.start

-- bars of one node that share a second share no lane
abbrev pub BarsAreApart : Type 0
BarsAreApart = (period : Period) (bars : List PictureBar) (lanes : List Lane) (parts : List NodePart)
    → AllPairs AreApart (all_drawn period bars lanes parts)

-- a printable character that begins no tag and ends no attribute
pub record IsHarmless (b : ℕ) : Type 0 where
  pub least : byte " " ≤ b
  pub most : b ≤ byte "~"
  pub begins_no_tag : b ≢ byte "<"
  pub ends_no_tag : b ≢ byte ">"
  pub quotes : b ≢ byte "\""
  pub apostrophes : b ≢ byte "'"

-- texts of people stay texts
abbrev pub TextsStayTexts : Type 0
TextsStayTexts = (text : List ℕ) → All IsHarmless (escaped text)
