-- How a run over a link ends.
use Rattle.std.specs.Prelude.{◌≡◌, ℕ, ◌-◌, ◌^◌, ◌<◌, min, List, length}
use Rattle.slurmd_link.specs.Turns.{AreMade, IsCut, Scene, Turn, read_in}
use Rattle.slurmd_link.specs.declared.link.LinkEnd.{LinkEnd}
use Rattle.slurmd_link.specs.declared.link.LinkHow.{LinkHow}
use Rattle.slurmd_link.specs.declared.link.LinkHow.TheVariants as how
use Rattle.slurmd_link.specs.declared.turn.Cut.{Cut}
use Rattle.slurmd_link.specs.declared.turn.Cut.TheVariants as cut

-- how many bytes the replies of turns have, up to the greatest number that there is
abbrev pub size_read : List Turn → ℕ
size_read turns = min (length (read_in turns)) (2 ^ 64 - 1)

-- how a run ends whose turn was cut short, behind so many bytes of replies
abbrev pub how_of : Cut → ℕ → LinkHow
how_of (cut.Refused text) place = how.Refused text
how_of cut.BadReply place = how.BadReply place
how_of cut.ReadFault place = how.ReadFault
how_of cut.WriteFault place = how.WriteFault
how_of cut.Memory place = how.Memory

-- What ended a run in which so many turns were made of those that were asked: nothing but that all were made, or one
-- more turn, which was cut short.
abbrev pub IsEndedBy : List ℕ → Scene → Scene → List Turn → ℕ → LinkHow → Type 0
IsEndedBy user mid new turns asked how.Done = (new ≡ mid) × (length turns ≡ asked)
IsEndedBy user mid new turns asked (how.Refused text) = IsCut user mid new (cut.Refused text) × (length turns < asked)
IsEndedBy user mid new turns asked (how.BadReply place) =
    IsCut user mid new cut.BadReply × (length turns < asked) × (place ≡ size_read turns)
IsEndedBy user mid new turns asked how.ReadFault = IsCut user mid new cut.ReadFault × (length turns < asked)
IsEndedBy user mid new turns asked how.WriteFault = IsCut user mid new cut.WriteFault × (length turns < asked)
IsEndedBy user mid new turns asked how.Memory = IsCut user mid new cut.Memory × (length turns < asked)

-- a run over a link: the turns that were made, and what ended it
pub record IsLinked (user : List ℕ) (old new : Scene) (asked : ℕ) (end : LinkEnd) : Type 0 where
  pub turns : List Turn
  pub mid : Scene
  pub made : AreMade user old mid turns
  pub counted : length turns ≡ end.made
  pub ended : IsEndedBy user mid new turns asked end.how
