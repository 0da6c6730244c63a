-- What an input says of the end of a session that reads it.
use Rattle.std.specs.Prelude.{◌≡◌, ◌≢◌, ◌⊎◌, ℕ, ◌<◌, ◌≤◌, List, [], length, take}
use Rattle.block_frame.specs.declared.form.Form.{Form}
use Rattle.block_frame.specs.declared.form.Form.TheVariants.{Plain, Framed}
use Rattle.block_frame.specs.Grammar.{IsPartial, IsBad, spelled_all, blocks_of, rest_of}
use Rattle.ctl_session.specs.declared.session.How.{How}
use Rattle.ctl_session.specs.declared.session.How.TheVariants.{Closed, Truncated, Bad, Spent, Shut, Memory}
use Rattle.ctl_session.specs.Session.{most_blocks}

-- where the rest of an input begins, behind its whole blocks
abbrev pub rest_begins : Form → List ℕ → ℕ
rest_begins form bytes = length (spelled_all form (blocks_of form bytes))

-- the first blocks of an input, as many as one session answers
abbrev pub first_bytes : Form → List ℕ → List ℕ
first_bytes form bytes = spelled_all form (take most_blocks (blocks_of form bytes))

-- An input says of a session that it ends so.
abbrev pub Says : Form → List ℕ → How → Type 0
-- it is whole blocks, no more than one session answers
Says form bytes Closed = (rest_of form bytes ≡ []) × (length (blocks_of form bytes) ≤ most_blocks)
-- it ends within a block, behind fewer
Says form bytes (Truncated place) =
    IsPartial form (rest_of form bytes) × (rest_of form bytes ≢ []) × (length (blocks_of form bytes) < most_blocks)
    × (place ≡ rest_begins form bytes)
-- what follows fewer blocks can't begin one
Says form bytes (Bad place) =
    IsBad form (rest_of form bytes) × (length (blocks_of form bytes) < most_blocks)
    × (place ≡ rest_begins form bytes)
-- it has as many blocks as one session answers, and more bytes
Says form bytes Spent = (most_blocks ≤ length (blocks_of form bytes)) × (first_bytes form bytes ≢ bytes)
Says form bytes ended = ⊥

-- the ends that an input may say
abbrev pub IsOfInput : How → Type 0
IsOfInput Closed = Unit {0}
IsOfInput (Truncated place) = Unit {0}
IsOfInput (Bad place) = Unit {0}
IsOfInput Spent = Unit {0}
IsOfInput ended = ⊥

-- A session ended so; or memory was wanting, or, in the framed form alone, a shutdown ended it before.
abbrev pub EndsSo : Form → How → How → Type 0
EndsSo Plain said ended = (ended ≡ said) ⊎ (ended ≡ Memory)
EndsSo Framed said ended = (ended ≡ said) ⊎ ((ended ≡ Memory) ⊎ (ended ≡ Shut))
