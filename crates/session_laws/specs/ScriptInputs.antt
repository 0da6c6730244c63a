-- What the input of a script says of the end of its run.
use Rattle.std.specs.Prelude.{◌≡◌, ◌≢◌, ◌⊎◌, ℕ, ◌<◌, ◌≤◌, Bool, List, [], length, take}
use Rattle.block_frame.specs.declared.form.Form.TheVariants.{Plain}
use Rattle.block_frame.specs.Grammar.{spelled_all, blocks_of, rest_of}
use Rattle.ctl_desk.specs.History.{present}
use Rattle.ctl_session.specs.declared.session.How.{How}
use Rattle.ctl_session.specs.declared.session.How.TheVariants.{Truncated, Bad}
use Rattle.ctl_session.specs.Session.{most_blocks}
use Rattle.ctl_state.specs.State.{State}
use Rattle.saved_data.specs.Sizes.{longest_text}
use Rattle.script_run.specs.Behind.{saved_if}
use Rattle.script_run.specs.Script.{script_history}

-- whole blocks, no more than one session answers
abbrev pub IsWhole : List ℕ → Type 0
IsWhole bytes = (rest_of Plain bytes ≡ []) × (length (blocks_of Plain bytes) ≤ most_blocks)

-- fewer blocks, and behind them what is none: a part of one, or what can't begin one
abbrev pub IsBroken : List ℕ → Type 0
IsBroken bytes = (rest_of Plain bytes ≢ []) × (length (blocks_of Plain bytes) < most_blocks)

-- where that begins
abbrev pub rest_begins : List ℕ → ℕ
rest_begins bytes = length (spelled_all Plain (blocks_of Plain bytes))

-- the run of a script ended at this place
abbrev pub IsToldAt : ℕ → How → Type 0
IsToldAt place how = (how ≡ Truncated place) ⊎ (how ≡ Bad place)

-- as many blocks as one session answers, and more bytes
abbrev pub IsLonger : List ℕ → Type 0
IsLonger bytes =
    (most_blocks ≤ length (blocks_of Plain bytes))
    × (spelled_all Plain (take most_blocks (blocks_of Plain bytes)) ≢ bytes)

-- whole blocks that lead to a state which is to be saved and whose text is longer than one may be
abbrev pub LeadsToLongText : State → Bool → List ℕ → Type 0
LeadsToLongText s save bytes =
    IsWhole bytes × (longest_text < length (saved_if save (present (script_history s bytes))))

-- there are too many bytes, in the input or in what is to be saved
abbrev pub IsTooLong : State → Bool → List ℕ → Type 0
IsTooLong s save bytes = IsLonger bytes ⊎ LeadsToLongText s save bytes
