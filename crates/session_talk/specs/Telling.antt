-- What actions are told, from a state of the controller on: a block is told what a session of the plain form tells it.
use Rattle.std.specs.Prelude.{ℕ, ◌==◌, ◌||◌, Bool, true, false, if◌then◌else◌, List, [], ◌∷◌, ◌++◌}
use Rattle.command_words.specs.declared.header.Meaning.{Meaning}
use Rattle.ctl_state.specs.State.{State}
use Rattle.ctl_session.specs.Meaning.{meaning_of, state_behind, status_told, told}
use Rattle.session_text.specs.Actions.{Action, Tells, Faults, Asks}
use Rattle.session_text.specs.CallTexts.{fault_line, place_text}

-- whether a block is refused, or asks nothing
abbrev pub is_refused : State → Meaning → Bool
is_refused s meaning = status_told s meaning == 1

-- what is told of its answer: where it is refused its place stands in front
abbrev pub answer_text : List ℕ → ℕ → Bool → List ℕ → List ℕ
answer_text name number refused text = (if refused then place_text name number else []) ++ text

-- what an action is told in a state, by the name of the file
abbrev pub told_of : List ℕ → State → Action → List ℕ
told_of name s (Tells text) = text
told_of name s (Faults number fault) = fault_line name number fault
told_of name s (Asks number block) =
    answer_text name number (is_refused s (meaning_of block)) (told s (meaning_of block))

-- the state behind it
abbrev pub state_after : State → Action → State
state_after s (Asks number block) = state_behind s (meaning_of block)
state_after s action = s

-- whether it is refused or wrong
abbrev pub is_wrong : State → Action → Bool
is_wrong s (Tells text) = false
is_wrong s (Faults number fault) = true
is_wrong s (Asks number block) = is_refused s (meaning_of block)

-- the same of several, one after another
abbrev pub told_by : List ℕ → State → List Action → List ℕ
told_by name s [] = []
told_by name s (action ∷ actions) = told_of name s action ++ told_by name (state_after s action) actions

abbrev pub state_by : State → List Action → State
state_by s [] = s
state_by s (action ∷ actions) = state_by (state_after s action) actions

abbrev pub wrong_by : State → List Action → Bool
wrong_by s [] = false
wrong_by s (action ∷ actions) = is_wrong s action || wrong_by (state_after s action) actions

-- the answers alone, without what stands in front of those that are refused
abbrev pub answer_in : State → Action → List ℕ
answer_in s (Asks number block) = told s (meaning_of block)
answer_in s action = []

abbrev pub answers_by : State → List Action → List ℕ
answers_by s [] = []
answers_by s (action ∷ actions) = answer_in s action ++ answers_by (state_after s action) actions

-- what a session of the plain form tells blocks that ask this, one after another
abbrev pub plain_answers : State → List Meaning → List ℕ
plain_answers s [] = []
plain_answers s (meaning ∷ meanings) = told s meaning ++ plain_answers (state_behind s meaning) meanings

-- the state behind them
abbrev pub plain_state : State → List Meaning → State
plain_state s [] = s
plain_state s (meaning ∷ meanings) = plain_state (state_behind s meaning) meanings
