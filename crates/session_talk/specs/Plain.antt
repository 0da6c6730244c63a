-- A session as one of the plain form.
use Rattle.std.specs.Prelude.{◌≡◌, List, [], map}
use Rattle.block_frame.specs.Grammar.{blocks_of, rest_of, spelled_all}
use Rattle.block_frame.specs.declared.form.Form.TheVariants.{Plain}
use Rattle.ctl_state.specs.State.{State}
use Rattle.ctl_session.specs.Meaning.{meaning_of}
use Rattle.session_text.specs.Actions.{Action, blocks_asked}
use Rattle.session_talk.specs.Telling.{answers_by, plain_answers, plain_state, state_by}

-- The blocks that actions ask, spelled one after another, are a text of the plain form that is just these blocks; and the
-- answers to the actions, and the state behind them, are those of a session of the plain form on that text.
pub record IsPlainSession (s : State) (actions : List Action) : Type 0 where
  pub cut : blocks_of Plain (spelled_all Plain (blocks_asked actions)) ≡ blocks_asked actions
  pub whole : rest_of Plain (spelled_all Plain (blocks_asked actions)) ≡ []
  pub answers : answers_by s actions ≡ plain_answers s (map meaning_of (blocks_asked actions))
  pub state : state_by s actions ≡ plain_state s (map meaning_of (blocks_asked actions))
