-- What a block was answered.
use Rattle.std.specs.Prelude.{◌≡◌}
use Rattle.command_words.specs.declared.header.Meaning.{Meaning}
use Rattle.ctl_desk.specs.Desk.{Seat, state_of}
use Rattle.ctl_session.specs.Meaning.{state_behind, told}
use Rattle.session_talk.specs.Telling.{is_refused}
use Rattle.session_talk.specs.declared.answer.Told.{Told}

-- a desk answered what was asked, and went on to the state behind that
pub record IsAnswer (meaning : Meaning) (seat seat' : Seat) (answer : Told) : Type 0 where
  pub text : answer.text.items ≡ told (state_of seat) meaning
  pub refused : answer.is_refused ≡ is_refused (state_of seat) meaning
  pub behind : state_of seat' ≡ state_behind (state_of seat) meaning
