-- A desk as contracts see it, and what a call at it does to the history that it has seen.
use Rattle.std.specs.Prelude.{◌≡◌, ℕ, ◌≤◌, true, false, List, [], ◌∷◌, ◌++◌, length, take, Option, None}
use Rattle.atomic_table.specs.Seated.{TableId}
use Rattle.request_data.specs.declared.request.Request.{Request}
use Rattle.ctl_state.specs.State.{State}
use Rattle.ctl_core.specs.Step.{reply_of, is_entered}
use Rattle.ctl_desk.specs.declared.entry.Entry.{Entry}
use Rattle.ctl_desk.specs.declared.entry.Answer.{Answer}
use Rattle.ctl_desk.specs.History.{History, after_all, entry_of, of_session, present}

-- A desk at a moment: the lock that keeps its book, where one does; the state before the first entry of the history; the
-- number that the entries of this desk bear; the entries that there were when the desk was made, those that it has seen
-- come since, and those that were made at it.
pub record Sight : Type 0 where
  pub lock : Option TableId
  pub opening : State
  pub number : ℕ
  pub before : List Entry
  pub since : List Entry
  pub mine : List Entry

-- all entries that the desk has seen
abbrev pub seen : Sight → List Entry
seen desk = desk.before ++ desk.since

-- the history that it has seen
abbrev pub history_of : Sight → History
history_of desk = record { opening = desk.opening; entries = seen desk }

-- the desk when it has seen more come, of which those that bear its number were made at it
abbrev pub later : Sight → List Entry → Sight
later desk more = record desk { since = desk.since ++ more; mine = desk.mine ++ of_session desk.number more }

-- A desk goes on: what it has seen grows.
abbrev pub GoesOn : Sight → Sight → Type 0
GoesOn desk desk' = (more : List Entry) × (desk' ≡ later desk more)

-- the state at a place of the history
abbrev pub state_at : State → List Entry → ℕ → State
state_at opening entries place = after_all opening (take place entries)

-- The answer is the one-thread controller's at its place, which is none of those seen before. An accepted request is
-- entered there, as the last entry seen; any other answer is given at the end of what is seen.
pub record IsAnswered (desk desk' : Sight) (now : ℕ) (user : List ℕ) (request : Request) (answer : Answer)
    : Type 0 where
  pub from : length (seen desk) ≤ answer.place
  pub within : answer.place ≤ length (seen desk')
  pub reply : answer.reply ≡ reply_of (state_at desk.opening (seen desk') answer.place) now user request
  pub accepted : is_entered answer.reply ≡ true
      → let entry = entry_of (state_at desk.opening (seen desk') answer.place) desk.number now user request in
      (seen desk' ≡ take answer.place (seen desk') ++ entry ∷ []) × (desk'.mine ≡ desk.mine ++ entry ∷ [])
  pub other : is_entered answer.reply ≡ false → (answer.place ≡ length (seen desk')) × (desk'.mine ≡ desk.mine)

-- A desk that nobody else's entries come to: the state before the first entry, the entries that there were when it was
-- made, and its own since.
pub record Seat : Type 0 where
  pub opening : State
  pub before : List Entry
  pub since : List Entry

abbrev pub sight_of : Seat → Sight
sight_of seat = record {
  lock = None;
  opening = seat.opening;
  number = 0;
  before = seat.before;
  since = seat.since;
  mine = seat.since;
}

-- the state there
abbrev pub state_of : Seat → State
state_of seat = present (history_of (sight_of seat))
