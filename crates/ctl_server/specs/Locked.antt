-- Desks at the book of a lock.
use Rattle.std.specs.Prelude.{◌≡◌, ℕ, ◌<◌, ◌≤◌, ◌^◌, Bool, if◌then◌else◌, List, [], ◌∷◌, ◌++◌, length, take, drop, Option, Some, None, Result, IfSome, IfOk, OnErr}
use Rattle.request_data.specs.declared.request.Request.{Request}
use Rattle.atomic_table.specs.Seated.{TableId}
use Rattle.turn_lock.specs.Passes.{PassView, IsKnown}
use Rattle.ctl_state.specs.State.{State}
use Rattle.ctl_core.specs.Step.{reply_of, is_entered}
use Rattle.ctl_desk.specs.declared.entry.Answer.{Answer}
use Rattle.ctl_desk.specs.declared.entry.Entry.{Entry}
use Rattle.ctl_desk.specs.Desk.{Sight}
use Rattle.ctl_desk.specs.History.{BookState, entry_of, history_in, IsHistory, present}

-- a pass of the lock of a book
abbrev pub BookView : Type 0
BookView = PassView BookState Entry

-- A desk at a lock: the state before the first entry, how many entries there were when the desk was made, and its pass.
pub record LockedSeat : Type 0 where
  pub opening : State
  pub before : ℕ
  pub pass : Option BookView

-- what a desk sees that has this pass
abbrev pub sight_by : State → ℕ → BookView → Sight
sight_by opening before pass = record {
  lock = Some pass.lock;
  opening = opening;
  number = pass.number;
  before = take before pass.seen;
  since = drop before pass.seen;
  mine = pass.mine;
}

-- what is seen at a lock: between two calls a desk has its pass
abbrev pub sight_at : State → ℕ → Option BookView → Sight
sight_at opening before (Some pass) = sight_by opening before pass
sight_at opening before None = record { lock = None; opening = opening; number = 0; before = []; since = []; mine = [] }

abbrev pub sight_there : LockedSeat → Sight
sight_there seat = sight_at seat.opening seat.before seat.pass

-- What a desk keeps of its pass, with the number of entries seen and whether a shutdown is among them.
pub record IsAtDesk (lock : TableId) (opening : State) (before len : ℕ) (is_shut : Bool) (pass : BookView)
    : Type 0 where
  pub own : pass.lock ≡ lock
  pub first : IfSome pass.first (λ first. opening ≡ first.opening)
  pub known : IsKnown (λ entry. entry.session) pass
  pub history : IsHistory (record { opening = opening; entries = pass.seen })
  pub since : before ≤ length pass.seen
  pub count : len ≡ length pass.seen
  pub shut : is_shut ≡ (present (record { opening = opening; entries = pass.seen })).is_shut

-- the desk has its pass
abbrev pub HasPass : TableId → State → ℕ → ℕ → Bool → Option BookView → Type 0
HasPass lock opening before len is_shut (Some pass) = IsAtDesk lock opening before len is_shut pass
HasPass lock opening before len is_shut None = ⊥

-- A book worked a request for the session of this number, or memory was wanting, and it is as it was.
pub record IsWorked {E : Type 0} (number : ℕ) (old new : BookState) (now : ℕ) (user : List ℕ) (request : Request)
    (result : Result Answer E) : Type 0 where
  pub opening : new.opening ≡ old.opening
  pub reply : IfOk result (λ answer. answer.reply ≡ reply_of (present (history_in old)) now user request)
  pub place : IfOk result (λ answer. answer.place ≡ length old.entries)
  pub entries : IfOk result (λ answer. new.entries ≡ (if is_entered answer.reply
      then old.entries ++ entry_of (present (history_in old)) number now user request ∷ []
      else old.entries))
  pub err : OnErr result (new ≡ old)
