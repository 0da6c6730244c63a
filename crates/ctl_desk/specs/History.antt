-- The history: the accepted requests, in order.
use Rattle.std.specs.Prelude.{◌≡◌, ℕ, ◌≤◌, true, ◌==◌, List, [], ◌∷◌, take, filter, slice_get, Option, IfSome}
use Rattle.request_data.specs.declared.request.Request.{Request}
use Rattle.request_data.specs.declared.request.Request.TheVariants.{Pass}
use Rattle.backfill_planner.specs.Plans.{PlannedView}
use Rattle.ctl_state.specs.State.{State}
use Rattle.ctl_state.specs.Soundness.{IsSound}
use Rattle.ctl_node_side.specs.Passes.{PassIsFree}
use Rattle.ctl_core.specs.Step.{reply_of, state_after, is_entered, raised}
use Rattle.ctl_desk.specs.declared.entry.Entry.{Entry}

-- the state after the entries, one step for each
abbrev pub after_all : State → List Entry → State
after_all s [] = s
after_all s (e ∷ es) = after_all (state_after s e.moment e.user e.request) es

-- the entry is one that the controller makes in this state
pub record IsStep (s : State) (e : Entry) : Type 0 where
  pub moment : s.moment ≤ e.moment
  pub reply : e.reply ≡ reply_of s e.moment e.user e.request
  pub accepted : is_entered e.reply ≡ true

-- each entry is one that the controller makes after those before it
abbrev pub IsLegal : State → List Entry → Type 0
IsLegal s [] = Unit {0}
IsLegal s (e ∷ es) = IsStep s e × IsLegal (state_after s e.moment e.user e.request) es

-- after each of the first entries, how many ever, the state is sound
abbrev pub StaysSound : State → List Entry → Type 0
StaysSound opening entries = (n : ℕ) → IsSound (after_all opening (take n entries))

-- a pass that is entered starts jobs alone that nothing hinders, and that reach no limit just before
abbrev pub StartsFree : State → List Entry → Type 0
StartsFree opening entries = (n : ℕ) → IfSome (slice_get entries n)
    (λ (e : Entry). e.request ≡ Pass → PassIsFree (after_all opening (take n entries)) e.moment)

-- the entry that a session's request makes in a state
abbrev pub entry_of : State → ℕ → ℕ → List ℕ → Request → Entry
entry_of s session now user request = record {
  session = session;
  moment = raised s now;
  user = user;
  request = request;
  reply = reply_of s now user request;
}

-- the entries that bear the number of a session
abbrev pub of_session : ℕ → List Entry → List Entry
of_session number entries = filter (λ e. e.session == number) entries

-- a controller's history from its opening on
pub record History : Type 0 where
  pub opening : State
  pub entries : List Entry

-- a book: a history, and the plan that its controller keeps
pub record BookState : Type 0 where
  pub opening : State
  pub entries : List Entry
  pub kept : Option PlannedView

-- the history of a book
abbrev pub history_in : BookState → History
history_in book = record { opening = book.opening; entries = book.entries }

-- the state now
abbrev pub present : History → State
present h = after_all h.opening h.entries

-- what every history keeps
pub record IsHistory (h : History) : Type 0 where
  pub legal : IsLegal h.opening h.entries
  pub sound : StaysSound h.opening h.entries
  pub starts : StartsFree h.opening h.entries
