-- The connections of a door, by the history in which they stand.
use Rattle.std.specs.Prelude.{◌≡◌, ℕ, ◌≤◌, ◌<◌, List, [], ◌∷◌, All, length, take, drop}
use Rattle.std.specs.List.{flat_map}
use Rattle.slurm_net.specs.declared.door.Cut.{Cut}
use Rattle.slurm_net.specs.Session.{LinkSession}
use Rattle.ctl_state.specs.State.{State}
use Rattle.ctl_desk.specs.declared.entry.Entry.{Entry}
use Rattle.ctl_desk.specs.Desk.{Sight, seen}
use Rattle.ctl_desk.specs.History.{of_session}
use Rattle.ctl_server.specs.Serving.{Serving, IsServing, cut_of, moments_in, sessions_in}
use Rattle.ctl_server.specs.Cause.{EndsWell}

-- a desk of this number, at a history with this opening, has seen these entries
pub record HasSeen (number : ℕ) (opening : State) (entries : List Entry) (desk : Sight) : Type 0 where
  pub bears : desk.number ≡ number
  pub opens : desk.opening ≡ opening
  pub sees : seen desk ≡ entries

-- A connection was served at a desk of this number: before it the desk had seen the first entries of the history up to
-- where its cut begins, and after it those up to where its cut ends. The clock gave these moments for it.
pub record StandsIn (number : ℕ) (opening : State) (history : List Entry) (moments : List ℕ) (serving : Serving)
    : Type 0 where
  pub served : IsServing serving
  pub rises : (cut_of serving).before ≤ (cut_of serving).after
  pub within : (cut_of serving).after ≤ length history
  pub before : HasSeen number opening (take (cut_of serving).before history) serving.desk
  pub after : HasSeen number opening (take (cut_of serving).after history) serving.desk'
  pub gives : moments_in serving ≡ moments

-- Connections were served one after another at a desk of this number, by a clock that gave these moments. Each stands
-- in the history with the moments that are its turn, and each later one's cut begins where this one's ends, or behind.
abbrev pub Served : ℕ → State → List Entry → List ℕ → List Serving → Type 0
Served number opening history moments [] = Unit {0}
Served number opening history moments (serving ∷ servings) =
    StandsIn number opening history (take (cut_of serving).readings moments) serving
    × All (λ later. (cut_of serving).after ≤ (cut_of later).before) servings
    × Served number opening history (drop (cut_of serving).readings moments) servings

-- the entries of a history between the ends of a cut
abbrev pub between : Cut → List Entry → List Entry
between cut history = drop cut.before (take cut.after history)

-- those within the cuts of these sessions that bear a number
abbrev pub entries_within : ℕ → List Entry → List LinkSession → List Entry
entries_within number history sessions =
    flat_map (λ session. of_session number (between session.cut history)) sessions

-- a place of the history lies within a session's cut
abbrev pub IsWithin : ℕ → LinkSession → Type 0
IsWithin place session = (session.cut.before ≤ place) × (place < session.cut.after)

-- The sessions that a door keeps are those of connections that were served so. Where no read and no write of a link
-- failed, its session ended by its bytes or by a shutdown.
pub record KeepsServed (number : ℕ) (opening : State) (history : List Entry) (moments : List ℕ)
    (sessions : List LinkSession) : Type 0 where
  pub servings : List Serving
  pub sessions_are : sessions ≡ sessions_in servings
  pub served : Served number opening history moments servings
  pub well : All EndsWell servings
