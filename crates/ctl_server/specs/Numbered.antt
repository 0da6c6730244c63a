-- What the workers of a server did, by the history of its book.
use Rattle.std.specs.Prelude.{◌≡◌, ◌≢◌, ℕ, ◌-◌, ◌<◌, ◌^◌, List, Any, AllPairs, slice_get, Option, IfSome}
use Rattle.std.specs.List.{AllZip}
use Rattle.slurm_net.specs.Course.{Course, first_moments}
use Rattle.slurm_net.specs.Session.{LinkSession}
use Rattle.ctl_desk.specs.declared.entry.Entry.{Entry}
use Rattle.ctl_desk.specs.History.{BookState}
use Rattle.ctl_server.specs.Served.{IsWithin, KeepsServed}
use Rattle.ctl_server.specs.Serving.{readings_of}

-- each entry that bears the number stands within one of the sessions
abbrev pub StandWithin : ℕ → List Entry → List LinkSession → Type 0
StandWithin number entries sessions =
    (place : ℕ) → IfSome (slice_get entries place) (λ entry. entry.session ≡ number → Any (IsWithin place) sessions)

-- The sessions of one worker, whose pass has this number, by the history of the book: its entries stand within them;
-- and where the clock tells its course, and wasn't read more often than it tells, they were served so at the first
-- moments of that course.
pub record AreOfWorker (course : Option Course) (book : BookState) (number : ℕ) (sessions : List LinkSession)
    : Type 0 where
  pub within : StandWithin number book.entries sessions
  pub served : IfSome course (λ course. readings_of sessions < 2 ^ 64 - 1
      → KeepsServed number book.opening book.entries (first_moments course (readings_of sessions)) sessions)

-- To each list of sessions belongs the number of a pass, and these numbers all differ.
pub record AreServed (course : Option Course) (book : BookState) (lists : List (List LinkSession)) : Type 0 where
  pub numbers : List ℕ
  pub differ : AllPairs (λ one other. one ≢ other) numbers
  pub each : AllZip (AreOfWorker course book) numbers lists
