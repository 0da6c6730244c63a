-- What the parts of a server begin with, and what they leave.
use Rattle.std.specs.Prelude.{◌≡◌, ◌≢◌, ℕ, ◌<◌, true, List, [], ◌∷◌, ◌++◌, All, Any, Option, Some, None, IfSome}
use Rattle.atomic_table.specs.Seated.{TableId}
use Rattle.slurm_io.specs.Wire.{Wire}
use Rattle.slurm_net.specs.Course.{Course}
use Rattle.slurm_net.specs.Session.{LinkSession}
use Rattle.turn_lock.specs.declared.view.Claim.{Claim}
use Rattle.turn_lock.specs.Views.{Differ, StartsWith}
use Rattle.ctl_state.specs.State.{State}
use Rattle.ctl_desk.specs.declared.entry.Entry.{Entry}
use Rattle.ctl_desk.specs.History.{BookState, History, of_session, present}
use Rattle.ctl_server.specs.Locked.{BookView}
use Rattle.ctl_server.specs.declared.working.WorkerEnd.{WorkerEnd}
use Rattle.ctl_server.specs.declared.working.WorkerEnd.TheVariants.{Shut, DoorFault, Memory}
use Rattle.ctl_server.specs.declared.workers.Seat.{Seat}
use Rattle.ctl_server.specs.declared.workers.Worked.{Worked}
use Rattle.ctl_server.specs.Numbered.{AreOfWorker}

-- the history that a pass has seen, where the first state was this one
abbrev pub seen_by : State → BookView → History
seen_by opening pass = record { opening = opening; entries = pass.seen }

-- a pass of a lock whose book began with this state
abbrev pub BeganWith : State → BookView → Type 0
BeganWith opening pass = (first : BookState) × (pass.first ≡ Some first) × (first.opening ≡ opening)

-- A pass that a part begins with: it has made nothing.
pub record IsNewPass (lock : TableId) (opening : State) (pass : BookView) : Type 0 where
  pub own : pass.lock ≡ lock
  pub began : BeganWith opening pass
  pub mine : pass.mine ≡ []

-- The whole history, by a pass: it goes on from what the pass has seen, and no further entry bears its number.
pub record IsWhole (opening : State) (pass : BookView) (book : BookState) : Type 0 where
  pub opening_is : book.opening ≡ opening
  pub seen : StartsWith book.entries pass.seen
  pub mine : pass.mine ≡ of_session pass.number book.entries

-- a pass that comes back has seen an accepted shutdown
abbrev pub HasSeenShut : State → BookView → Type 0
HasSeenShut opening pass = (present (seen_by opening pass)).is_shut ≡ true

-- a worker may begin: its pass is of this lock, and no link of its door is out
abbrev pub CanWork : {A C G : Type 0} → TableId → (A → Option Wire) → Seat A C G → Type 0
CanWork lock out_of seat = (seat.pass.lock ≡ lock) × (out_of seat.door ≡ None)

module _ {A C G : Type 0} (lock : TableId) (out_of : A → Option Wire) (faults_of : A → ℕ)
    (sessions_of : A → Option (List LinkSession)) (moments_of : C → Option (List ℕ)) (course_of : C → Option Course)
  where
    -- what a worker begins with: a new pass, a door as it is made, and a clock of this course that has given no moment
    pub record IsReady (opening : State) (course : Option Course) (seat : Seat A C G) : Type 0 where
      pub pass : IsNewPass lock opening seat.pass
      pub nobody : out_of seat.door ≡ None
      pub unfailed : faults_of seat.door ≡ 0
      pub unserved : IfSome (sessions_of seat.door) (λ served. served ≡ [])
      pub unread : IfSome (moments_of seat.clock) (λ given. given ≡ [])
      pub tells : IfSome course (λ _. moments_of seat.clock ≡ Some [])
      pub course_is : course_of seat.clock ≡ course

-- What a worker leaves: a pass, a door that has failed where it ended so, and hasn't where it ended by the shutdown, and,
-- where the door tells its sessions and memory wasn't wanting, these are the worker's by the whole history.
pub record IsLeft {A : Type 0} (lock : TableId) (faults_of : A → ℕ) (sessions_of : A → Option (List LinkSession))
    (opening : State) (course : Option Course) (worked : Worked A) : Type 0 where
  pub own : worked.pass.lock ≡ lock
  pub failed : worked.end ≡ DoorFault → 0 < faults_of worked.door
  pub unfailed : worked.end ≡ Shut → faults_of worked.door ≡ 0
  pub served : worked.end ≢ Memory → IfSome (sessions_of worked.door) (λ sessions. (book : BookState)
      → IsWhole opening worked.pass book → AreOfWorker course book worked.pass.number sessions)

-- the claim that a pass makes where another one takes it in
abbrev pub claim_of : BookView → Claim Entry
claim_of pass = record { number = pass.number; entries = pass.mine }

-- what passes claim that are taken in one after the other, with those that they took in
abbrev pub claims_of : List BookView → List (Claim Entry)
claims_of [] = []
claims_of (pass ∷ passes) = (claim_of pass ∷ pass.taken) ++ claims_of passes

-- A pass has taken in others: it has seen what they had seen, and has their claims behind its own.
pub record HasMet (old : BookView) (others : List BookView) (new : BookView) : Type 0 where
  pub seen : StartsWith new.seen old.seen
  pub seen_too : All (λ (other : BookView). StartsWith new.seen other.seen) others
  pub taken : new.taken ≡ old.taken ++ claims_of others
  pub same : (new.lock ≡ old.lock) × (new.first ≡ old.first) × (new.number ≡ old.number)

-- how two workers ended, taken together: for want of memory where one did, else by a door's fault where one did
abbrev pub worse : WorkerEnd → WorkerEnd → WorkerEnd
worse Memory other = Memory
worse Shut other = other
worse DoorFault Memory = Memory
worse DoorFault Shut = DoorFault
worse DoorFault DoorFault = DoorFault

-- how workers ended, taken together: all by the shutdown, or the door of one failed
abbrev pub EndBy : {A : Type 0} → List (Worked A) → WorkerEnd → Type 0
EndBy {A} worked Shut = All (λ (one : Worked A). one.end ≡ Shut) worked
EndBy {A} worked DoorFault = Any (λ (one : Worked A). one.end ≡ DoorFault) worked
EndBy {A} worked Memory = Unit {0}

-- what workers leave that began at these seats, whichever opening and course that was
abbrev pub AreLeft : {A C G : Type 0} → TableId → (A → Option Wire) → (A → ℕ) → (A → Option (List LinkSession))
    → (C → Option (List ℕ)) → (C → Option Course) → List (Seat A C G) → List (Worked A) → Type 0
AreLeft lock out_of faults_of sessions_of moments_of course_of seats all = (opening : State) (course : Option Course)
    → All (IsReady lock out_of faults_of sessions_of moments_of course_of opening course) seats
    → All (IsLeft lock faults_of sessions_of opening course) all

-- A further pass, by the one that it was split from.
pub record IsSplit (pass new : BookView) : Type 0 where
  pub own : new.lock ≡ pass.lock
  pub first : new.first ≡ pass.first
  pub mine : new.mine ≡ []

-- a pass as it was, with further words found
abbrev pub IsStill : BookView → BookView → Type 0
IsStill old new = new ≡ record old { found = new.found }

-- The book of a lock, by a pass of it: it goes on from what the pass has seen, under the opening with which the lock was
-- made; each pass that it took in made just the entries that bear its number; and these numbers differ.
pub record IsBookOf (pass : BookView) (book : BookState) : Type 0 where
  pub seen : StartsWith book.entries pass.seen
  pub claims : All (λ (claim : Claim Entry). claim.entries ≡ of_session claim.number book.entries) pass.taken
  pub differ : Differ pass.taken
  pub begins : IfSome pass.first (λ first. book.opening ≡ first.opening)
