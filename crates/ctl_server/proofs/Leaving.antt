-- What a worker leaves, by what it began with.
use Rattle.std.proofs.Common.{◌≡◌, ◌∙◌, ◌-◌, ◌^◌, ◌<◌, ℕ, List, [], ◌++◌, length, Option, Some, None, IfSome, refl, sym, ap, subst, arith}
use Rattle.std.specs.Prelude.{Any, slice_get}
use Rattle.slurm_io.specs.Wire.{Wire}
use Rattle.slurm_io.specs.Faults.{next_count}
use Rattle.slurm_net.specs.Course.{Course, FollowsCourse, first_moments}
use Rattle.slurm_net.specs.Session.{LinkSession}
use Rattle.atomic_table.specs.Seated.{TableId}
use Rattle.turn_lock.specs.Views.{StartsWith}
use Rattle.turn_lock.specs.Passes.{IsKnown, SeesMore}
use Rattle.ctl_state.specs.State.{State}
use Rattle.ctl_desk.specs.declared.entry.Entry.{Entry}
use Rattle.ctl_desk.specs.Desk.{Sight, GoesOn, seen}
use Rattle.ctl_desk.specs.History.{BookState, of_session}
use Rattle.ctl_server.specs.Locked.{BookView, LockedSeat, sight_at, sight_there}
use Rattle.ctl_session.specs.Clock.{Timing, Gives, timing}
use Rattle.ctl_server.specs.declared.working.WorkerEnd.{WorkerEnd}
use Rattle.ctl_server.specs.declared.working.WorkerEnd.TheVariants.{Memory}
use Rattle.ctl_server.specs.Cause.{IsCause}
use Rattle.ctl_server.specs.Run.{Follow}
use Rattle.ctl_server.specs.Served.{IsWithin, KeepsServed}
use Rattle.ctl_server.specs.Serving.{Serving, moments_of, readings_of, sessions_in}
use Rattle.ctl_server.specs.Standing.{Standing}
use Rattle.ctl_server.specs.Worked.{IsWorked, AddsSessions}
use Rattle.ctl_server.specs.declared.workers.Seat.{Seat}
use Rattle.ctl_server.specs.Numbered.{AreOfWorker}
use Rattle.ctl_server.specs.Parts.{IsLeft, IsReady, IsWhole}
use Rattle.ctl_server.proofs.Sitting.{Sat, sat, opened}

-- what is known of connections that followed one another
pub record Laws : Type 0 where
  pub goes_on : (desk desk' : Sight) (clock clock' : Timing) (servings : List Serving)
      → Follow desk clock servings desk' clock' → GoesOn desk desk'
  pub within : (desk desk' : Sight) (clock clock' : Timing) (servings : List Serving) (history : List Entry)
      → Follow desk clock servings desk' clock' → StartsWith history (seen desk')
      → of_session desk.number history ≡ of_session desk.number (seen desk') → of_session desk.number (seen desk) ≡ []
      → (place : ℕ) (entry : Entry) → slice_get history place ≡ Some entry → entry.session ≡ desk.number
      → Any (IsWithin place) (sessions_in servings)
  pub keeps : (old new : Standing) (end : WorkerEnd) (servings : List Serving) (history : List Entry)
      → IsWorked old new (Some end) servings → (end ≡ Memory → ⊥) → StartsWith history (seen new.desk)
      → KeepsServed old.desk.number old.desk.opening history (moments_of servings) (sessions_in servings)
  pub count : (desk desk' : Sight) (clock clock' : Timing) (servings : List Serving)
      → Follow desk clock servings desk' clock' → length (moments_of servings) ≡ readings_of (sessions_in servings)
  pub course : (clock clock' : Timing) (given : List ℕ) → Gives clock clock' given → clock.moments ≡ Some []
      → FollowsCourse clock'.course clock'.moments → length given < 2 ^ 64 - 1
      → IfSome clock.course (λ course. given ≡ first_moments course (length given))

if_told : {X : Type 0} (told : Option X) (P : X → Type 0) → ((x : X) → told ≡ Some x → P x) → IfSome told P
if_told None P all = tt
if_told (Some x) P all = all x refl

-- what a door tells in the end that had told nothing before
if_added : (old new : Option (List LinkSession)) (sessions : List LinkSession) (P : List LinkSession → Type 0)
    → AddsSessions old new sessions → IfSome old (λ served. served ≡ []) → P sessions → IfSome new P
if_added old None sessions P adds none holds = tt
if_added None (Some after) sessions P adds none holds = absurd adds
if_added (Some before) (Some after) sessions P adds none holds =
    subst P (sym (adds ∙ ap (λ (front : List LinkSession). front ++ sessions) none)) holds

opening_there : (opening : State) (before : ℕ) (at : Option BookView) → (sight_at opening before at).opening ≡ opening
opening_there opening before None = refl
opening_there opening before (Some pass) = refl

counted : 0 < next_count 0
counted = omega arith

-- what a worker did, with what its desk and its pass say
pub record Did (opening : State) (pass pass' : BookView) (desk desk' : LockedSeat) (old new : Standing) (end : WorkerEnd)
    (servings : List Serving) : Type 0 where
  pub laws : Laws
  pub from_desk : old.desk ≡ sight_there desk
  pub to_desk : new.desk ≡ sight_there desk'
  pub sat : Sat pass pass' old.desk new.desk
  pub opens : old.desk.opening ≡ opening
  pub mine : pass.mine ≡ []
  pub known : IsKnown (λ (entry : Entry). entry.session) pass'
  pub worked : IsWorked old new (Some end) servings
  pub follows : FollowsCourse new.clock.course new.clock.moments

module _ {opening : State} {pass pass' : BookView} {desk desk' : LockedSeat} {old new : Standing} {end : WorkerEnd}
    {servings : List Serving} (did : Did opening pass pass' desk desk' old new end servings) (book : BookState)
    (whole : IsWhole opening pass' book) where
  starts : StartsWith book.entries (seen new.desk)
  starts = subst (StartsWith book.entries) (sym did.sat.seen_is) whole.seen

  own_alike : of_session old.desk.number book.entries ≡ of_session old.desk.number (seen new.desk)
  own_alike = subst (λ (n : ℕ). of_session n book.entries ≡ of_session n (seen new.desk)) (sym did.sat.number_is)
      (sym whole.mine ∙ (did.known.mine ∙ ap (λ (es : List Entry). of_session pass'.number es) (sym did.sat.seen_is)))

  unmade_before : of_session old.desk.number (seen old.desk) ≡ []
  unmade_before = subst (λ (n : ℕ). of_session n (seen old.desk) ≡ []) (sym did.sat.number_is) (did.sat.unmade did.mine)

  stands_within : (place : ℕ) → IfSome (slice_get book.entries place)
      (λ entry. entry.session ≡ pass'.number → Any (IsWithin place) (sessions_in servings))
  stands_within place =
      if_told (slice_get book.entries place)
      (λ entry. entry.session ≡ pass'.number → Any (IsWithin place) (sessions_in servings))
      (λ entry at bears. did.laws.within old.desk new.desk old.clock new.clock servings book.entries
      did.worked.follow starts own_alike unmade_before place entry at (bears ∙ sym did.sat.number_is))

  kept : (end ≡ Memory → ⊥) → KeepsServed pass'.number book.opening book.entries (moments_of servings) (sessions_in servings)
  kept apart =
      let keeps = did.laws.keeps old new end servings book.entries did.worked apart starts in
      let numbered = subst (λ (n : ℕ). KeepsServed n old.desk.opening book.entries (moments_of servings) (sessions_in servings))
      did.sat.number_is keeps in
      subst (λ (o : State). KeepsServed pass'.number o book.entries (moments_of servings) (sessions_in servings))
      (did.opens ∙ sym whole.opening_is) numbered

  timed : (course : Option Course) → old.clock.course ≡ course → IfSome course (λ _. old.clock.moments ≡ Some [])
      → (end ≡ Memory → ⊥) → IfSome course (λ course. readings_of (sessions_in servings) < 2 ^ 64 - 1
      → KeepsServed pass'.number book.opening book.entries (first_moments course (readings_of (sessions_in servings)))
      (sessions_in servings))
  timed None is unread apart = tt
  timed (Some course) is unread apart = λ few.
      let count = did.laws.count old.desk new.desk old.clock new.clock servings did.worked.follow in
      let short : length (moments_of servings) < 2 ^ 64 - 1 = subst (λ (n : ℕ). n < 2 ^ 64 - 1) (sym count) few in
      let first = did.laws.course old.clock new.clock (moments_of servings) did.worked.gives unread did.follows short in
      let by_course : moments_of servings ≡ first_moments course (length (moments_of servings)) =
      subst (λ (o : Option Course). IfSome o (λ course. moments_of servings ≡ first_moments course (length (moments_of servings)))) is first in
      subst (λ (ms : List ℕ). KeepsServed pass'.number book.opening book.entries ms (sessions_in servings))
      (by_course ∙ ap (first_moments course) count) (kept apart)

  pub of_worker : (course : Option Course) → old.clock.course ≡ course → IfSome course (λ _. old.clock.moments ≡ Some [])
      → (end ≡ Memory → ⊥) → AreOfWorker course book pass'.number (sessions_in servings)
  of_worker course is unread apart = record { within = stands_within; served = timed course is unread apart }

pub left_by : {A C G : Type 0} (lock : TableId) (out_of : A → Option Wire) (faults_of : A → ℕ)
    (sessions_of : A → Option (List LinkSession)) (moments : C → Option (List ℕ)) (course_of : C → Option Course)
    (opening : State) (course : Option Course) (seat : Seat A C G) (desk desk' : LockedSeat) (door : A) (clock : C)
    (pass : BookView) (end : WorkerEnd) → Laws
    → IsReady {A = A} {C = C} {G = G} lock out_of faults_of sessions_of moments course_of opening course seat
    → IfSome desk.pass (λ now. SeesMore seat.pass now) → IfSome seat.pass.first (λ first. desk.opening ≡ first.opening)
    → desk'.pass ≡ Some pass → IsKnown (λ (entry : Entry). entry.session) pass
    → (servings : List Serving) × IsWorked (record {
      sessions = sessions_of seat.door;
      faults = faults_of seat.door;
      desk = sight_there desk;
      clock = timing (course_of seat.clock) (moments seat.clock);
    }) (record {
      sessions = sessions_of door;
      faults = faults_of door;
      desk = sight_there desk';
      clock = timing (course_of clock) (moments clock);
    }) (Some end) servings
    → FollowsCourse (course_of clock) (moments clock)
    → IsLeft lock faults_of sessions_of opening course (record { door = door; pass = pass; end = end })
left_by lock out_of faults_of sessions_of moments course_of opening course seat desk desk' door clock pass end laws ready sees opens back known worked follows =
    let old : Standing = record {
      sessions = sessions_of seat.door;
      faults = faults_of seat.door;
      desk = sight_there desk;
      clock = timing (course_of seat.clock) (moments seat.clock);
    } in
    let new : Standing = record {
      sessions = sessions_of door;
      faults = faults_of door;
      desk = sight_there desk';
      clock = timing (course_of clock) (moments clock);
    } in
    let servings = worked.0 in
    let sits = sat seat.pass pass desk desk' sees
    (laws.goes_on old.desk new.desk old.clock new.clock servings worked.1.follow) back known in
    let did : Did opening seat.pass pass desk desk' old new end servings = record {
      laws = laws;
      from_desk = refl;
      to_desk = refl;
      sat = sits;
      opens = opening_there desk.opening desk.before desk.pass ∙ opened opening seat.pass desk.opening ready.pass.began opens;
      mine = ready.pass.mine;
      known = known;
      worked = worked.1;
      follows = follows;
    } in record {
      own = sits.own ∙ ready.pass.own;
      failed = λ is.
          let cause = subst (λ (end : WorkerEnd). IsCause end servings old new) is worked.1.cause in
          subst (λ (n : ℕ). 0 < n) (sym (cause.2.0 ∙ ap next_count ready.unfailed)) counted;
      unfailed = λ is.
          let cause = subst (λ (end : WorkerEnd). IsCause end servings old new) is worked.1.cause in
          cause.2 ∙ ready.unfailed;
      served = λ apart. if_added old.sessions new.sessions (sessions_in servings)
          (λ sessions. (book : BookState) → IsWhole opening pass book → AreOfWorker course book pass.number sessions)
          worked.1.sessions ready.unserved
          (λ book whole. of_worker did book whole course ready.course_is ready.tells apart);
    }
