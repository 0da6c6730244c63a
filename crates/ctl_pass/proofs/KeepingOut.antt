-- What a pass plans keeps to the reservations: each placement keeps out of the times at which its job may not have
-- nodes.
use Rattle.std.proofs.Common.{◌≡◌, ℕ, ◌+◌, ◌≤◌, ◌<◌, Bool, true, false, ◌&&◌, cond, leb, ltb, List, [], ◌∷◌, ◌++◌, flat_map, get_or, unwrap_or, All, Any, Option, Some, None, option_map, refl, ap, sym, ◌∙◌, arith}
use Rattle.std.specs.Prelude.{filter, option_to_list, slice_get}
use Rattle.std.specs.List.{list_any}
use Rattle.std.proofs.lemmas.Bool.{both_ways, false_from_ne_true}
use Rattle.std.proofs.lemmas.Bool.Decides.{nat_tests}
use Rattle.std.proofs.lemmas.List.{get_or_default}
use Rattle.std.proofs.lemmas.List.Folds.{list_any_at}
use Rattle.std.proofs.lemmas.List.Elements.{All-append, All-cons, All-filter, All-head, All-nil, All-tail}
use Rattle.plain_data.specs.declared.limit.Limit.{Limit}
use Rattle.plain_data.specs.declared.limit.Limit.TheVariants.{Minutes, Unlimited}
use Rattle.resource_profile.specs.declared.Hold.{Hold}
use Rattle.resource_profile.specs.declared.NodeRoom.{NodeRoom}
use Rattle.backfill_planner.specs.declared.Placed.{Placed}
use Rattle.backfill_planner.specs.declared.Share.{Share}
use Rattle.backfill_planner.specs.declared.job.Barred.{Barred}
use Rattle.backfill_planner.specs.declared.job.PlanJob.{PlanJob}
use Rattle.backfill_planner.specs.Bases.{BaseView}
use Rattle.backfill_planner.specs.Giving.{bars, is_barred, window_end}
use Rattle.backfill_planner.specs.Placements.{IsPlacement}
use Rattle.backfill_planner.specs.Plans.{holds_of, placed_of, plan_beside, plan_of}
use Rattle.plain_data.specs.Rows.{has_id}
use Rattle.node_state.specs.declared.partition_record.PartRecord.{PartRecord}
use Rattle.job_table.specs.declared.record.JobRecord.{JobRecord}
use Rattle.job_table.specs.JobStates.{is_pending}
use Rattle.node_state.specs.declared.reservation_record.Reservation.{Reservation}
use Rattle.node_state.specs.ReservationLaws.{LastingTwice}
use Rattle.node_state.specs.Reservations.{lasting}
use Rattle.ctl_state.specs.Laws.{OrderMoves}
use Rattle.ctl_state.specs.Planning.{barred_by, barred_of, is_theirs, outside, plan_job, seconds_of, throughout}
use Rattle.ctl_state.specs.State.{State}
use Rattle.ctl_waiting.specs.Candidates.{need_in, ranked}
use Rattle.ctl_pass.specs.Limits.{limit_end}
use Rattle.ctl_pass.specs.Readiness.{base_of, planned, ready}
use Rattle.ctl_pass.specs.Reserved.{IsOfJob, KeepsTo, PlansKeepToReservations, is_in_time}
use Rattle.ctl_pass.proofs.Lists.{All-joined}
use Rattle.ctl_pass.proofs.Ranks.{ranked-all, waiting}
use Rattle.plain_data.specs.declared.seconds.TheConstants.{FOREVER}
use Rattle.list_lemmas.proofs.Elements.{any-none as none-passes}

-- the laws that this rests on
pub record KeepingLaws : Type 0 where
  pub moves : OrderMoves JobRecord
  pub first : (rooms : List NodeRoom) (holds : List Hold) (job : PlanJob) (lo hi : ℕ) (placed : Placed)
      → placed_of rooms holds job lo hi ≡ Some placed → IsPlacement rooms holds job lo hi placed
  pub clear : (rooms : List NodeRoom) (holds : List Hold) (job : PlanJob) (lo hi : ℕ) (placed : Placed)
      → placed_of rooms holds job lo hi ≡ Some placed
      → All (λ (share : Share).
      is_barred job.barred share.node placed.start (window_end job placed.start) ≡ false) placed.parts
  pub lasting_twice : LastingTwice

-- what holds of each placement of a job of which something else holds, holds of a plan of such jobs
of_option : {X : Type 0} (P : X → Type 0) (some : Option X) → ((x : X) → some ≡ Some x → P x)
    → All P (option_to_list some)
of_option P None each = All-nil P
of_option P (Some x) each = All-cons P x [] (each x refl) (All-nil P)

plan-all : (Q : PlanJob → Type 0) (R : Placed → Type 0) (base : BaseView) (now : ℕ)
    → ((holds : List Hold) (job : PlanJob) (placed : Placed) → Q job
    → placed_of base.rooms holds job now base.horizon ≡ Some placed → R placed)
    → (holds : List Hold) (ranked : List PlanJob) → All Q ranked → All R (plan_beside base now holds ranked)
unfolding plan_beside
plan-all Q R base now each holds [] all = All-nil R
plan-all Q R base now each holds (job ∷ later) all =
    let some = placed_of base.rooms holds job now base.horizon in
    All-append R (option_to_list some) (plan_beside base now (holds ++ holds_of job some) later)
    (of_option R some (λ placed is. each holds job placed (All-head Q job later all) is))
    (plan-all Q R base now each (holds ++ holds_of job some) later (All-tail Q job later all))

-- what is needed is what this job needs beside these reservations
record IsNeedOf (reservations : List Reservation) (need : PlanJob) (job : JobRecord) : Type 0 where
  pub id : job.id ≡ need.id
  pub barred : need.barred ≡ barred_of reservations job.terms.reservation
  pub seconds : need.seconds ≡ seconds_of job.limit

abbrev IsNeedOfAny : List Reservation → List JobRecord → PlanJob → Type 0
IsNeedOfAny reservations jobs need = Any (IsNeedOf reservations need) jobs

-- what is ranked is what some jobs need
ranked-needs : OrderMoves JobRecord → (s : State) (now : ℕ) (reservations : List Reservation)
    → lasting now s.reservations ≡ reservations → All (IsNeedOfAny reservations s.jobs) (ranked s now)
unfolding plan_job
ranked-needs moves s now reservations same =
    let P : PlanJob → Type 0 = IsNeedOfAny reservations s.jobs in
    let Q : JobRecord → Type 0 =
    λ job. (partition : PartRecord) (bounds : ℕ × ℕ) → slice_get s.partitions job.partition ≡ Some partition
    → P (need_in s (lasting now s.reservations) partition bounds job) in
    let each : All Q s.jobs = λ k d below partition bounds is. (
      k,
      get_or s.jobs k d,
      below,
      get_or_default s.jobs k (get_or s.jobs k d) d below,
      record {
        id = refl;
        barred = ap (λ (some : List Reservation). barred_of some (get_or s.jobs k d).terms.reservation) same;
        seconds = refl;
      },
    ) in
    ranked-all moves P s now (All-filter (λ (job : JobRecord). is_pending job.state) Q s.jobs each)

-- the window of such a need is that of the job
window-limit : (limit : Limit) (start : ℕ)
    → unwrap_or (option_map (λ seconds. start + seconds) (seconds_of limit)) FOREVER ≡ limit_end limit start
window-limit (Minutes minutes) start = refl
window-limit Unlimited start = refl

window-is : (need : PlanJob) (limit : Limit) (start : ℕ) → need.seconds ≡ seconds_of limit
    → window_end need start ≡ limit_end limit start
window-is need limit start same =
    ap (λ (some : Option ℕ). unwrap_or (option_map (λ seconds. start + seconds) some) FOREVER) same
    ∙ window-limit limit start

clear-also : (one other : List Barred) (node from until last : ℕ) → one ≡ other → until ≡ last
    → is_barred one node from until ≡ false → is_barred other node from last ≡ false
clear-also one other node from until last same ends clear = rw (← same, ← ends) clear

-- what no time bars each of them doesn't
abbrev IsClear : ℕ → ℕ → ℕ → Barred → Type 0
IsClear node from until time = bars node from until time ≡ false

each-clear : (reservations : List Reservation) (name : Option (List ℕ)) (node from until : ℕ)
    → is_barred (barred_of reservations name) node from until ≡ false
    → All (λ (reservation : Reservation). All (IsClear node from until) (barred_by name reservation)) reservations
unfolding barred_of
each-clear reservations name node from until clear =
    All-joined (IsClear node from until) (barred_by name) reservations
    (none-passes (bars node from until) (flat_map (barred_by name) reservations) clear)

rest-false : (here rest : Bool) → here ≡ true → (here && rest) ≡ false → rest ≡ false
rest-false true rest is clear = clear
rest-false false rest is clear = absurd cc

-- a second between two others, where those are within a time, or cross none of it
inside : (least last start end from until second : ℕ) → (ltb from start && ltb least until) ≡ false
    → (ltb from last && ltb end until) ≡ false → least ≤ second → second < last → from ≤ second → second < until
    → (leb start second && ltb second end) ≡ true
inside least last start end from until second before after positive counts low high = grind (arith, nat_tests)

beyond : (start end from until second : ℕ) → (ltb from end && ltb start until) ≡ false → from ≤ second
    → second < until → (leb start second && ltb second end) ≡ false
beyond start end from until second clear low high = grind (arith, nat_tests)

-- a second of a window that is clear of what a reservation bars
second-keeps : (name : Option (List ℕ)) (reservation : Reservation) (node from until second : ℕ)
    → All (IsClear node from until) (barred_by name reservation) → has_id reservation.nodes node ≡ true
    → from ≤ second → second < until → second < FOREVER
    → is_in_time second reservation ≡ is_theirs name reservation
second-keeps name reservation node from until second clear here low high counts =
    by (is_theirs name reservation) clear
  where
    by : (theirs : Bool)
        → All (IsClear node from until) (cond theirs (outside reservation) (throughout reservation ∷ []))
        → is_in_time second reservation ≡ theirs
    by true clear =
        inside 0 FOREVER reservation.start reservation.end from until second
        (rest-false (has_id reservation.nodes node) (ltb from reservation.start && ltb 0 until) here
        (clear 0 (throughout reservation) (omega arith)))
        (rest-false (has_id reservation.nodes node) (ltb from FOREVER && ltb reservation.end until) here
        (clear 1 (throughout reservation) (omega arith)))
        (omega arith) counts low high
    by false clear =
        beyond reservation.start reservation.end from until second
        (rest-false (has_id reservation.nodes node) (ltb from reservation.end && ltb reservation.start until) here
        (clear 0 (throughout reservation) (omega arith)))
        low high

-- so a placement that is clear of what the reservations bar keeps to them
placed-keeps : (reservations : List Reservation) (job : JobRecord) (placed : Placed)
    → All (λ (share : Share). is_barred (barred_of reservations job.terms.reservation) share.node placed.start
    (limit_end job.limit placed.start) ≡ false) placed.parts
    → All (KeepsTo job placed) reservations
placed-keeps reservations job placed clear =
    let until = limit_end job.limit placed.start in
    λ i d below j e within here second is.
    let node = (get_or placed.parts j e).node in
    second-keeps job.terms.reservation (get_or reservations i d) node placed.start until second
    (each-clear reservations job.terms.reservation node placed.start until (clear j e within) i d below)
    here is.from is.before is.last

need-keeps : (reservations : List Reservation) (need : PlanJob) (job : JobRecord) (placed : Placed)
    → IsNeedOf reservations need job
    → All (λ (share : Share).
    is_barred need.barred share.node placed.start (window_end need placed.start) ≡ false) placed.parts
    → All (KeepsTo job placed) reservations
need-keeps reservations need job placed is clear =
    placed-keeps reservations job placed
    (λ k d below. clear-also need.barred (barred_of reservations job.terms.reservation)
    (get_or placed.parts k d).node placed.start (window_end need placed.start) (limit_end job.limit placed.start)
    is.barred (window-is need job.limit placed.start is.seconds) (clear k d below))

-- and a plan does
abbrev KeepsToAll : List Reservation → List JobRecord → Placed → Type 0
KeepsToAll reservations jobs placed =
    Any (λ (job : JobRecord). (job.id ≡ placed.id) × All (KeepsTo job placed) reservations) jobs

planned-keeps : KeepingLaws → (s : State) (now : ℕ) (reservations : List Reservation)
    → lasting now s.reservations ≡ reservations → All (KeepsToAll reservations s.jobs) (planned s now)
unfolding planned plan_of
planned-keeps laws s now reservations same =
    let base = base_of s now in
    plan-all (IsNeedOfAny reservations s.jobs) (KeepsToAll reservations s.jobs) base now
    (λ holds need placed found is. (
      found.0,
      found.1,
      found.2,
      found.3,
      (
        found.4.id ∙ sym (laws.first base.rooms holds need now base.horizon placed is).id,
        need-keeps reservations need found.1 placed found.4
            (laws.clear base.rooms holds need now base.horizon placed is),
      ),
    ))
    base.holds (ranked s now) (ranked-needs laws.moves s now reservations same)

pub plans-keep : KeepingLaws → (s : State) (now : ℕ) → PlansKeepToReservations s now
plans-keep laws s now =
    planned-keeps laws (ready s now) now (lasting now s.reservations) (laws.lasting_twice now s.reservations)
