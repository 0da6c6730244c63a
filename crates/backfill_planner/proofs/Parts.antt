-- What the placements of a plan are: of which jobs, when, and with which parts.
use Rattle.std.proofs.Common.{◌≡◌, ◌≢◌, ℕ, ◌+◌, ◌≤◌, ◌<◌, false, List, [], ◌∷◌, ◌++◌, length, map, All, Contains, arith, refl, get_or, slice_index, Option, Some, None}
use Rattle.std.specs.Prelude.{AllPairs, IfSome, option_map, option_to_list, unwrap_or}
use Rattle.std.proofs.lemmas.List.{length-map, get_or-map}
use Rattle.std.proofs.lemmas.List.Elements.{All-head, All-tail, All-cons, All-nil, All-weaker, All-map, All-contains_itself}
use Rattle.std.proofs.lemmas.List.Kept.{AllPairs-cons}
use Rattle.resource_profile.specs.declared.NodeRoom.{NodeRoom}
use Rattle.resource_profile.specs.declared.Hold.{Hold}
use Rattle.resource_profile.specs.Free.{room_at, free_cpus, free_mem, least_over}
use Rattle.resource_profile.specs.declared.picking.Dealt.{Dealt}
use Rattle.resource_profile.specs.Sets.{dealt, places, tasks_given}
use Rattle.backfill_planner.proofs.Windows.{dealt_places}
use Rattle.backfill_planner.specs.LowerLaws.{LowerLaws}
use Rattle.backfill_planner.specs.declared.Share.{Share}
use Rattle.backfill_planner.specs.declared.Placed.{Placed}
use Rattle.backfill_planner.specs.declared.job.PlanJob.{PlanJob}
use Rattle.backfill_planner.specs.Bases.{BaseView}
use Rattle.backfill_planner.specs.Giving.{window_end, is_barred, give, capacities}
use Rattle.backfill_planner.specs.Plans.{share_of, placed_of, holds_of, plan_beside, plan_of}
use Rattle.backfill_planner.specs.Placements.{IsPlacement, IsPlannable, IsOnRooms, IsPart, AreParts}
use Rattle.backfill_planner.proofs.Barring.{given-clear}
use Rattle.backfill_planner.proofs.Takes.{takes_some, gives_usable}
use Rattle.backfill_planner.proofs.Dealing.{IsGiven, dealt-given, dealt-some, length-capacities}
use Rattle.backfill_planner.proofs.Holding.{HoldsFree, capacity-give, placement-holds}
use Rattle.backfill_planner.proofs.LeastSecond.{placed-is}
use Rattle.plain_data.specs.declared.seconds.TheConstants.{FOREVER, LAST_START}
use Rattle.list_lemmas.proofs.Pairs.{pairs-head, pairs-tail}

pairs-unmap : {X Y : Type 0} (R : Y → Y → Type 0) (f : X → Y) (xs : List X) → AllPairs R (map f xs) → AllPairs (λ one other. R (f one) (f other)) xs
pairs-unmap R f xs pairs i j d low high =
    let there = pairs i j (f d) low (omega (arith, high, length-map xs f)) in
    rw (get_or-map f xs i d (f d) (omega (arith, low, high)), get_or-map f xs j d (f d) high) at there

-- what holds of a placement, if there is one
pub if_placed : (P : Placed → Type 0) (placed : Option Placed) → ((one : Placed) → placed ≡ Some one → P one) → IfSome placed P
if_placed P None each = tt
if_placed P (Some one) each = each one refl

-- the window ends after it begins
pub window-later : (job : PlanJob) (start : ℕ) → IsPlannable job → start ≤ LAST_START → start < window_end job start
window-later job start is low = by job.seconds is.seconds
  where
    by : (seconds : Option ℕ) → IfSome seconds (λ s. 1 ≤ s) → start < unwrap_or (option_map (λ s. start + s) seconds) FOREVER
    by None some = omega (arith, low)
    by (Some s) some = omega (arith, some)

-- what a placed job holds is free, on nodes that differ
pub placed-holds : (rooms : List NodeRoom) (holds : List Hold) (job : PlanJob) (lo hi : ℕ) (placed : Placed) → IsOnRooms rooms job → IsPlannable job → hi ≤ LAST_START → IsPlacement rooms holds job lo hi placed
    → HoldsFree rooms holds (holds_of job (Some placed))
placed-holds rooms holds job lo hi placed nodes is low placement =
    let caps = capacities rooms holds job placed.start in
    let parts = dealt caps job.need.tasks placement.set in
    let places_are : places parts ≡ placement.set = dealt_places caps job.need.tasks placement.set in
    placement-holds rooms holds job placed.id placed.start caps parts placed.parts refl
    (rw places_are placement.is_chosen) (rw places_are refl) placement.parts
    nodes is.once (window-later job placed.start is (omega (arith, placement.last, low)))

-- a node that gives is not barred
part-clear : (rooms : List NodeRoom) (holds : List Hold) (job : PlanJob) (start : ℕ) (part : Dealt) → IsGiven (capacities rooms holds job start) part → is_barred job.barred (slice_index job.nodes part.place) start (window_end job start) ≡ false
part-clear rooms holds job start part given =
    let below : part.place < length job.nodes = omega (arith, given.place, length-capacities rooms holds job start) in
    let node = slice_index job.nodes part.place in
    let gives : 1 ≤ give rooms holds job start node = rw (capacity-give rooms holds job start part.place below) at given.some in
    given-clear (is_barred job.barred node start (window_end job start)) _ gives

pub placed-clear : LowerLaws → (rooms : List NodeRoom) (holds : List Hold) (job : PlanJob) (lo hi : ℕ) (placed : Placed) → placed_of rooms holds job lo hi ≡ Some placed
    → All (λ (share : Share). is_barred job.barred share.node placed.start (window_end job placed.start) ≡ false) placed.parts
placed-clear laws rooms holds job lo hi placed is =
    let placement = placed-is laws rooms holds job lo hi placed is in
    let caps = capacities rooms holds job placed.start in
    let parts = dealt caps job.need.tasks placement.set in
    let given = dealt-given caps job.need.tasks placement.set placement.is_chosen.fits.giving in
    rw placement.parts
    (All-map (λ (share : Share). is_barred job.barred share.node placed.start (window_end job placed.start) ≡ false) (λ part. share_of rooms job part) parts
    (All-weaker (IsGiven caps) (λ part. is_barred job.barred (slice_index job.nodes part.place) placed.start (window_end job placed.start) ≡ false) (λ part one. part-clear rooms holds job placed.start part one) parts given))

-- each of its parts is on a node of the job
pub placed-own : LowerLaws → (rooms : List NodeRoom) (holds : List Hold) (job : PlanJob) (lo hi : ℕ) (placed : Placed) → placed_of rooms holds job lo hi ≡ Some placed → All (λ (share : Share). Contains job.nodes share.node) placed.parts
placed-own laws rooms holds job lo hi placed is =
    let placement = placed-is laws rooms holds job lo hi placed is in
    let caps = capacities rooms holds job placed.start in
    let parts = dealt caps job.need.tasks placement.set in
    let given = dealt-given caps job.need.tasks placement.set placement.is_chosen.fits.giving in
    rw placement.parts
    (All-map (λ (share : Share). Contains job.nodes share.node) (λ part. share_of rooms job part) parts
    (All-weaker (IsGiven caps) (λ part. Contains job.nodes (slice_index job.nodes part.place))
    (λ part one. All-contains_itself job.nodes part.place 0 (omega (arith, one.place, length-capacities rooms holds job placed.start))) parts given))

-- each of its parts is on a node that is there, with a task and a processor
placed-each : (rooms : List NodeRoom) (holds : List Hold) (job : PlanJob) (lo hi : ℕ) (placed : Placed) → IsOnRooms rooms job → IsPlannable job → IsPlacement rooms holds job lo hi placed
    → All (IsPart rooms) placed.parts
placed-each rooms holds job lo hi placed nodes is placement =
    let caps = capacities rooms holds job placed.start in
    let fits = placement.is_chosen.fits in
    let given = dealt-given caps job.need.tasks placement.set fits.giving in
    let some = dealt-some caps job.need.tasks placement.set fits.giving fits.at_most_tasks in
    rw placement.parts
    (All-map (IsPart rooms) (λ part. share_of rooms job part) (dealt caps job.need.tasks placement.set)
    (λ k d below. takes (get_or (dealt caps job.need.tasks placement.set) k d) (given k d below) (some k d below)))
  where
    takes : (part : Dealt) → IsGiven (capacities rooms holds job placed.start) part → 1 ≤ part.tasks → IsPart rooms (share_of rooms job part)
    takes part given some =
        let below : part.place < length job.nodes = omega (arith, given.place, length-capacities rooms holds job placed.start) in
        let node = slice_index job.nodes part.place in
        let cpus = least_over (λ moment. free_cpus rooms holds node moment) placed.start (window_end job placed.start) in
        let mem = least_over (λ moment. free_mem rooms holds node moment) placed.start (window_end job placed.start) in
        let clear = part-clear rooms holds job placed.start part given in
        let gives : 1 ≤ give rooms holds job placed.start node = rw (capacity-give rooms holds job placed.start part.place below) at given.some in
        record {
          node = nodes part.place 0 below;
          usable = gives_usable job (room_at rooms node) cpus mem (rw clear at gives);
          tasks = some;
          cpus = takes_some job (room_at rooms node) cpus mem part.tasks is.cpus some (rw clear at gives);
        }

placed-parts : (rooms : List NodeRoom) (holds : List Hold) (job : PlanJob) (lo hi : ℕ) (placed : Placed) → IsOnRooms rooms job → IsPlannable job → hi ≤ LAST_START → IsPlacement rooms holds job lo hi placed
    → AreParts rooms placed.parts
placed-parts rooms holds job lo hi placed nodes is low placement =
    let apart = (placed-holds rooms holds job lo hi placed nodes is low placement).apart in
    record {
      each = placed-each rooms holds job lo hi placed nodes is placement;
      apart = pairs-unmap (λ (one other : Hold). one.node ≢ other.node) (λ (share : Share). record { node = share.node; from = placed.start; until = window_end job placed.start; cpus = share.cpus; mem = share.mem }) placed.parts apart;
    }

-- a job of a task at least has a part
placed-some : (rooms : List NodeRoom) (holds : List Hold) (job : PlanJob) (lo hi : ℕ) (placed : Placed) → 1 ≤ job.need.tasks → IsPlacement rooms holds job lo hi placed → 1 ≤ length placed.parts
placed-some rooms holds job lo hi placed some placement =
    let caps = capacities rooms holds job placed.start in
    let fits = placement.is_chosen.fits in
    let long : length placed.parts ≡ length (dealt caps job.need.tasks placement.set) = rw placement.parts (length-map (dealt caps job.need.tasks placement.set) (λ part. share_of rooms job part)) in
    omega (arith, long, by caps job.need.tasks placement.set some fits.enough)
  where
    by : (caps : List ℕ) (tasks : ℕ) (set : List ℕ) → 1 ≤ tasks → tasks ≤ tasks_given caps set → 1 ≤ length (dealt caps tasks set)
    by caps tasks [] some enough = absurd (omega (arith, some, enough))
    by caps tasks (place ∷ later) some enough = omega arith

placed-all : (P : Placed → Type 0) (placed : Option Placed) (later : List Placed) → IfSome placed P → All P later → All P (option_to_list placed ++ later)
placed-all P None later is others = others
placed-all P (Some placed) later is others = All-cons P placed later is others

-- what holds of each placement of each of the jobs, beside whatever holds
plan_beside-all : LowerLaws → (P : Placed → Type 0) (Q : PlanJob → Type 0) (base : BaseView) (now : ℕ) (holds : List Hold) (ranked : List PlanJob)
    → ((beside : List Hold) (job : PlanJob) (placed : Placed) → Q job → IsPlacement base.rooms beside job now base.horizon placed → P placed)
    → All Q ranked → All P (plan_beside base now holds ranked)
unfolding plan_beside
plan_beside-all laws P Q base now holds [] each jobs = All-nil P
plan_beside-all laws P Q base now holds (job ∷ later) each jobs =
    let placed = placed_of base.rooms holds job now base.horizon in
    placed-all P placed (plan_beside base now (holds ++ holds_of job placed) later)
    (if_placed P placed (λ one is. each holds job one (All-head Q job later jobs) (placed-is laws base.rooms holds job now base.horizon one is)))
    (plan_beside-all laws P Q base now (holds ++ holds_of job placed) later each (All-tail Q job later jobs))

pub plan-all : LowerLaws → (P : Placed → Type 0) (Q : PlanJob → Type 0) (base : BaseView) (ranked : List PlanJob) (now : ℕ)
    → ((beside : List Hold) (job : PlanJob) (placed : Placed) → Q job → IsPlacement base.rooms beside job now base.horizon placed → P placed)
    → All Q ranked → All P (plan_of base ranked now)
unfolding plan_of
plan-all laws P Q base ranked now each jobs = plan_beside-all laws P Q base now base.holds ranked each jobs

-- the placements' ids are ids of jobs
pub plan-ids : LowerLaws → (base : BaseView) (ranked : List PlanJob) (now : ℕ) → All (λ (placed : Placed). Contains (map (λ (job : PlanJob). job.id) ranked) placed.id) (plan_of base ranked now)
plan-ids laws base ranked now =
    let ids = map (λ (job : PlanJob). job.id) ranked in
    plan-all laws (λ (placed : Placed). Contains ids placed.id) (λ (job : PlanJob). Contains ids job.id) base ranked now
    (λ beside job placed has is. rw is.id has)
    (All-unmap (λ id. Contains ids id) (λ (job : PlanJob). job.id) ranked (All-contains_itself ids))
  where
    All-unmap : {X Y : Type 0} (P : Y → Type 0) (f : X → Y) (xs : List X) → All P (map f xs) → All (λ x. P (f x)) xs
    All-unmap P f xs each k d below =
        let there = each k (f d) (omega (arith, below, length-map xs f)) in
        rw (get_or-map f xs k d (f d) below) at there

-- and stand to each other as they do
plan_beside-pairs : LowerLaws → (R : ℕ → ℕ → Type 0) (base : BaseView) (now : ℕ) (holds : List Hold) (ranked : List PlanJob) → AllPairs (λ (one other : PlanJob). R one.id other.id) ranked → AllPairs (λ (one other : Placed). R one.id other.id) (plan_beside base now holds ranked)
unfolding plan_beside
plan_beside-pairs laws R base now holds [] pairs = λ i j d low high. absurd (omega (arith, high))
plan_beside-pairs laws R base now holds (job ∷ later) pairs =
    let placed = placed_of base.rooms holds job now base.horizon in
    let P : PlanJob → PlanJob → Type 0 = λ one other. R one.id other.id in
    placed-first R job.id placed (plan_beside base now (holds ++ holds_of job placed) later)
    (if_placed (λ one. one.id ≡ job.id) placed (λ one is. (placed-is laws base.rooms holds job now base.horizon one is).id))
    (plan_beside-all laws (λ other. R job.id other.id) (λ other. R job.id other.id) base now (holds ++ holds_of job placed) later (λ beside other one below is. rw is.id below) (pairs-head P job later pairs))
    (plan_beside-pairs laws R base now (holds ++ holds_of job placed) later (pairs-tail P job later pairs))
  where
    placed-first : (R : ℕ → ℕ → Type 0) (id : ℕ) (placed : Option Placed) (later : List Placed) → IfSome placed (λ one. one.id ≡ id) → All (λ other. R id other.id) later → AllPairs (λ (one other : Placed). R one.id other.id) later
        → AllPairs (λ (one other : Placed). R one.id other.id) (option_to_list placed ++ later)
    placed-first R id None later is first others = others
    placed-first R id (Some placed) later is first others =
        AllPairs-cons (λ (one other : Placed). R one.id other.id) placed later (All-weaker (λ other. R id other.id) (λ other. R placed.id other.id) (λ other so. rw is so) later first) others

pub plan-rising : LowerLaws → (base : BaseView) (ranked : List PlanJob) (now : ℕ) → AllPairs (λ (one other : PlanJob). one.id < other.id) ranked → AllPairs (λ (one other : Placed). one.id < other.id) (plan_of base ranked now)
unfolding plan_of
plan-rising laws base ranked now rising = plan_beside-pairs laws (λ one other. one < other) base now base.holds ranked rising

pub plan-apart : LowerLaws → (base : BaseView) (ranked : List PlanJob) (now : ℕ) → AllPairs (λ (one other : PlanJob). one.id ≢ other.id) ranked → AllPairs (λ (one other : Placed). one.id ≢ other.id) (plan_of base ranked now)
unfolding plan_of
plan-apart laws base ranked now apart = plan_beside-pairs laws (λ one other. one ≢ other) base now base.holds ranked apart

-- each begins from now to the horizon
pub plan-starts : LowerLaws → (base : BaseView) (ranked : List PlanJob) (now : ℕ) → All (λ (placed : Placed). (now ≤ placed.start) × (placed.start ≤ base.horizon)) (plan_of base ranked now)
plan-starts laws base ranked now =
    plan-all laws (λ (placed : Placed). (now ≤ placed.start) × (placed.start ≤ base.horizon)) (λ job. Unit {0}) base ranked now
    (λ beside job placed any is. (is.from, is.last)) (λ k d below. tt)

-- each has a part, where each job has a task
pub plan-some : LowerLaws → (base : BaseView) (ranked : List PlanJob) (now : ℕ) → All (λ (job : PlanJob). 1 ≤ job.need.tasks) ranked → All (λ (placed : Placed). 1 ≤ length placed.parts) (plan_of base ranked now)
plan-some laws base ranked now tasks =
    plan-all laws (λ (placed : Placed). 1 ≤ length placed.parts) (λ (job : PlanJob). 1 ≤ job.need.tasks) base ranked now
    (λ beside job placed some is. placed-some base.rooms beside job now base.horizon placed some is) tasks

-- each has its parts on nodes that differ
pub plan-parts : LowerLaws → (base : BaseView) (ranked : List PlanJob) (now : ℕ) → base.horizon ≤ LAST_START → All (IsOnRooms base.rooms) ranked → All IsPlannable ranked
    → All (λ (placed : Placed). AreParts base.rooms placed.parts) (plan_of base ranked now)
plan-parts laws base ranked now low nodes jobs =
    plan-all laws (λ (placed : Placed). AreParts base.rooms placed.parts) (λ job. IsOnRooms base.rooms job × IsPlannable job) base ranked now
    (λ beside job placed both is. placed-parts base.rooms beside job now base.horizon placed both.0 both.1 low is)
    (λ k d below. (nodes k d below, jobs k d below))
