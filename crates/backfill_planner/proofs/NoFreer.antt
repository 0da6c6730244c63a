-- Where no more is free on the nodes that a job may have, it fits no earlier.
use Rattle.std.proofs.Common.{◌≡◌, ℕ, ◌+◌, ◌-◌, ◌≤◌, ◌<◌, zero, suc, List, [], ◌∷◌, map, All, arith, subst, sym, get_or, None, Some}
use Rattle.std.proofs.lemmas.List.Elements.{All-head, All-tail, All-weaker}
use Rattle.resource_profile.specs.declared.NodeRoom.{NodeRoom}
use Rattle.resource_profile.specs.declared.Hold.{Hold}
use Rattle.resource_profile.specs.Free.{room_at, free_cpus, free_mem, least_after, least_over}
use Rattle.resource_profile.specs.Sets.{capacity}
use Rattle.backfill_planner.specs.LowerLaws.{LowerLaws}
use Rattle.backfill_planner.specs.declared.Placed.{Placed}
use Rattle.backfill_planner.specs.declared.job.PlanJob.{PlanJob}
use Rattle.backfill_planner.specs.Giving.{window_end, is_barred, tasks_given, give, capacities}
use Rattle.backfill_planner.specs.Plans.{placed_of}
use Rattle.backfill_planner.specs.Lesser.{NoneBefore}
use Rattle.backfill_planner.specs.Staying.{IsNoFreer, EndsInTime}
use Rattle.backfill_planner.proofs.Barring.{unless-less}
use Rattle.backfill_planner.proofs.Rises.{tasks-more, fits-more}
use Rattle.backfill_planner.proofs.Lessening.{least_after-within, none-from, some-placed, none-placed}
use Rattle.backfill_planner.proofs.Staying.{EndBy, in-time, ends-by}
use Rattle.plain_data.specs.declared.seconds.TheConstants.{FOREVER}

least_after-no_more : (free more : ℕ → ℕ) (from count : ℕ) → ((moment : ℕ) → from ≤ moment → moment ≤ from + count → free moment ≤ more moment) → least_after free from count ≤ least_after more from count
unfolding least_after
least_after-no_more free more from zero less = less from (omega arith) (omega arith)
least_after-no_more free more from (suc count) less =
    omega (arith, less from (omega arith) (omega arith), least_after-no_more free more (from + 1) count (λ moment low high. less moment (omega (arith, low)) (omega (arith, high))))

least_over-no_more : (free more : ℕ → ℕ) (now from until last : ℕ) → now ≤ from → from < last → until ≤ last → ((second : ℕ) → now ≤ second → second < last → free second ≤ more second) → least_over free from until ≤ least_over more from until
least_over-no_more free more now from until last later before within less =
    least_after-no_more free more from (until - from - 1) (λ moment low high. less moment (omega (arith, later, low)) (omega (arith, high, before, within)))

give-no_freer : (rooms : List NodeRoom) (holds : List Hold) (new_rooms : List NodeRoom) (new_holds : List Hold) (job : PlanJob) (now last start node : ℕ) → now ≤ start → start < last → window_end job start ≤ last → IsNoFreer rooms holds new_rooms new_holds now last node → give new_rooms new_holds job start node ≤ give rooms holds job start node
give-no_freer rooms holds new_rooms new_holds job now last start node later low within no_freer =
    let end = window_end job start in
    let barred = is_barred job.barred node start end in
    let new_cpus = least_over (λ m. free_cpus new_rooms new_holds node m) start end in
    let new_mem = least_over (λ m. free_mem new_rooms new_holds node m) start end in
    let cpus = least_over (λ m. free_cpus rooms holds node m) start end in
    let mem = least_over (λ m. free_mem rooms holds node m) start end in
    unless-less barred barred (tasks_given job (room_at new_rooms node) new_cpus new_mem) (tasks_given job (room_at rooms node) cpus mem) (λ same. same)
    (subst (λ room. tasks_given job room new_cpus new_mem ≤ tasks_given job (room_at rooms node) cpus mem) (sym no_freer.room)
    (tasks-more job (room_at rooms node) new_cpus new_mem cpus mem
    (least_over-no_more (λ m. free_cpus new_rooms new_holds node m) (λ m. free_cpus rooms holds node m) now start end last later low within no_freer.cpus)
    (least_after-within (λ m. free_cpus rooms holds node m) (room_at rooms node).cpus start (end - start - 1) (λ m. omega arith))
    (least_over-no_more (λ m. free_mem new_rooms new_holds node m) (λ m. free_mem rooms holds node m) now start end last later low within no_freer.mem)
    (least_after-within (λ m. free_mem rooms holds node m) (room_at rooms node).mem start (end - start - 1) (λ m. omega arith))))

map-no_more : (f g : ℕ → ℕ) (xs : List ℕ) (i : ℕ) → All (λ x. f x ≤ g x) xs → get_or (map f xs) i 0 ≤ get_or (map g xs) i 0
map-no_more f g [] i more = omega arith
map-no_more f g (x ∷ xs) zero more = All-head (λ x. f x ≤ g x) x xs more
map-no_more f g (x ∷ xs) (suc i) more = map-no_more f g xs i (All-tail (λ x. f x ≤ g x) x xs more)

capacity-no_freer : (rooms : List NodeRoom) (holds : List Hold) (new_rooms : List NodeRoom) (new_holds : List Hold) (job : PlanJob) (now last start place : ℕ) → now ≤ start → start < last → window_end job start ≤ last → All (IsNoFreer rooms holds new_rooms new_holds now last) job.nodes → capacity (capacities new_rooms new_holds job start) place ≤ capacity (capacities rooms holds job start) place
unfolding capacities
capacity-no_freer rooms holds new_rooms new_holds job now last start place later low within no_freer =
    map-no_more (λ node. give new_rooms new_holds job start node) (λ node. give rooms holds job start node) job.nodes place
    (All-weaker (IsNoFreer rooms holds new_rooms new_holds now last) (λ node. give new_rooms new_holds job start node ≤ give rooms holds job start node)
    (λ node one. give-no_freer rooms holds new_rooms new_holds job now last start node later low within one) job.nodes no_freer)

none-kept : LowerLaws → (rooms : List NodeRoom) (holds : List Hold) (new_rooms : List NodeRoom) (new_holds : List Hold) (job : PlanJob) (before now last bound : ℕ) → EndBy job bound last → before ≤ now → All (IsNoFreer rooms holds new_rooms new_holds now last) job.nodes → NoneBefore rooms holds job before bound → NoneBefore new_rooms new_holds job now bound
none-kept laws rooms holds new_rooms new_holds job before now last bound end order no_freer none second from below low =
    none-from laws new_rooms new_holds rooms holds job job second
    (λ set fits. (
      set,
      fits-more (capacities new_rooms new_holds job second) (capacities rooms holds job second) job.need set
          (λ place. capacity-no_freer rooms holds new_rooms new_holds job now last second place from (end second below low).0 (end second below low).1 no_freer) fits,
    ))
    (none second (omega (arith, order, from)) below low)

pub placed-no-earlier : LowerLaws → (rooms : List NodeRoom) (holds : List Hold) (new_rooms : List NodeRoom) (new_holds : List Hold) (job : PlanJob) (before now last until : ℕ) (placed : Placed) → before ≤ now → All (IsNoFreer rooms holds new_rooms new_holds now until) job.nodes → placed_of rooms holds job before last ≡ Some placed → placed.start ≤ until → window_end job placed.start ≤ until → NoneBefore new_rooms new_holds job now placed.start
placed-no-earlier laws rooms holds new_rooms new_holds job before now last until placed order no_freer is early end =
    none-kept laws rooms holds new_rooms new_holds job before now until placed.start (ends-by job placed.start until early end) order no_freer (some-placed laws rooms holds job before last placed (sym is))

pub unplaced-no-earlier : LowerLaws → (rooms : List NodeRoom) (holds : List Hold) (new_rooms : List NodeRoom) (new_holds : List Hold) (job : PlanJob) (before now last : ℕ) → EndsInTime job → before ≤ now → All (IsNoFreer rooms holds new_rooms new_holds now FOREVER) job.nodes → placed_of rooms holds job before last ≡ None → NoneBefore new_rooms new_holds job now (last + 1)
unplaced-no-earlier laws rooms holds new_rooms new_holds job before now last short order no_freer is =
    none-kept laws rooms holds new_rooms new_holds job before now FOREVER (last + 1) (in-time job (last + 1) short) order no_freer (none-placed laws rooms holds job before last (sym is))
