-- Where a job that asks no more finds no start, none is found, also beside more holds.
use Rattle.std.proofs.Common.{◌≡◌, ℕ, ◌+◌, ◌-◌, ◌*◌, ◌/◌, ◌≤◌, ◌<◌, min, zero, suc, Bool, true, false, ◌&&◌, ◌||◌, not, cond, eqb, leb, List, [], ◌∷◌, ◌++◌, get_or, length, map, take, sum_by, All, arith, refl, sym, ap, subst, ◌∙◌, inl, inr, Some, None, Option}
use Rattle.std.specs.Prelude.{find, IfSome, option_map, option_and_then, unwrap_or, is_some}
use Rattle.std.specs.List.Sorted.{IsPermutation}
use Rattle.std.proofs.Math.Nat.{div-mul-le_self}
use Rattle.std.proofs.lemmas.Nat.{le-div, mul-le}
use Rattle.std.proofs.lemmas.Bool.{cases_lt, cases_Bool, leb-true, le-leb}
use Rattle.std.proofs.lemmas.List.{get_or_default}
use Rattle.std.proofs.lemmas.List.Sums.{sum_by-append, sum_by-cons}
use Rattle.std.proofs.lemmas.List.Sorted.{sum_by-IsPermutation}
use Rattle.resource_profile.specs.declared.NodeRoom.{NodeRoom}
use Rattle.resource_profile.specs.declared.Hold.{Hold}
use Rattle.resource_profile.specs.Free.{room_at, covers, free_cpus, free_mem, least_after, least_over}
use Rattle.backfill_planner.proofs.Windows.{over_lower, over_reached}
use Rattle.backfill_planner.proofs.Barring.{barred-longer, unless-less}
use Rattle.resource_profile.specs.declared.picking.Need.{Need}
use Rattle.resource_profile.specs.Sets.{capacity, Fits}
use Rattle.resource_profile.specs.Choosing.{numbers_from, chosen}
use Rattle.plain_data.specs.declared.mem_ask.MemAsk.{MemAsk}
use Rattle.plain_data.specs.declared.mem_ask.MemAsk.TheVariants.{All as AllMem, PerNode, PerCpu}
use Rattle.backfill_planner.specs.LowerLaws.{LowerLaws}
use Rattle.backfill_planner.specs.declared.Placed.{Placed}
use Rattle.backfill_planner.specs.declared.job.PlanJob.{PlanJob}
use Rattle.backfill_planner.specs.Giving.{window_end, is_barred, tasks_by_mem, may_have, tasks_given, give, capacities}
use Rattle.backfill_planner.specs.Plans.{shares_of, placement_at, first_second, placed_of}
use Rattle.backfill_planner.specs.Placements.{FitsAt}
use Rattle.backfill_planner.specs.declared.seen.Seen.{Seen}
use Rattle.backfill_planner.specs.Searches.{IsSeen, bound_of}
use Rattle.backfill_planner.specs.Lesser.{HaveSameNodes, IsNoMoreMem, IsLesser, NoneBefore}
use Rattle.backfill_planner.proofs.Rises.{chosen-none_fits, tasks-more, map-more, none-chosen, fits-more}
use Rattle.backfill_planner.proofs.Seconds.{placed-none}
use Rattle.backfill_planner.proofs.LeastSecond.{placed-is, placed-nowhere}
use Rattle.plain_data.specs.declared.seconds.TheConstants.{FOREVER, LAST_START}

-- a smaller part is in it more often
quotient-part : (n small big : ℕ) → 1 ≤ small → small ≤ big → n / big ≤ n / small
quotient-part n small big some order =
    le-div (n / big) n small (omega arith) (omega (arith, mul-le (n / big) small (n / big) big (omega arith) order, div-mul-le_self n big))

by_mem-lesser : (less ask : MemAsk) (less_cpus cpus : ℕ) (room : NodeRoom) (mem most more_most : ℕ) → IsNoMoreMem less ask → 1 ≤ less_cpus → less_cpus ≤ cpus → most ≤ more_most → tasks_by_mem ask cpus room mem most ≤ tasks_by_mem less less_cpus room mem more_most
by_mem-lesser AllMem AllMem less_cpus cpus room mem most more_most is some order higher = elim (cases_Bool (eqb mem room.mem)) [
  | inl whole ↦ rw whole higher
  | inr partly ↦ rw partly (omega arith)
]
by_mem-lesser AllMem (PerNode asked) less_cpus cpus room mem most more_most is some order higher = absurd is
by_mem-lesser AllMem (PerCpu asked) less_cpus cpus room mem most more_most is some order higher = absurd is
by_mem-lesser (PerNode less) AllMem less_cpus cpus room mem most more_most is some order higher = absurd is
by_mem-lesser (PerNode less) (PerNode asked) less_cpus cpus room mem most more_most is some order higher = elim (cases_Bool (leb asked mem)) [
  | inl enough ↦
      let still : leb less mem ≡ true = le-leb less mem (omega (arith, leb-true asked mem enough, is)) in
      rw (enough, still) higher
  | inr too_little ↦ rw too_little (omega arith)
]
by_mem-lesser (PerNode less) (PerCpu asked) less_cpus cpus room mem most more_most is some order higher = absurd is
by_mem-lesser (PerCpu less) AllMem less_cpus cpus room mem most more_most is some order higher = absurd is
by_mem-lesser (PerCpu less) (PerNode asked) less_cpus cpus room mem most more_most is some order higher = absurd is
by_mem-lesser (PerCpu less) (PerCpu asked) less_cpus cpus room mem most more_most is some order higher =
    let one = mul-le 1 1 less less_cpus is.0 some in
    let product = mul-le less less_cpus asked cpus is.1 order in
    omega (arith, higher, quotient-part mem (less * less_cpus) (asked * cpus) (omega (arith, one)) product)

-- what a part of the free megabytes takes, cut at a number
by_mem-cut : (ask : MemAsk) (cpus : ℕ) (room : NodeRoom) (mem cut most : ℕ) → min cut (tasks_by_mem ask cpus room mem most) ≤ tasks_by_mem ask cpus room mem (min cut most)
by_mem-cut AllMem cpus room mem cut most = elim (cases_Bool (eqb mem room.mem)) [
  | inl whole ↦ rw whole (omega arith)
  | inr partly ↦ rw partly (omega arith)
]
by_mem-cut (PerNode asked) cpus room mem cut most = elim (cases_Bool (leb asked mem)) [
  | inl enough ↦ rw enough (omega arith)
  | inr too_little ↦ rw too_little (omega arith)
]
by_mem-cut (PerCpu asked) cpus room mem cut most = omega arith

-- no more of its tasks than it has are cut away by how many a node may have
node-cut : (lesser job : PlanJob) (cpus less_cpus : ℕ) → IsLesser lesser job → cpus ≤ less_cpus → min lesser.need.tasks (min job.per_node cpus) ≤ min lesser.per_node less_cpus
node-cut lesser job cpus less_cpus is order = elim is.per_node [
  | inl wider ↦ omega (arith, wider, order)
  | inr all ↦ omega (arith, all, order)
]

tasks-lesser : (lesser job : PlanJob) (room : NodeRoom) (cpus mem : ℕ) → IsLesser lesser job → min lesser.need.tasks (tasks_given job room cpus mem) ≤ tasks_given lesser room cpus mem
tasks-lesser lesser job room cpus mem is =
    let same : may_have lesser room cpus mem ≡ may_have job room cpus mem = ap (λ (e : Bool). room.usable && (not e || (eqb cpus room.cpus && eqb mem room.mem))) is.exclusive in
    elim (cases_Bool (may_have job room cpus mem)) [
      | inl may ↦
          let also : may_have lesser room cpus mem ≡ true = same ∙ may in
          rw (may, also) (omega (
            arith,
            by_mem-cut job.mem_ask job.cpus_per_task room mem lesser.need.tasks (min job.per_node (cpus / job.cpus_per_task)),
            by_mem-lesser lesser.mem_ask job.mem_ask lesser.cpus_per_task job.cpus_per_task room mem (min lesser.need.tasks (min job.per_node (cpus / job.cpus_per_task))) (min lesser.per_node (cpus / lesser.cpus_per_task)) is.mem is.some_cpus is.cpus
                (node-cut lesser job (cpus / job.cpus_per_task) (cpus / lesser.cpus_per_task) is (quotient-part cpus lesser.cpus_per_task job.cpus_per_task is.some_cpus is.cpus)),
          ))
      | inr may_not ↦ rw may_not (omega arith)
    ]

-- the least over a longer window is no more
least-longer : (free : ℕ → ℕ) (from until later : ℕ) → from < until → until ≤ later → least_over free from later ≤ least_over free from until
least-longer free from until later window order =
    let at = over_reached free from until window in
    omega (arith, at.3, over_lower free from later at.0 at.1 (omega (arith, at.2, order)))

pub least_after-less : (free more : ℕ → ℕ) (from count : ℕ) → ((moment : ℕ) → free moment ≤ more moment) → least_after free from count ≤ least_after more from count
unfolding least_after
least_after-less free more from zero less = less from
least_after-less free more from (suc count) less = omega (arith, less from, least_after-less free more (from + 1) count less)

pub least_after-within : (free : ℕ → ℕ) (room from count : ℕ) → ((moment : ℕ) → free moment ≤ room) → least_after free from count ≤ room
unfolding least_after
least_after-within free room from zero within = within from
least_after-within free room from (suc count) within = omega (arith, within from)

cut-unless : (barred : Bool) (cut given : ℕ) → min cut (cond barred 0 given) ≤ cond barred 0 (min cut given)
cut-unless true cut given = omega arith
cut-unless false cut given = omega arith

give-lesser : (rooms : List NodeRoom) (holds : List Hold) (lesser job : PlanJob) (second node : ℕ) → IsLesser lesser job → second ≤ LAST_START → min lesser.need.tasks (give rooms holds job second node) ≤ give rooms holds lesser second node
give-lesser rooms holds lesser job second node is last =
    let window = is.window second last in
    let order = is.no_longer second last in
    let cpus = least_over (λ m. free_cpus rooms holds node m) second (window_end lesser second) in
    let mem = least_over (λ m. free_mem rooms holds node m) second (window_end lesser second) in
    let barred : is_barred lesser.barred node second (window_end lesser second) ≡ true → is_barred job.barred node second (window_end job second) ≡ true =
    rw is.barred (barred-longer job.barred node second (window_end lesser second) (window_end job second) order) in
    let given : ℕ = tasks_given job (room_at rooms node)
    (least_over (λ m. free_cpus rooms holds node m) second (window_end job second))
    (least_over (λ m. free_mem rooms holds node m) second (window_end job second)) in
    let wider = tasks-more job (room_at rooms node)
    (least_over (λ m. free_cpus rooms holds node m) second (window_end job second))
    (least_over (λ m. free_mem rooms holds node m) second (window_end job second))
    cpus mem
    (least-longer (λ m. free_cpus rooms holds node m) second (window_end lesser second) (window_end job second) window order)
    (least_after-within (λ m. free_cpus rooms holds node m) (room_at rooms node).cpus second (window_end lesser second - second - 1) (λ m. omega arith))
    (least-longer (λ m. free_mem rooms holds node m) second (window_end lesser second) (window_end job second) window order)
    (least_after-within (λ m. free_mem rooms holds node m) (room_at rooms node).mem second (window_end lesser second - second - 1) (λ m. omega arith)) in
    let cut = cut-unless (is_barred job.barred node second (window_end job second)) lesser.need.tasks given in
    let less = unless-less (is_barred job.barred node second (window_end job second)) (is_barred lesser.barred node second (window_end lesser second)) (min lesser.need.tasks given) (tasks_given lesser (room_at rooms node) cpus mem) barred
    (omega (arith, wider, tasks-lesser lesser job (room_at rooms node) cpus mem is)) in
    omega (arith, cut, less)

cut-map : (f : ℕ → ℕ) (cut : ℕ) (xs : List ℕ) (i : ℕ) → min cut (get_or (map f xs) i 0) ≤ get_or (map (λ x. min cut (f x)) xs) i 0
cut-map f cut [] i = omega arith
cut-map f cut (x ∷ xs) zero = omega arith
cut-map f cut (x ∷ xs) (suc i) = cut-map f cut xs i

capacity-lesser : (rooms : List NodeRoom) (holds : List Hold) (lesser job : PlanJob) (second place : ℕ) → IsLesser lesser job → second ≤ LAST_START → min lesser.need.tasks (capacity (capacities rooms holds job second) place) ≤ capacity (capacities rooms holds lesser second) place
unfolding capacities
capacity-lesser rooms holds lesser job second place is last =
    rw is.nodes (omega (
      arith,
      cut-map (λ node. give rooms holds job second node) lesser.need.tasks job.nodes place,
      map-more (λ node. min lesser.need.tasks (give rooms holds job second node)) (λ node. give rooms holds lesser second node) job.nodes place (λ node. give-lesser rooms holds lesser job second node is last),
    ))

-- what is cut at each place comes to as much, up to where it is cut
sum-cut : (f g : ℕ → ℕ) (cut : ℕ) (xs : List ℕ) → ((x : ℕ) → min cut (f x) ≤ g x) → min cut (sum_by f xs) ≤ sum_by g xs
sum-cut f g cut [] less = omega arith
sum-cut f g cut (x ∷ xs) less = omega (arith, sum_by-cons f x xs, sum_by-cons g x xs, less x, sum-cut f g cut xs less)

giving-cut : (caps wider : List ℕ) (cut : ℕ) → ((place : ℕ) → min cut (capacity caps place) ≤ capacity wider place) → (set : List ℕ) → length set ≤ cut → All (λ place. 1 ≤ capacity caps place) set → All (λ place. 1 ≤ capacity wider place) set
giving-cut caps wider cut less set few all k d inside = omega (arith, inside, few, all k d inside, less (get_or set k d))

-- a set that fits still fits where of each place no more is cut away than what lies above all tasks
fits-cut : (caps wider : List ℕ) (need : Need) (set : List ℕ) → ((place : ℕ) → min need.tasks (capacity caps place) ≤ capacity wider place) → Fits caps need set → Fits wider need set
fits-cut caps wider need set less fits = record {
  rising = fits.rising;
  required = fits.required;
  giving = giving-cut caps wider need.tasks less set fits.at_most_tasks fits.giving;
  enough = omega (arith, fits.enough, sum-cut (λ place. capacity caps place) (λ place. capacity wider place) need.tasks set less);
  at_most_tasks = fits.at_most_tasks;
  at_least = fits.at_least;
  at_most = fits.at_most;
}

-- no set fits where none fits one that is given more
pub none-from : LowerLaws → (rooms : List NodeRoom) (holds : List Hold) (other_rooms : List NodeRoom) (others : List Hold) (job other : PlanJob) (second : ℕ) → ((set : List ℕ) → Fits (capacities rooms holds job second) job.need set → (found : List ℕ) × Fits (capacities other_rooms others other second) other.need found) → placement_at other_rooms others other second ≡ None → placement_at rooms holds job second ≡ None
unfolding placement_at
none-from laws rooms holds other_rooms others job other second then nothing =
    let nowhere : chosen (capacities other_rooms others other second) other.need ≡ None =
    none-chosen (chosen (capacities other_rooms others other second) other.need) (λ set. record { id = other.id; start = second; parts = shares_of other_rooms others other second set }) nothing in
    let still : chosen (capacities rooms holds job second) job.need ≡ None =
    chosen-none_fits laws (capacities rooms holds job second) job.need
    (λ set fits. let found = then set fits in laws.none (capacities other_rooms others other second) other.need found.0 nowhere found.1) in
    rw still refl

pub lesser-none : LowerLaws → (rooms : List NodeRoom) (holds : List Hold) (lesser job : PlanJob) (now bound : ℕ) → IsLesser lesser job → NoneBefore rooms holds lesser now bound → NoneBefore rooms holds job now bound
lesser-none laws rooms holds lesser job now bound is none second low high last =
    none-from laws rooms holds rooms holds job lesser second
    (λ set fits. (
      take lesser.need.tasks set,
      fits-cut (capacities rooms holds job second) (capacities rooms holds lesser second) lesser.need (take lesser.need.tasks set) (λ place. capacity-lesser rooms holds lesser job second place is last)
          (laws.lesser (capacities rooms holds job second) (capacities rooms holds job second) job.need lesser.need set (λ place. omega arith) is.need fits),
    ))
    (none second low high last)

-- beside more holds
held-more : (amount : Hold → ℕ) (node moment : ℕ) (holds more all : List Hold) → IsPermutation (holds ++ more) all → sum_by (λ (hold : Hold). cond (covers node moment hold) (amount hold) 0) holds ≤ sum_by (λ (hold : Hold). cond (covers node moment hold) (amount hold) 0) all
held-more amount node moment holds more all moved =
    omega (arith, sum_by-IsPermutation (λ (hold : Hold). cond (covers node moment hold) (amount hold) 0) (holds ++ more) all moved, sum_by-append (λ (hold : Hold). cond (covers node moment hold) (amount hold) 0) holds more)

give-held : (rooms : List NodeRoom) (holds more all : List Hold) (job : PlanJob) (second node : ℕ) → IsPermutation (holds ++ more) all → give rooms all job second node ≤ give rooms holds job second node
give-held rooms holds more all job second node moved =
    let barred = is_barred job.barred node second (window_end job second) in
    unless-less barred barred _ _ (λ same. same)
    (tasks-more job (room_at rooms node)
    (least_over (λ m. free_cpus rooms all node m) second (window_end job second))
    (least_over (λ m. free_mem rooms all node m) second (window_end job second))
    (least_over (λ m. free_cpus rooms holds node m) second (window_end job second))
    (least_over (λ m. free_mem rooms holds node m) second (window_end job second))
    (least_after-less (λ m. free_cpus rooms all node m) (λ m. free_cpus rooms holds node m) second (window_end job second - second - 1) (λ m. omega (arith, held-more (λ (hold : Hold). hold.cpus) node m holds more all moved)))
    (least_after-within (λ m. free_cpus rooms holds node m) (room_at rooms node).cpus second (window_end job second - second - 1) (λ m. omega arith))
    (least_after-less (λ m. free_mem rooms all node m) (λ m. free_mem rooms holds node m) second (window_end job second - second - 1) (λ m. omega (arith, held-more (λ (hold : Hold). hold.mem) node m holds more all moved)))
    (least_after-within (λ m. free_mem rooms holds node m) (room_at rooms node).mem second (window_end job second - second - 1) (λ m. omega arith)))

capacity-held : (rooms : List NodeRoom) (holds more all : List Hold) (job : PlanJob) (second place : ℕ) → IsPermutation (holds ++ more) all → capacity (capacities rooms all job second) place ≤ capacity (capacities rooms holds job second) place
unfolding capacities
capacity-held rooms holds more all job second place moved =
    map-more (λ node. give rooms all job second node) (λ node. give rooms holds job second node) job.nodes place (λ node. give-held rooms holds more all job second node moved)

pub held-none : LowerLaws → (rooms : List NodeRoom) (holds more all : List Hold) (job : PlanJob) (now bound : ℕ) → IsPermutation (holds ++ more) all → NoneBefore rooms holds job now bound → NoneBefore rooms all job now bound
held-none laws rooms holds more all job now bound moved none second low high last =
    none-from laws rooms all rooms holds job job second
    (λ set fits. (set, fits-more (capacities rooms all job second) (capacities rooms holds job second) job.need set (λ place. capacity-held rooms holds more all job second place moved) fits))
    (none second low high last)

-- a search may begin where none fits before
find-skip : (test : ℕ → Bool) (lo skip count : ℕ) → ((n : ℕ) → lo ≤ n → n < lo + skip → test n ≡ false) → find test (numbers_from lo (skip + count)) ≡ find test (numbers_from (lo + skip) count)
unfolding numbers_from
find-skip test lo zero count none =
    let e : 0 + count ≡ count = omega arith in
    let f : lo + 0 ≡ lo = omega arith in
    rw (e, f) refl
find-skip test lo (suc skip) count none =
    let e : suc skip + count ≡ suc (skip + count) = omega arith in
    let f : lo + suc skip ≡ (lo + 1) + skip = omega arith in
    let here = none lo (omega arith) (omega arith) in
    rw (e, f, here) (find-skip test (lo + 1) skip count (λ n low high. none n (omega (arith, low)) (omega (arith, high))))

is_none : (placed : Option Placed) → placed ≡ None → is_some placed ≡ false
is_none None nothing = refl
is_none (Some one) nothing = absurd cc

skipped : (rooms : List NodeRoom) (holds : List Hold) (job : PlanJob) (now lo hi : ℕ) → now ≤ lo → hi ≤ LAST_START → lo ≤ hi → NoneBefore rooms holds job now lo → placed_of rooms holds job lo hi ≡ placed_of rooms holds job now hi
unfolding placed_of first_second
skipped rooms holds job now lo hi order last before none =
    let count : hi + 1 - now ≡ (lo - now) + (hi + 1 - lo) = omega (arith, order, before) in
    let begin : now + (lo - now) ≡ lo = omega (arith, order) in
    let same = find-skip (λ s. is_some (placement_at rooms holds job s)) now (lo - now) (hi + 1 - lo)
    (λ n low high. is_none (placement_at rooms holds job n) (none n low (omega (arith, high, order)) (omega (arith, high, order, before, last)))) in
    ap (λ found. option_and_then (λ s. placement_at rooms holds job s) found) (sym (rw count (rw begin at same)))

pub placed-later : (rooms : List NodeRoom) (holds : List Hold) (job : PlanJob) (now lo hi : ℕ) → now ≤ lo → hi ≤ LAST_START → NoneBefore rooms holds job now lo → placed_of rooms holds job lo hi ≡ placed_of rooms holds job now hi
placed-later rooms holds job now lo hi order last none = elim (cases_lt hi lo) [
  | inl past ↦
      sym (placed-none rooms holds job lo hi (hi + 1) (omega arith) (λ n low high below. absurd (omega (arith, low, high, past))))
      ∙ placed-none rooms holds job now hi (hi + 1) (omega arith) (λ n low high below. none n low (omega (arith, high, past)) (omega (arith, high, last)))
  | inr before ↦ skipped rooms holds job now lo hi order last before none
]

none-there : LowerLaws → (rooms : List NodeRoom) (holds : List Hold) (job : PlanJob) (second : ℕ) → ((set : List ℕ) → ¬ FitsAt rooms holds job second set) → placement_at rooms holds job second ≡ None
unfolding placement_at
none-there laws rooms holds job second nowhere =
    let still : chosen (capacities rooms holds job second) job.need ≡ None = chosen-none_fits laws (capacities rooms holds job second) job.need nowhere in
    rw still refl

-- what a search has shown
pub none-placed : LowerLaws → (rooms : List NodeRoom) (holds : List Hold) (job : PlanJob) (now hi : ℕ) → None ≡ placed_of rooms holds job now hi → NoneBefore rooms holds job now (hi + 1)
none-placed laws rooms holds job now hi is second low high last = none-there laws rooms holds job second (λ set. placed-nowhere laws rooms holds job now hi second set (sym is) low (omega (arith, high)))

pub some-placed : LowerLaws → (rooms : List NodeRoom) (holds : List Hold) (job : PlanJob) (now hi : ℕ) (placed : Placed) → Some placed ≡ placed_of rooms holds job now hi → NoneBefore rooms holds job now placed.start
some-placed laws rooms holds job now hi placed is second low high last =
    let there = placed-is laws rooms holds job now hi placed (sym is) in
    none-there laws rooms holds job second (λ set. there.first second set low high)

-- no longer than the other
pub no-longer : (less more : Option ℕ) (second : ℕ) → IfSome less (λ s. (1 ≤ s) × (s ≤ 3153600000)) → IfSome more (λ s. (1 ≤ s) × (s ≤ 3153600000)) → unwrap_or less FOREVER ≤ unwrap_or more FOREVER → second ≤ LAST_START
    → unwrap_or (option_map (λ s. second + s) less) FOREVER ≤ unwrap_or (option_map (λ s. second + s) more) FOREVER
no-longer None None second less_is more_is order last = omega arith
no-longer None (Some more) second less_is more_is order last = absurd (omega (arith, order, more_is.1))
no-longer (Some less) None second less_is more_is order last = omega (arith, less_is.1, last)
no-longer (Some less) (Some more) second less_is more_is order last = omega (arith, order)

pub has-window : (less : Option ℕ) (second : ℕ) → IfSome less (λ s. (1 ≤ s) × (s ≤ 3153600000)) → second ≤ LAST_START → second < unwrap_or (option_map (λ s. second + s) less) FOREVER
has-window None second is last = omega (arith, last)
has-window (Some less) second is last = omega (arith, is.0)

-- a job at a place may have the same nodes as itself
pub same-itself : (ranked : List PlanJob) (place : ℕ) (job d : PlanJob) → place < length ranked → job ≡ get_or ranked place job → HaveSameNodes (get_or ranked place d) job
same-itself ranked place job d below is =
    let read : get_or ranked place d ≡ job = get_or_default ranked place d job below ∙ sym is in
    record { nodes = ap (λ (j : PlanJob). j.nodes) read; barred = ap (λ (j : PlanJob). j.barred) read }

-- one search more is kept in mind
pub seen-also : (rooms : List NodeRoom) (holds : List Hold) (ranked : List PlanJob) (now place bound alike : ℕ) (job : PlanJob) → place < length ranked → job ≡ get_or ranked place job → alike < length ranked → ((d : PlanJob) → HaveSameNodes (get_or ranked alike d) job)
    → ((d : PlanJob) → NoneBefore rooms holds (get_or ranked place d) now bound) → IsSeen rooms holds ranked now (record { place = place; bound = bound; alike = alike })
seen-also rooms holds ranked now place bound alike job below is alike_below same none = record {
  there = below;
  none = none;
  alike_there = alike_below;
  alike = λ d. subst (λ j. HaveSameNodes (get_or ranked alike d) j) (is ∙ get_or_default ranked place job d below) (same d);
}

-- what is known of a job that was searched for tells of one that may have the same nodes and asks no less
pub seen-none : LowerLaws → (rooms : List NodeRoom) (holds : List Hold) (ranked : List PlanJob) (now alike : ℕ) (one : Seen) (read job : PlanJob) → IsSeen rooms holds ranked now one → read ≡ get_or ranked one.place read → one.alike ≡ alike → ((d : PlanJob) → HaveSameNodes (get_or ranked alike d) job) → (HaveSameNodes read job → IsLesser read job) → NoneBefore rooms holds job now one.bound
seen-none laws rooms holds ranked now alike one read job seen is alike_is same lesser =
    let P : PlanJob → Type 0 = λ j. NoneBefore rooms holds j now one.bound in
    let known : HaveSameNodes (get_or ranked one.alike read) job = subst (λ k. HaveSameNodes (get_or ranked k read) job) (sym alike_is) (same read) in
    let own = seen.alike read in
    let nodes : HaveSameNodes read job = record {
      nodes = ap (λ (j : PlanJob). j.nodes) is ∙ sym own.nodes ∙ known.nodes;
      barred = ap (λ (j : PlanJob). j.barred) is ∙ sym own.barred ∙ known.barred;
    } in
    lesser-none laws rooms holds read job now one.bound (lesser nodes) (subst P (sym is) (seen.none read))

-- also beside more holds
pub seen-held : LowerLaws → (rooms : List NodeRoom) (holds more all : List Hold) (ranked : List PlanJob) (now : ℕ) (seen : List Seen) → IsPermutation (holds ++ more) all → All (IsSeen rooms holds ranked now) seen → All (IsSeen rooms all ranked now) seen
seen-held laws rooms holds more all ranked now seen moved each k d inside =
    let one = each k d inside in
    record {
      there = one.there;
      none = λ job. held-none laws rooms holds more all (get_or ranked (get_or seen k d).place job) now (get_or seen k d).bound moved (one.none job);
      alike_there = one.alike_there;
      alike = one.alike;
    }

pub bound-shown : LowerLaws → (rooms : List NodeRoom) (holds : List Hold) (job : PlanJob) (now hi : ℕ) (placed : Option Placed) → placed ≡ placed_of rooms holds job now hi → NoneBefore rooms holds job now (bound_of placed hi)
bound-shown laws rooms holds job now hi None is = none-placed laws rooms holds job now hi is
bound-shown laws rooms holds job now hi (Some placed) is = some-placed laws rooms holds job now hi placed is
