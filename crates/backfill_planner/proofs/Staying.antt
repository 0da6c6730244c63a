-- Where nothing has changed on the nodes that a job may have, it is placed as before.
use Rattle.std.proofs.Common.{◌≡◌, ℕ, ◌+◌, ◌-◌, ◌≤◌, ◌<◌, zero, suc, min, cond, List, map, All, arith, refl, ap, sym, ◌∙◌, slice_index, Option, Some, None}
use Rattle.std.specs.Prelude.{option_map, option_and_then}
use Rattle.std.proofs.lemmas.List.Elements.{All-weaker}
use Rattle.resource_profile.specs.declared.NodeRoom.{NodeRoom}
use Rattle.resource_profile.specs.declared.Hold.{Hold}
use Rattle.resource_profile.specs.Free.{room_at, free_cpus, free_mem, least_after, least_over}
use Rattle.resource_profile.specs.declared.picking.Dealt.{Dealt}
use Rattle.resource_profile.specs.Sets.{dealt}
use Rattle.resource_profile.specs.Choosing.{chosen}
use Rattle.backfill_planner.specs.LowerLaws.{LowerLaws}
use Rattle.backfill_planner.specs.declared.Placed.{Placed}
use Rattle.backfill_planner.specs.declared.job.PlanJob.{PlanJob}
use Rattle.backfill_planner.specs.Giving.{window_end, is_barred, tasks_given, give, capacities}
use Rattle.backfill_planner.specs.Plans.{share_of, shares_of, placement_at, first_second, placed_of}
use Rattle.backfill_planner.specs.Lesser.{NoneBefore}
use Rattle.backfill_planner.specs.Staying.{StaysFrom, StaysBefore, EndsInTime}
use Rattle.backfill_planner.proofs.Barring.{window-order}
use Rattle.backfill_planner.proofs.Dealing.{IsGiven, dealt-given, length-capacities}
use Rattle.backfill_planner.proofs.Lessening.{some-placed, none-placed}
use Rattle.backfill_planner.proofs.Seconds.{placed-some, placed-none}
use Rattle.plain_data.specs.declared.seconds.TheConstants.{FOREVER, LAST_START}
use Rattle.list_lemmas.proofs.Maps.{map-same}

least_after-same : (one other : ℕ → ℕ) (from more : ℕ) → ((moment : ℕ) → from ≤ moment → moment ≤ from + more → one moment ≡ other moment) → least_after one from more ≡ least_after other from more
unfolding least_after
least_after-same one other from zero same = same from (omega arith) (omega arith)
least_after-same one other from (suc more) same =
    ap (λ first. min first (least_after one (from + 1) more)) (same from (omega arith) (omega arith))
    ∙ ap (λ rest. min (other from) rest) (least_after-same one other (from + 1) more (λ moment low high. same moment (omega (arith, low)) (omega (arith, high))))

least_over-same : (one other : ℕ → ℕ) (now from until last : ℕ) → now ≤ from → from < last → until ≤ last → ((second : ℕ) → now ≤ second → second < last → one second ≡ other second) → least_over one from until ≡ least_over other from until
least_over-same one other now from until last later before within same =
    least_after-same one other from (until - from - 1) (λ moment low high. same moment (omega (arith, later, low)) (omega (arith, high, before, within)))

give-stays : (rooms : List NodeRoom) (holds : List Hold) (new_rooms : List NodeRoom) (new_holds : List Hold) (job : PlanJob) (now last start node : ℕ) → now ≤ start → start < last → window_end job start ≤ last → StaysBefore rooms holds new_rooms new_holds now last node → give new_rooms new_holds job start node ≡ give rooms holds job start node
give-stays rooms holds new_rooms new_holds job now last start node later low within stays =
    let end = window_end job start in
    let given : NodeRoom → ℕ → ℕ → ℕ = λ room cpus mem. cond (is_barred job.barred node start end) 0 (tasks_given job room cpus mem) in
    let cpus = least_over-same (λ second. free_cpus new_rooms new_holds node second) (λ second. free_cpus rooms holds node second) now start end last later low within stays.cpus in
    let mem = least_over-same (λ second. free_mem new_rooms new_holds node second) (λ second. free_mem rooms holds node second) now start end last later low within stays.mem in
    ap (λ room. given room (least_over (λ second. free_cpus new_rooms new_holds node second) start end) (least_over (λ second. free_mem new_rooms new_holds node second) start end)) stays.room
    ∙ ap (λ least. given (room_at rooms node) least (least_over (λ second. free_mem new_rooms new_holds node second) start end)) cpus
    ∙ ap (λ least. given (room_at rooms node) (least_over (λ second. free_cpus rooms holds node second) start end) least) mem

capacities-stay : (rooms : List NodeRoom) (holds : List Hold) (new_rooms : List NodeRoom) (new_holds : List Hold) (job : PlanJob) (now last start : ℕ) → now ≤ start → start < last → window_end job start ≤ last → All (StaysBefore rooms holds new_rooms new_holds now last) job.nodes → capacities new_rooms new_holds job start ≡ capacities rooms holds job start
unfolding capacities
capacities-stay rooms holds new_rooms new_holds job now last start later low within stay =
    map-same (λ node. give new_rooms new_holds job start node) (λ node. give rooms holds job start node) job.nodes
    (All-weaker (StaysBefore rooms holds new_rooms new_holds now last) (λ node. give new_rooms new_holds job start node ≡ give rooms holds job start node)
    (λ node stays. give-stays rooms holds new_rooms new_holds job now last start node later low within stays) job.nodes stay)

share-stays : (rooms new_rooms : List NodeRoom) (job : PlanJob) (part : Dealt) → room_at new_rooms (slice_index job.nodes part.place) ≡ room_at rooms (slice_index job.nodes part.place) → share_of new_rooms job part ≡ share_of rooms job part
share-stays rooms new_rooms job part same = rw same refl

shares-stay : LowerLaws → (rooms : List NodeRoom) (holds : List Hold) (new_rooms : List NodeRoom) (new_holds : List Hold) (job : PlanJob) (now last start : ℕ) (set : List ℕ) → All (StaysBefore rooms holds new_rooms new_holds now last) job.nodes → capacities new_rooms new_holds job start ≡ capacities rooms holds job start → chosen (capacities rooms holds job start) job.need ≡ Some set → shares_of new_rooms new_holds job start set ≡ shares_of rooms holds job start set
shares-stay laws rooms holds new_rooms new_holds job now last start set stay same is =
    let caps = capacities rooms holds job start in
    let parts = dealt caps job.need.tasks set in
    let given = dealt-given caps job.need.tasks set (laws.some caps job.need set is).fits.giving in
    ap (λ given. map (λ part. share_of new_rooms job part) (dealt given job.need.tasks set)) same
    ∙ map-same (λ part. share_of new_rooms job part) (λ part. share_of rooms job part) parts
    (All-weaker (IsGiven caps) (λ part. share_of new_rooms job part ≡ share_of rooms job part)
    (λ part one. share-stays rooms new_rooms job part (stay part.place 0 (omega (arith, one.place, length-capacities rooms holds job start))).room) parts given)

placement-stays : LowerLaws → (rooms : List NodeRoom) (holds : List Hold) (new_rooms : List NodeRoom) (new_holds : List Hold) (job : PlanJob) (now last start : ℕ) → now ≤ start → start < last → window_end job start ≤ last → All (StaysBefore rooms holds new_rooms new_holds now last) job.nodes → placement_at new_rooms new_holds job start ≡ placement_at rooms holds job start
unfolding placement_at
placement-stays laws rooms holds new_rooms new_holds job now last start later low within stay =
    ap (λ caps. option_map (λ set. placed_on new_rooms new_holds set) (chosen caps job.need)) same
    ∙ by (chosen (capacities rooms holds job start) job.need) refl
  where
    placed_on : List NodeRoom → List Hold → List ℕ → Placed
    placed_on some_rooms some_holds set = record { id = job.id; start = start; parts = shares_of some_rooms some_holds job start set }

    same : capacities new_rooms new_holds job start ≡ capacities rooms holds job start
    same = capacities-stay rooms holds new_rooms new_holds job now last start later low within stay

    by : (found : Option (List ℕ)) → chosen (capacities rooms holds job start) job.need ≡ found
        → option_map (λ set. placed_on new_rooms new_holds set) found ≡ option_map (λ set. placed_on rooms holds set) found
    by None is = refl
    by (Some set) is = ap (λ parts. Some (record { id = job.id; start = start; parts = parts })) (shares-stay laws rooms holds new_rooms new_holds job now last start set stay same is)

-- each window that begins before the bound ends by the last second
abbrev pub EndBy : PlanJob → ℕ → ℕ → Type 0
EndBy job bound last = (second : ℕ) → second < bound → second ≤ LAST_START → (second < last) × (window_end job second ≤ last)

none-stays : LowerLaws → (rooms : List NodeRoom) (holds : List Hold) (new_rooms : List NodeRoom) (new_holds : List Hold) (job : PlanJob) (before now last bound : ℕ) → EndBy job bound last → before ≤ now → All (StaysBefore rooms holds new_rooms new_holds now last) job.nodes → NoneBefore rooms holds job before bound → NoneBefore new_rooms new_holds job now bound
none-stays laws rooms holds new_rooms new_holds job before now last bound end order stay none second from below low =
    placement-stays laws rooms holds new_rooms new_holds job now last second from (end second below low).0 (end second below low).1 stay
    ∙ none second (omega (arith, order, from)) below low

pub in-time : (job : PlanJob) (bound : ℕ) → EndsInTime job → EndBy job bound FOREVER
in-time job bound short second below low = (omega (arith, low), short second low)

pub ends-by : (job : PlanJob) (start last : ℕ) → start ≤ last → window_end job start ≤ last → EndBy job start last
ends-by job start last within end second below low = (omega (arith, below, within), omega (arith, end, window-order job second start (omega (arith, below))))

start-is : (rooms : List NodeRoom) (holds : List Hold) (job : PlanJob) (start : ℕ) (placed : Placed) → placement_at rooms holds job start ≡ Some placed → placed.start ≡ start
unfolding placement_at
start-is rooms holds job start placed is = by (chosen (capacities rooms holds job start) job.need) is
  where
    by : (found : Option (List ℕ)) → option_map (λ set. record { id = job.id; start = start; parts = shares_of rooms holds job start set }) found ≡ Some placed → placed.start ≡ start
    by None is = absurd cc
    by (Some set) is = cc

at-start : (rooms : List NodeRoom) (holds : List Hold) (job : PlanJob) (lo hi : ℕ) (placed : Placed) → placed_of rooms holds job lo hi ≡ Some placed → placement_at rooms holds job placed.start ≡ Some placed
unfolding placed_of
at-start rooms holds job lo hi placed is = by (first_second rooms holds job lo hi) is
  where
    by : (found : Option ℕ) → option_and_then (λ s. placement_at rooms holds job s) found ≡ Some placed → placement_at rooms holds job placed.start ≡ Some placed
    by None is = absurd cc
    by (Some start) is = ap (λ second. placement_at rooms holds job second) (start-is rooms holds job start placed is) ∙ is

pub placed-stays-before : LowerLaws → (rooms : List NodeRoom) (holds : List Hold) (new_rooms : List NodeRoom) (new_holds : List Hold) (job : PlanJob) (before now last hi until : ℕ) (placed : Placed) → before ≤ now → hi ≤ LAST_START → All (StaysBefore rooms holds new_rooms new_holds now until) job.nodes → placed_of rooms holds job before last ≡ Some placed → now ≤ placed.start → placed.start ≤ hi → placed.start < until → window_end job placed.start ≤ until → placed_of new_rooms new_holds job now hi ≡ Some placed
placed-stays-before laws rooms holds new_rooms new_holds job before now last hi until placed order low stay is from within early end =
    let none = none-stays laws rooms holds new_rooms new_holds job before now until placed.start (ends-by job placed.start until (omega (arith, early)) end) order stay (some-placed laws rooms holds job before last placed (sym is)) in
    let here : placement_at rooms holds job placed.start ≡ Some placed = at-start rooms holds job before last placed is in
    let there : Some placed ≡ placement_at new_rooms new_holds job placed.start = sym (placement-stays laws rooms holds new_rooms new_holds job now until placed.start from early end stay ∙ here) in
    sym (placed-some new_rooms new_holds job now hi placed.start (Some placed) from within (λ second low_second high_second below. none second low_second below (omega (arith, high_second, low))) there refl)

stays-before : (rooms : List NodeRoom) (holds : List Hold) (new_rooms : List NodeRoom) (new_holds : List Hold) (now : ℕ) (nodes : List ℕ) → All (StaysFrom rooms holds new_rooms new_holds now) nodes → All (StaysBefore rooms holds new_rooms new_holds now FOREVER) nodes
stays-before rooms holds new_rooms new_holds now nodes stay =
    All-weaker (StaysFrom rooms holds new_rooms new_holds now) (StaysBefore rooms holds new_rooms new_holds now FOREVER) (λ node stays. record { room = stays.room; cpus = stays.cpus; mem = stays.mem }) nodes stay

pub placed-stays : LowerLaws → (rooms : List NodeRoom) (holds : List Hold) (new_rooms : List NodeRoom) (new_holds : List Hold) (job : PlanJob) (before now last hi : ℕ) (placed : Placed) → EndsInTime job → before ≤ now → hi ≤ LAST_START → All (StaysFrom rooms holds new_rooms new_holds now) job.nodes → placed_of rooms holds job before last ≡ Some placed → now ≤ placed.start → placed.start ≤ hi → placed_of new_rooms new_holds job now hi ≡ Some placed
placed-stays laws rooms holds new_rooms new_holds job before now last hi placed short order low stay is from within =
    placed-stays-before laws rooms holds new_rooms new_holds job before now last hi FOREVER placed order low (stays-before rooms holds new_rooms new_holds now job.nodes stay) is from within
    (omega (arith, within, low)) (short placed.start (omega (arith, within, low)))

pub unplaced-stays : LowerLaws → (rooms : List NodeRoom) (holds : List Hold) (new_rooms : List NodeRoom) (new_holds : List Hold) (job : PlanJob) (before now last : ℕ) → EndsInTime job → before ≤ now → All (StaysFrom rooms holds new_rooms new_holds now) job.nodes → placed_of rooms holds job before last ≡ None → NoneBefore new_rooms new_holds job now (last + 1)
unplaced-stays laws rooms holds new_rooms new_holds job before now last short order stay is =
    none-stays laws rooms holds new_rooms new_holds job before now FOREVER (last + 1) (in-time job (last + 1) short) order (stays-before rooms holds new_rooms new_holds now job.nodes stay) (none-placed laws rooms holds job before last (sym is))

pub unplaced-again : (rooms : List NodeRoom) (holds : List Hold) (job : PlanJob) (now last hi : ℕ) → hi ≤ last → hi ≤ LAST_START → NoneBefore rooms holds job now (last + 1) → placed_of rooms holds job now hi ≡ None
unplaced-again rooms holds job now last hi within low none =
    sym (placed-none rooms holds job now hi (last + 1) (omega (arith, within)) (λ second from to below. none second from below (omega (arith, to, low))))
