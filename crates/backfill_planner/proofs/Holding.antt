-- What a placed job holds is free, on nodes that differ.
use Rattle.std.proofs.Common.{◌≡◌, ◌≢◌, ℕ, ◌+◌, ◌-◌, ◌≤◌, ◌<◌, min, zero, suc, List, [], ◌∷◌, length, map, All, arith, refl, ap, ◌∙◌, get_or, slice_index, Some}
use Rattle.std.specs.Prelude.{AllPairs}
use Rattle.std.proofs.lemmas.List.{length-map}
use Rattle.std.proofs.lemmas.List.Elements.{All-head, All-tail, All-cons, All-nil, All-weaker, All-map}
use Rattle.resource_profile.specs.declared.NodeRoom.{NodeRoom}
use Rattle.resource_profile.specs.declared.Hold.{Hold}
use Rattle.resource_profile.specs.Free.{room_at, free_cpus, free_mem, least_over}
use Rattle.resource_profile.specs.Profiles.{HasFree}
use Rattle.resource_profile.specs.declared.picking.Dealt.{Dealt}
use Rattle.resource_profile.specs.Sets.{capacity, dealt, places, IsRisingFrom, IsChosen}
use Rattle.backfill_planner.specs.declared.Share.{Share}
use Rattle.backfill_planner.specs.declared.job.PlanJob.{PlanJob}
use Rattle.backfill_planner.specs.Giving.{window_end, is_barred, tasks_given, give, capacities}
use Rattle.backfill_planner.specs.Plans.{share_of, holds_of}
use Rattle.backfill_planner.proofs.Barring.{given-clear}
use Rattle.backfill_planner.proofs.Takes.{takes_what_is_free}
use Rattle.backfill_planner.proofs.Dealing.{IsGiven, dealt-given, set_in_range}

-- what the job holds of the node of one part
abbrev pub hold_of : List NodeRoom → PlanJob → ℕ → Dealt → Hold
hold_of rooms job start part =
    let share = share_of rooms job part in
    record { node = share.node; from = start; until = window_end job start; cpus = share.cpus; mem = share.mem }

-- what a node gives is the capacity of its place
pub capacity-give : (rooms : List NodeRoom) (holds : List Hold) (job : PlanJob) (start place : ℕ) → place < length job.nodes → capacity (capacities rooms holds job start) place ≡ give rooms holds job start (slice_index job.nodes place)
unfolding capacities
capacity-give rooms holds job start place below = at_place job.nodes place below
  where
    at_place : (nodes : List ℕ) (place : ℕ) → place < length nodes → get_or (map (λ node. give rooms holds job start node) nodes) place 0 ≡ give rooms holds job start (get_or nodes place 0)
    at_place [] place below = absurd (omega arith)
    at_place (node ∷ nodes) zero below = refl
    at_place (node ∷ nodes) (suc place) below = at_place nodes place (omega (arith, below))

length-caps : (rooms : List NodeRoom) (holds : List Hold) (job : PlanJob) (start : ℕ) → length (capacities rooms holds job start) ≡ length job.nodes
unfolding capacities
length-caps rooms holds job start = simp length-map

free-part : (rooms : List NodeRoom) (holds : List Hold) (job : PlanJob) (start : ℕ) (part : Dealt) → All (λ node. node < length rooms) job.nodes → start < window_end job start → IsGiven (capacities rooms holds job start) part → HasFree rooms holds (hold_of rooms job start part)
free-part rooms holds job start part nodes window given =
    let below : part.place < length job.nodes = omega (arith, given.place, length-caps rooms holds job start) in
    let node = slice_index job.nodes part.place in
    let cpus = least_over (λ moment. free_cpus rooms holds node moment) start (window_end job start) in
    let mem = least_over (λ moment. free_mem rooms holds node moment) start (window_end job start) in
    let gives = capacity-give rooms holds job start part.place below in
    let some : 1 ≤ give rooms holds job start node = rw gives at given.some in
    let few : part.tasks ≤ give rooms holds job start node = rw gives at given.few in
    let clear = given-clear (is_barred job.barred node start (window_end job start)) (tasks_given job (room_at rooms node) cpus mem) some in
    let takes = takes_what_is_free job (room_at rooms node) cpus mem part.tasks (rw clear at some) (rw clear at few) in
    record { node = nodes part.place 0 below; window = window; cpus = takes.free_cpus; mem = takes.free_mem }

pub free-all : (rooms : List NodeRoom) (holds : List Hold) (job : PlanJob) (start : ℕ) (parts : List Dealt) → All (λ node. node < length rooms) job.nodes → start < window_end job start → All (IsGiven (capacities rooms holds job start)) parts → All (HasFree rooms holds) (map (λ part. hold_of rooms job start part) parts)
free-all rooms holds job start parts nodes window given =
    All-map (HasFree rooms holds) (λ part. hold_of rooms job start part) parts
    (All-weaker (IsGiven (capacities rooms holds job start)) (λ part. HasFree rooms holds (hold_of rooms job start part)) (λ part is. free-part rooms holds job start part nodes window is) parts given)

pairs-cons : {X : Type 0} (R : X → X → Type 0) (x : X) (xs : List X) → All (R x) xs → AllPairs R xs → AllPairs R (x ∷ xs)
pairs-cons R x xs first others zero zero d low high = absurd (omega arith)
pairs-cons R x xs first others zero (suc j) d low high = first j d (omega (arith, high))
pairs-cons R x xs first others (suc i) zero d low high = absurd (omega arith)
pairs-cons R x xs first others (suc i) (suc j) d low high = others i j d (omega (arith, low)) (omega (arith, high))

-- the places of the parts are from `low` on, and there are nodes for them
pub record IsPlaceFrom (low count : ℕ) (part : Dealt) : Type 0 where
  pub from : low ≤ part.place
  pub below : part.place < count

places-from : (caps : List ℕ) (tasks low count : ℕ) (set : List ℕ) → IsRisingFrom low set → All (λ place. place < count) set → All (IsPlaceFrom low count) (dealt caps tasks set)
places-from caps tasks low count [] rising within = All-nil (IsPlaceFrom low count)
places-from caps tasks low count (place ∷ later) rising within =
    let given = min (capacity caps place) (tasks - length later) in
    All-cons (IsPlaceFrom low count) (record { place = place; tasks = given }) (dealt caps (tasks - given) later)
    (record { from = rising.0; below = All-head (λ p. p < count) place later within })
    (All-weaker (IsPlaceFrom (place + 1) count) (IsPlaceFrom low count) (λ part is. record { from = omega (arith, is.from, rising.0); below = is.below }) (dealt caps (tasks - given) later)
    (places-from caps (tasks - given) (place + 1) count later rising.1 (All-tail (λ p. p < count) place later within)))

pub apart-all : (rooms : List NodeRoom) (job : PlanJob) (start : ℕ) (caps : List ℕ) (tasks low : ℕ) (set : List ℕ) → AllPairs (λ one other. one ≢ other) job.nodes → IsRisingFrom low set → All (λ place. place < length job.nodes) set → AllPairs (λ (one other : Hold). one.node ≢ other.node) (map (λ part. hold_of rooms job start part) (dealt caps tasks set))
apart-all rooms job start caps tasks low [] once rising within = λ i j d low_i high. absurd (omega (arith, high))
apart-all rooms job start caps tasks low (place ∷ later) once rising within =
    let given = min (capacity caps place) (tasks - length later) in
    let rest = dealt caps (tasks - given) later in
    let first : Dealt = record { place = place; tasks = given } in
    let others = places-from caps (tasks - given) (place + 1) (length job.nodes) later rising.1 (All-tail (λ p. p < length job.nodes) place later within) in
    pairs-cons (λ (one other : Hold). one.node ≢ other.node) (hold_of rooms job start first) (map (λ part. hold_of rooms job start part) rest)
    (All-map (λ (other : Hold). slice_index job.nodes place ≢ other.node) (λ part. hold_of rooms job start part) rest
    (All-weaker (IsPlaceFrom (place + 1) (length job.nodes)) (λ part. slice_index job.nodes place ≢ slice_index job.nodes part.place) (λ part is. once place part.place 0 (omega (arith, is.from)) is.below) rest others))
    (apart-all rooms job start caps (tasks - given) (place + 1) later once rising.1 (All-tail (λ p. p < length job.nodes) place later within))

-- what the placed job holds, part by part
pub holds-parts : (rooms : List NodeRoom) (job : PlanJob) (id start : ℕ) (parts : List Dealt) (shares : List Share) → shares ≡ map (λ part. share_of rooms job part) parts
    → holds_of job (Some (record { id = id; start = start; parts = shares })) ≡ map (λ part. hold_of rooms job start part) parts
holds-parts rooms job id start parts shares same =
    ap (λ s. map (λ (share : Share). hold_with start (window_end job start) share) s) same ∙ each parts
  where
    hold_with : ℕ → ℕ → Share → Hold
    hold_with start until share = record { node = share.node; from = start; until = until; cpus = share.cpus; mem = share.mem }

    each : (parts : List Dealt) → map (λ (share : Share). hold_with start (window_end job start) share) (map (λ part. share_of rooms job part) parts) ≡ map (λ part. hold_of rooms job start part) parts
    each [] = refl
    each (part ∷ later) = ap (λ rest. hold_of rooms job start part ∷ rest) (each later)

-- what a placed job holds is free, and on nodes that differ
pub record HoldsFree (rooms : List NodeRoom) (holds held : List Hold) : Type 0 where
  pub free : All (HasFree rooms holds) held
  pub apart : AllPairs (λ (one other : Hold). one.node ≢ other.node) held

pub placement-holds : (rooms : List NodeRoom) (holds : List Hold) (job : PlanJob) (id start : ℕ) (caps : List ℕ) (parts : List Dealt) (shares : List Share) → caps ≡ capacities rooms holds job start → IsChosen caps job.need (places parts) → parts ≡ dealt caps job.need.tasks (places parts) → shares ≡ map (λ part. share_of rooms job part) parts
    → All (λ node. node < length rooms) job.nodes → AllPairs (λ one other. one ≢ other) job.nodes → start < window_end job start
    → HoldsFree rooms holds (holds_of job (Some (record { id = id; start = start; parts = shares })))
placement-holds rooms holds job id start caps parts shares are is dealing sharing nodes once window =
    let given : All (IsGiven caps) parts = rw dealing (dealt-given caps job.need.tasks (places parts) is.fits.giving) in
    let given_there : All (IsGiven (capacities rooms holds job start)) parts = rw are at given in
    let long : length caps ≡ length job.nodes = ap length are ∙ length-caps rooms holds job start in
    let within = set_in_range caps (length job.nodes) (places parts) long is.fits.giving in
    let held = holds-parts rooms job id start parts shares sharing in
    let apart_parts : AllPairs (λ (one other : Hold). one.node ≢ other.node) (map (λ part. hold_of rooms job start part) parts) =
    rw dealing (apart-all rooms job start caps job.need.tasks 0 (places parts) once is.fits.rising within) in
    record {
      free = rw held (free-all rooms holds job start parts nodes window given_there);
      apart = rw held apart_parts;
    }
