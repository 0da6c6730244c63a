-- What is dealt to the chosen places.
use Rattle.std.proofs.Common.{◌≡◌, ℕ, ◌-◌, ◌*◌, ◌≤◌, ◌<◌, min, List, [], ◌∷◌, length, map, All, arith, inl, inr, refl, ap, ◌∙◌, Some, None}
use Rattle.std.proofs.lemmas.Bool.{cases_lt}
use Rattle.std.proofs.lemmas.Nat.{mul-le}
use Rattle.std.proofs.lemmas.List.{get_or_past, length-map}
use Rattle.std.proofs.lemmas.List.Elements.{All-head, All-tail, All-cons, All-nil, All-weaker}
use Rattle.resource_profile.specs.declared.picking.Dealt.{Dealt}
use Rattle.resource_profile.specs.Sets.{capacity, dealt, places}
use Rattle.resource_profile.specs.Choosing.{chosen}
use Rattle.resource_profile.specs.declared.NodeRoom.{NodeRoom}
use Rattle.resource_profile.specs.declared.Hold.{Hold}
use Rattle.backfill_planner.specs.declared.Share.{Share}
use Rattle.backfill_planner.specs.declared.Placed.{Placed}
use Rattle.backfill_planner.specs.declared.job.PlanJob.{PlanJob}
use Rattle.backfill_planner.specs.Giving.{capacities}
use Rattle.backfill_planner.specs.Plans.{share_of, shares_of, placement_at}

-- the part is on a place that gives, and has no more tasks than it can give
pub record IsGiven (caps : List ℕ) (part : Dealt) : Type 0 where
  pub place : part.place < length caps
  pub some : 1 ≤ capacity caps part.place
  pub few : part.tasks ≤ capacity caps part.place

in_range : (caps : List ℕ) (place : ℕ) → 1 ≤ capacity caps place → place < length caps
in_range caps place some = elim (cases_lt place (length caps)) [
  | inl below ↦ below
  | inr past ↦ absurd (omega (arith, some, get_or_past caps place 0 past))
]

pub dealt-given : (caps : List ℕ) (tasks : ℕ) (set : List ℕ) → All (λ place. 1 ≤ capacity caps place) set → All (IsGiven caps) (dealt caps tasks set)
dealt-given caps tasks [] giving = All-nil (IsGiven caps)
dealt-given caps tasks (place ∷ later) giving =
    let some : 1 ≤ capacity caps place = All-head (λ place. 1 ≤ capacity caps place) place later giving in
    let given = min (capacity caps place) (tasks - length later) in
    All-cons (IsGiven caps) (record { place = place; tasks = given }) (dealt caps (tasks - given) later)
    (record { place = in_range caps place some; some = some; few = omega arith })
    (dealt-given caps (tasks - given) later (All-tail (λ place. 1 ≤ capacity caps place) place later giving))

pub places_in_range : (caps : List ℕ) (count : ℕ) (parts : List Dealt) → length caps ≡ count → All (IsGiven caps) parts → All (λ (part : Dealt). part.place < count) parts
places_in_range caps count parts long given = All-weaker (IsGiven caps) (λ (part : Dealt). part.place < count) (λ part is. omega (arith, is.place, long)) parts given

pub tasks_in_range : (caps : List ℕ) (each bound : ℕ) (parts : List Dealt) → All (λ tasks. tasks * each < bound) caps → All (IsGiven caps) parts → All (λ (part : Dealt). part.tasks * each < bound) parts
tasks_in_range caps each bound parts small given = All-weaker (IsGiven caps) (λ (part : Dealt). part.tasks * each < bound)
    (λ part is. omega (arith, mul-le part.tasks each (capacity caps part.place) each is.few (omega arith), small part.place 0 is.place)) parts given

pub placement-none : (rooms : List NodeRoom) (holds : List Hold) (job : PlanJob) (start : ℕ) (caps : List ℕ) → caps ≡ capacities rooms holds job start → chosen caps job.need ≡ None → None ≡ placement_at rooms holds job start
unfolding placement_at
placement-none rooms holds job start caps are none =
    let nowhere : chosen (capacities rooms holds job start) job.need ≡ None = rw are at none in
    rw nowhere refl

abbrev placed_with : PlanJob → ℕ → List Share → Placed
placed_with job start parts = record { id = job.id; start = start; parts = parts }

pub placement-some : (rooms : List NodeRoom) (holds : List Hold) (job : PlanJob) (start : ℕ) (caps : List ℕ) (parts : List Dealt) (shares : List Share) → caps ≡ capacities rooms holds job start → chosen caps job.need ≡ Some (places parts) → parts ≡ dealt caps job.need.tasks (places parts) → shares ≡ map (λ part. share_of rooms job part) parts
    → Some (record { id = job.id; start = start; parts = shares }) ≡ placement_at rooms holds job start
unfolding placement_at
placement-some rooms holds job start caps parts shares are choice dealing sharing =
    let there : chosen (capacities rooms holds job start) job.need ≡ Some (places parts) = rw are at choice in
    let dealt_there : parts ≡ dealt (capacities rooms holds job start) job.need.tasks (places parts) = rw are at dealing in
    let same : shares ≡ shares_of rooms holds job start (places parts) = sharing ∙ ap (λ p. map (λ part. share_of rooms job part) p) dealt_there in
    rw there (ap (λ p. Some (placed_with job start p)) same)

pub length-capacities : (rooms : List NodeRoom) (holds : List Hold) (job : PlanJob) (start : ℕ) → length (capacities rooms holds job start) ≡ length job.nodes
unfolding capacities
length-capacities rooms holds job start = simp length-map

-- the places of a set that gives are in range
pub set_in_range : (caps : List ℕ) (count : ℕ) (set : List ℕ) → length caps ≡ count → All (λ place. 1 ≤ capacity caps place) set → All (λ place. place < count) set
set_in_range caps count set long giving = All-weaker (λ place. 1 ≤ capacity caps place) (λ place. place < count) (λ place some. omega (arith, in_range caps place some, long)) set giving

-- each place of the set gets a task
pub dealt-some : (caps : List ℕ) (tasks : ℕ) (set : List ℕ) → All (λ place. 1 ≤ capacity caps place) set → length set ≤ tasks → All (λ (part : Dealt). 1 ≤ part.tasks) (dealt caps tasks set)
dealt-some caps tasks [] giving few = All-nil (λ (part : Dealt). 1 ≤ part.tasks)
dealt-some caps tasks (place ∷ later) giving few =
    let some : 1 ≤ capacity caps place = All-head (λ place. 1 ≤ capacity caps place) place later giving in
    let given = min (capacity caps place) (tasks - length later) in
    All-cons (λ (part : Dealt). 1 ≤ part.tasks) (record { place = place; tasks = given }) (dealt caps (tasks - given) later)
    (omega (arith, some, few))
    (dealt-some caps (tasks - given) later (All-tail (λ place. 1 ≤ capacity caps place) place later giving) (omega (arith, few)))
